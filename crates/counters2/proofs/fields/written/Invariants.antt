-- What holds at each turn of the loop.
use Rattle.std.proofs.Common.{◌≡◌, ◌-◌, ◌*◌, ◌/◌, ◌^◌}
use Rattle.counters2.specs.Fields.{written_fields}
use Rattle.counters2.proofs.fields.written.Given as goal

abbrev pub invariant-loop-i : goal.invariant-loop-i
invariant-loop-i l = l.result ≡ written_fields (16 - l.i) l.low (l.old / 2 ^ (4 * l.i)) (l.new / 2 ^ (4 * l.i))
