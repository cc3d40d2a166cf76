-- `script::line::put_digits`: the digits from `place` on stand in their places.
use mathlib.Core.Path.{◌≡◌}
use Prim.Native.Nat.{◌+◌, ◌-◌, ◌/◌, ◌^◌}
use lib.ListN.{length}
use lib.Seq.{sets}
use Rattle.io.specs.Digits.{last_digits}
use Rattle.script.proofs.line.put_digits.Given as goal

abbrev pub invariant-loop-place : goal.invariant-loop-place
invariant-loop-place l = (length l.out ≡ length l.initial.out) × (l.rest ≡ l.n / 10 ^ (l.size - l.place)) × (l.out ≡ sets l.initial.out (l.at + l.place) (last_digits 10 (l.size - l.place) l.n))
