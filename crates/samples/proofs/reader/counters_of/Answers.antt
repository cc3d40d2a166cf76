-- `samples::reader::counters_of` meets its contract: at each turn the counters before this one are the numbers of their bytes. Assumes nothing.
use borrow.Author.Rules.{rules}
use Prim.Native.Nat.{ℕ, ◌+◌, ◌*◌, ◌<◌}
use native.Mathlib.Omega.{arith}
use mathlib.Core.Path.{sym, ap, ◌∙◌}
use mathlib.Core.List.{List, map}
use lib.ListN.{drop, take}
use lib.Seq.{drop-drop}
use Rattle.std.proofs.Common.{◌≢◌, length, get_or-set_other, get_or-set_same, below_more}
use Rattle.words.specs.Bytes.{number}
use Rattle.words.specs.Word.{byte_of}
use Rattle.samples.proofs.Gather.{gather_each}
use Rattle.samples.proofs.ReadLaws.{number_read}
use Rattle.samples.proofs.reader.counters_of.Goals as goal

pub overflow_cast-counter : goal.overflow_cast-counter
overflow_cast-counter c = record { fits = number_read 4 (c.args.start + 4 * c.loop-i.i) c.args.part.now _ c.number_at.ensures }

pub loop-i-preserved : goal.loop-i-preserved
loop-i-preserved c =
    below_more _ _
    (λ k h. let other : k ≢ c.loop-i.i = omega arith in rw get_or-set_other (c.loop-i.invariant k h))
    (let there : c.loop-i.i < length c.loop-i.counter-items = omega arith in
    rw get_or-set_same (c.number_at.ensures ∙ ap (λ (r : List ℕ). number (take 4 r)) (sym (drop-drop (4 * c.loop-i.i) c.args.start (map byte_of c.args.part.now)))))

pub returns : goal.returns
returns c =
    gather_each c.loop-i.counter-items (drop c.args.start (map byte_of c.args.part.now)) (search rules) (λ i h. c.loop-i.invariant i (omega arith))
