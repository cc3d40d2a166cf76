-- `words::number::number_by` meets its contract: the sum is the number of the bytes from the place on, so it has at most seven bytes before a
-- turn and fits. Assumes nothing.
use borrow.Author.Rules.{rules}
use Prim.Native.Nat.{suc, ◌+◌, ◌-◌, min}
use native.Mathlib.Omega.{arith}
use mathlib.Core.Path.{◌≡◌}
use Rattle.words.proofs.NumberLaws.{number_more, number_none, number_room}
use Rattle.words.proofs.number.number_by.Goals as goal

pub loop-place-init : goal.loop-place-init
loop-place-init g c =
    number_none (λ k v. g.F.Fn.post c.args.byte (c.min-place.result + k, tt) v) (min c.args.size 8 - c.min-place.result) (omega (arith, c.min-place.ensures))

pub overflow_mul-sum : goal.overflow_mul-sum
overflow_mul-sum g c = omega (arith, number_room (omega arith) c.loop-place.invariant)

pub overflow_add-sum : goal.overflow_add-sum
overflow_add-sum g c = omega (arith, number_room (omega arith) c.loop-place.invariant)

pub loop-place-preserved : goal.loop-place-preserved
loop-place-preserved g c =
    let l = c.loop-place in
    let more : min c.args.size 8 - (l.place - 1) ≡ suc (min c.args.size 8 - l.place) = omega (arith, c.min-place.ensures, l.auto.place) in
    rw more
    (number_more (λ k v. g.F.Fn.post c.args.byte (k, tt) v) l.place (l.place - 1) (min c.args.size 8 - l.place) l.sum c.byte.result (omega arith) l.invariant (search rules) c.byte.ensures)
