-- What holds at each turn of the loop: the sum is the number of the bytes from the place on.
use Prim.Native.Nat.{◌+◌, ◌-◌, min}
use Rattle.words.specs.Bytes.{IsNumberBy}
use Rattle.words.proofs.number.number_by.Given as goal

abbrev pub invariant-loop-place : goal.invariant-loop-place
invariant-loop-place g l = IsNumberBy (λ k v. goal.F-post g l.byte (l.place + k) v) (min l.size 8 - l.place) l.sum
