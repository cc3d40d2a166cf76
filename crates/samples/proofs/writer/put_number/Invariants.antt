-- What holds at each turn of the loop.
use Prim.Native.Nat.{ℕ, ◌+◌, ◌-◌}
use mathlib.Core.Path.{◌≡◌}
use mathlib.Core.List.{List}
use lib.Seq.{sets}
use Rattle.words.specs.Bytes.{low_bytes}
use Rattle.words.proofs.PutLaws.{plain}
use Rattle.samples.proofs.writer.put_number.Given as goal

-- the words of n low bytes of a number, put from a place on
abbrev pub put : List ℕ → ℕ → ℕ → ℕ → List ℕ
put l p n x = sets l p (plain (low_bytes n x))

abbrev pub invariant-loop-i : goal.invariant-loop-i
invariant-loop-i l =
    put l.initial.out l.at l.size l.number ≡ put l.out (l.at + l.i) (l.size - l.i) l.rest
