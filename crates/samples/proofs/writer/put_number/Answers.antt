-- `samples::writer::put_number` meets its contract: at each turn what is left to put is the words of the rest's low bytes, from the next
-- place on. Assumes nothing.
use Prim.Native.Nat.{ℕ, suc, ◌+◌, ◌-◌, ◌/◌, ◌%◌}
use native.Mathlib.Nat.{add-zero, sub-zero}
use native.Mathlib.Omega.{arith}
use mathlib.Core.Path.{◌≡◌, refl, sym, ap, ap₂, ◌∙◌}
use mathlib.Core.Bool.{false}
use mathlib.Core.List.{List}
use lib.ListN.{set}
use Rattle.words.specs.Bytes.{low_bytes}
use Rattle.words.specs.Word.{word_of}
use Rattle.samples.proofs.writer.put_number.Invariants.{put}
use Rattle.samples.proofs.writer.put_number.Goals as goal

put-suc : (l : List ℕ) (p n x : ℕ) → put l p (suc n) x ≡ put (set l p (word_of false (x % 256))) (suc p) n (x / 256)
unfolding low_bytes
put-suc l p n x = refl

pub loop-i-init : goal.loop-i-init
loop-i-init c = rw (add-zero, sub-zero)

pub loop-i-preserved : goal.loop-i-preserved
loop-i-preserved c =
    let a = c.args in
    let l = c.loop-i in
    let p = a.at + l.i in
    let n = a.size - (l.i + 1) in
    let more : a.size - l.i ≡ suc n = omega arith in
    let next : suc p ≡ a.at + (l.i + 1) = omega arith in
    l.invariant
    ∙ ap (λ (k : ℕ). put l.out p k l.rest) more
    ∙ put-suc l.out p n l.rest
    ∙ ap₂ (λ (w k : ℕ). put (set l.out p w) k n (l.rest / 256)) (sym c.word.ensures) next

pub returns : goal.returns
unfolding low_bytes
returns c =
    let a = c.args in
    let l = c.loop-i in
    let none : a.size - l.i ≡ 0 = omega arith in
    sym (l.invariant ∙ ap (λ (k : ℕ). put l.out (a.at + l.i) k l.rest) none)
