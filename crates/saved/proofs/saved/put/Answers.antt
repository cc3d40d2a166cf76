-- `saved::saved::put` meets its contract: after i turns the first i bytes of the set are put. Assumes nothing.
use borrow.Author.Rules.{rules}
use Prim.Native.Nat.{ℕ}
use native.Mathlib.Omega.{arith}
use native.Mathlib.Numerals.{add-one}
use mathlib.Core.Path.{◌≡◌, sym, ap, ap₂, ◌∙◌}
use mathlib.Core.Bool.{Bool, cond}
use mathlib.Core.List.{List, ◌++◌}
use lib.ListN.{drop, length, set, take}
use borrow.Author.Tests.{le-leb, lt-leb}
use Rattle.words.proofs.FillLaws.{fill_all, fill_suc}
use Rattle.saved.specs.Saved.{saved_bytes, saved_into}
use Rattle.saved.proofs.SavedLaws.{saved_length}
use Rattle.saved.proofs.saved.put.Goals as goal

pub returns-then-out-lt88-clause-out_after : goal.returns-then-out-lt88-clause-out_after
unfolding saved_into
returns-then-out-lt88-clause-out_after c =
    let out = c.args.out.now in
    ap (λ (b : Bool). cond b (saved_bytes c.args.set ++ drop 88 out) out) (sym (lt-leb 88 (length out) (search rules)))

pub loop-i-preserved : goal.loop-i-preserved
loop-i-preserved c =
    let a = c.args in
    let l = c.loop-i in
    let long : length (saved_bytes a.set) ≡ 88 = saved_length a.set (search rules) in
    rw add-one
    (ap₂ (λ (o : List ℕ) (v : ℕ). set o l.i v) l.invariant c.byte_of.ensures
    ∙ fill_suc (saved_bytes a.set) a.out.now l.i (omega arith) (omega arith))

pub returns-clause-out_after : goal.returns-clause-out_after
unfolding saved_into
returns-clause-out_after c =
    let a = c.args in
    let l = c.loop-i in
    let s = a.set in
    let out = a.out.now in
    let end : l.i ≡ 88 = omega arith in
    l.invariant
    ∙ ap (λ (k : ℕ). take k (saved_bytes s) ++ drop k out) end
    ∙ fill_all (saved_bytes s) out 88 (saved_length s (search rules))
    ∙ ap (λ (b : Bool). cond b (saved_bytes s ++ drop 88 out) out) (sym (le-leb 88 (length out) (search rules)))
