-- `script2::line::put_words` meets its contract: after i turns the first i words stand there, each in at most six places. Assumes nothing.
use Prim.Native.Nat.{ℕ, ◌+◌}
use native.Mathlib.Nat.{add-zero}
use native.Mathlib.Omega.{arith}
use mathlib.Core.Path.{◌≡◌, refl, sym, ap, ap₂, ◌∙◌}
use mathlib.Core.List.{List, [], ◌∷◌}
use lib.ListN.{length, set, take, length-append, length-set}
use lib.Seq.{sets, length-sets, take_all}
use Rattle.words.proofs.PutLaws.{sets_append}
use Rattle.script2.specs.Line.{spaced}
use Rattle.script2.proofs.LineLaws.{words_end, words_text}
use Rattle.script2.proofs.line.put_words.Goals as goal

pub loop-word-init : goal.loop-word-init
unfolding spaced
loop-word-init c = (omega arith, refl, sym (add-zero c.args.at), refl)

pub put_word-end-requires : goal.put_word-end-requires
put_word-end-requires c = simp length-set (omega arith)

pub loop-word-preserved : goal.loop-word-preserved
loop-word-preserved c =
    let a = c.args in
    let v = c.loop-word in
    let inv = v.invariant in
    let e = c.put_word-end.ensures in
    let here = c.loop-word-test.true in (
      omega arith,
      ap length e.out_after ∙ simp (length-sets, length-set) inv.1,
      words_end a.words.now a.out.now a.at v.word-index here inv.2 inv.3 e.value,
      e.out_after ∙ words_text a.words.now a.out.now a.at v.word-index here inv.2 inv.3,
    )

pub returns : goal.returns
returns c =
    let a = c.args in
    let v = c.loop-word in
    let all : spaced (take v.word-index a.words.now) ≡ spaced a.words.now = ap spaced (take_all v.word-index a.words.now (omega arith)) in
    let place = v.invariant.2 ∙ ap (λ (l : List ℕ). a.at + length l) all in
    record {
      value = omega (arith, length-append (spaced a.words.now) (10 ∷ []));
      upper_bound = omega arith;
      out_after = ap₂ (λ (l : List ℕ) (i : ℕ). set l i 10) (v.invariant.3 ∙ ap (sets a.out.now a.at) all) place ∙ sym (sets_append a.out.now (spaced a.words.now) (10 ∷ []) a.at);
    }
