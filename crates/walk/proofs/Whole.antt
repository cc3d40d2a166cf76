-- The whole walk, over every capture and every width: it ends within as many calls as there are words and one more, the last answer is 20, and
-- what its answers stand for is, in order, the whole capture. By induction on the calls: each but the last brings the place on. Assumes
-- nothing.
use Prim.Native.Nat.{ℕ, zero, suc, ◌+◌, ◌-◌, ◌≤◌, ◌<◌}
use native.Mathlib.Nat.{add-sub_cancel, not-suc-le-zero}
use native.Mathlib.Omega.{arith}
use mathlib.Core.Path.{◌≡◌, refl, sym, ap, ap₂, ◌∙◌, subst}
use mathlib.Core.Bool.{Bool, true, false, cond}
use mathlib.Core.List.{List, [], ◌∷◌, ◌++◌, append-nil}
use lib.Dec.{eqb}
use lib.ListN.{drop, length, take, take-append-drop}
use lib.Seq.{drop-drop}
use borrow.Author.Tests.{eqb-false, eqb-true, ne_eqb}
use Rattle.samples.specs.Layout.{Widths}
use Rattle.samples.specs.Read.{read_part}
use Rattle.samples.proofs.Theorems.{accepted_words}
use Rattle.walk.specs.Pieces.{all_words, ends_with20, gap_answer, stands_for}
use Rattle.walk.specs.Walk.{Answer, after_boundary, answer_at, answers, walk}
use Rattle.walk.proofs.Answers.{Kind, a_gap, a_sample, answer_end, answer_gap, answer_sample, kind_of_lem, moves_on, the_end}

-- one call more
pub one_call : (w : Widths) (ws : List ℕ) (k place : ℕ) {t : Bool} → eqb (answer_at w ws place).number 20 ≡ t → answers w ws (suc k) place ≡ answer_at w ws place ∷ cond t [] (answers w ws k (answer_at w ws place).next)
unfolding answers
one_call w ws k place e = ap (λ (t : Bool). answer_at w ws place ∷ cond t [] (answers w ws k (answer_at w ws place).next)) e

-- what holds of 20 alone, and of any other answer before those of which it holds, holds of as many calls as there are words from the place
-- on, and one more
by_calls : (w : Widths) (ws : List ℕ) (P : ℕ → List Answer → Type 0) → ((place : ℕ) → eqb (answer_at w ws place).number 20 ≡ true → P place (answer_at w ws place ∷ [])) → ((place : ℕ) (rest : List Answer) → eqb (answer_at w ws place).number 20 ≡ false → P (answer_at w ws place).next rest → P place (answer_at w ws place ∷ rest)) → (k place : ℕ) → length ws - place < k → P place (answers w ws k place)
by_calls w ws P end on zero place h = absurd (not-suc-le-zero h)
by_calls w ws P end on (suc k) place h = go (eqb (answer_at w ws place).number 20) refl (by_calls w ws P end on k (answer_at w ws place).next)
  where
    next : ℕ
    next = (answer_at w ws place).next

    go : (t : Bool) → eqb (answer_at w ws place).number 20 ≡ t → (length ws - next < k → P next (answers w ws k next)) → P place (answers w ws (suc k) place)
    go true e more = subst (P place) (sym (one_call w ws k place e)) (end place e)
    go false e more =
        let moves = moves_on w ws place e in
        subst (P place) (sym (one_call w ws k place e)) (on place (answers w ws k next) e (more (omega (arith, moves.0, moves.1))))

-- ---- how many calls there are

-- others change nothing
calls_same : (w : Widths) (ws : List ℕ) (k m place : ℕ) → length ws - place < k → length ws - place < m → answers w ws k place ≡ answers w ws m place
calls_same w ws k m place h g = by_calls w ws (λ (n : ℕ) (l : List Answer). (m : ℕ) → length ws - n < m → l ≡ answers w ws m n) end on k place h m g
  where
    end : (n : ℕ) → eqb (answer_at w ws n).number 20 ≡ true → (m : ℕ) → length ws - n < m → answer_at w ws n ∷ [] ≡ answers w ws m n
    end n e zero g = absurd (not-suc-le-zero g)
    end n e (suc m) g = sym (one_call w ws m n e)

    on : (n : ℕ) (rest : List Answer) → eqb (answer_at w ws n).number 20 ≡ false → ((m : ℕ) → length ws - (answer_at w ws n).next < m → rest ≡ answers w ws m (answer_at w ws n).next) → (m : ℕ) → length ws - n < m → answer_at w ws n ∷ rest ≡ answers w ws m n
    on n rest e more zero g = absurd (not-suc-le-zero g)
    on n rest e more (suc m) g =
        let moves = moves_on w ws n e in
        ap (λ (l : List Answer). answer_at w ws n ∷ l) (more m (omega (arith, moves.0, moves.1))) ∙ sym (one_call w ws m n e)

-- the whole walk is what any number of calls that is above the words gives
pub enough_calls : (w : Widths) (ws : List ℕ) (k : ℕ) → length ws < k → answers w ws k 0 ≡ walk w ws
unfolding walk
enough_calls w ws k h = calls_same w ws k (suc (length ws)) 0 (omega arith) (omega arith)

calls_length : (w : Widths) (ws : List ℕ) (k place : ℕ) → length (answers w ws k place) ≤ k
unfolding answers
calls_length w ws zero place = omega arith
calls_length w ws (suc k) place = go (eqb (answer_at w ws place).number 20) (calls_length w ws k (answer_at w ws place).next)
  where
    go : (t : Bool) → length (answers w ws k (answer_at w ws place).next) ≤ k → suc (length (cond t [] (answers w ws k (answer_at w ws place).next))) ≤ suc k
    go true few = omega arith
    go false few = omega (arith, few)

-- it has at most as many answers
pub walk_length : (w : Widths) (ws : List ℕ) → length (walk w ws) ≤ suc (length ws)
unfolding walk
walk_length w ws = calls_length w ws (suc (length ws)) 0

-- ---- the last answer is 20, and none before it

pub walk_ends : (w : Widths) (ws : List ℕ) → ends_with20 (walk w ws) ≡ true
unfolding walk ends_with20
walk_ends w ws =
    by_calls w ws (λ (n : ℕ) (l : List Answer). ends_with20 l ≡ true)
    (λ n e. ap (λ (t : Bool). cond t true false) e)
    (λ n rest e more. ap (λ (t : Bool). cond t (eqb (length rest) 0) (ends_with20 rest)) e ∙ more)
    (suc (length ws))
    0
    (omega arith)

-- ---- what the answers stand for are all the words, in order: nothing is counted twice and nothing passed over

-- with a gap, its words
stands_gap : (w : Widths) (ws : List ℕ) (n place bad k : ℕ) → 21 ≤ n → stands_for w ws (gap_answer n place bad k) ≡ take k (drop place ws)
unfolding stands_for
stands_gap w ws n place bad k h =
    simp (ne_eqb n 0 (λ e. omega (arith, e, h)), ne_eqb n 20 (λ e. omega (arith, e, h)), add-sub_cancel)

module _ (w : Widths) (ws : List ℕ) (place : ℕ) where
  abbrev a : Answer
  a = answer_at w ws place

  -- with 20, all that is left
  stands_end : a.number ≡ 20 → stands_for w ws a ≡ drop place ws
  unfolding stands_for answer_at
  stands_end e = ap (stands_for w ws) (answer_end w ws place e)

  -- else the words up to the next place
  stands_for_lem : eqb a.number 20 ≡ false → stands_for w ws a ++ drop a.next ws ≡ drop place ws
  unfolding stands_for answer_at
  stands_for_lem e = go (kind_of_lem w (drop place ws))
    where
      go : Kind (read_part w (drop place ws)).number → stands_for w ws a ++ drop a.next ws ≡ drop place ws
      go (a_sample q) =
          ap (λ (b : Answer). stands_for w ws b ++ drop b.next ws) (answer_sample w ws place q)
          ∙ ap₂ (λ (x y : List ℕ). x ++ y) (sym (accepted_words w (drop place ws) q)) (sym (drop-drop (read_part w (drop place ws)).count place ws))
          ∙ take-append-drop (read_part w (drop place ws)).count (drop place ws)
      go (the_end q) = absurd (eqb-false a.number 20 e q)
      go (a_gap h most) =
          let k : ℕ = after_boundary (drop place ws) (read_part w (drop place ws)).place in
          ap (λ (b : Answer). stands_for w ws b ++ drop b.next ws) (answer_gap w ws place h)
          ∙ ap₂ (λ (x y : List ℕ). x ++ y) (stands_gap w ws (read_part w (drop place ws)).number place (place + (read_part w (drop place ws)).place) k h) (sym (drop-drop k place ws))
          ∙ take-append-drop k (drop place ws)

pub walk_covers : (w : Widths) (ws : List ℕ) → all_words w ws (walk w ws) ≡ ws
unfolding walk all_words
walk_covers w ws =
    by_calls w ws (λ (n : ℕ) (l : List Answer). all_words w ws l ≡ drop n ws)
    (λ n e. append-nil (stands_for w ws (answer_at w ws n)) ∙ stands_end w ws n (eqb-true (answer_at w ws n).number 20 e))
    (λ n rest e more. ap (λ (l : List ℕ). stands_for w ws (answer_at w ws n) ++ l) more ∙ stands_for_lem w ws n e)
    (suc (length ws))
    0
    (omega arith)
