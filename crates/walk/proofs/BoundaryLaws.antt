-- Laws of boundaries: a word by its number alone, the place after the first one, and the same by places and numbers alone. By induction on the
-- words that are left. Assumes nothing.
use Prim.Native.Nat.{ℕ, zero, suc, ◌+◌, ◌-◌, ◌≤◌, ◌<◌}
use native.Mathlib.Nat.{add-zero}
use native.Mathlib.Omega.{arith}
use mathlib.Core.Path.{◌≡◌, refl, sym, ap, ◌∙◌, subst}
use mathlib.Core.Logic.{◌↔◌}
use mathlib.Core.Bool.{Bool, true, false, cond, false≢true}
use mathlib.Core.List.{List, ◌∷◌}
use lib.Dec.{ltb}
use Rattle.std.proofs.lemmas.Bool.Decides.{nat_tests}
use lib.ListN.{drop, get_or, length, drop_of_length-le}
use lib.Seq.{drop-cons}
use borrow.Author.Tests.{ltb-false, ltb-true}
use Rattle.words.specs.Word.{marked}
use Rattle.walk.specs.Pieces.{Boundary, EndsAt}
use Rattle.walk.specs.Walk.{after_boundary, is_boundary, through}

-- ---- a word

-- a boundary by its number alone
pub boundary_range : (x : ℕ) → is_boundary x ≡ true ↔ Boundary x
boundary_range x = grind (arith, nat_tests)

-- so a word without the mark is none
pub unmarked : (x : ℕ) → marked x ≡ false → Boundary x → ⊥
unmarked x e at = grind (arith, nat_tests)

-- ---- the place after the first boundary, from a place on

through_word : (x : ℕ) (ws : List ℕ) {t : Bool} → is_boundary x ≡ t → through (x ∷ ws) ≡ suc (cond t 0 (through ws))
unfolding through
through_word x ws e = ap (λ (t : Bool). suc (cond t 0 (through ws))) e

module _ (ws : List ℕ) (i : ℕ) where
  through_here : {t : Bool} → i < length ws → is_boundary (get_or ws i 0) ≡ t → through (drop i ws) ≡ suc (cond t 0 (through (drop (suc i) ws)))
  through_here there e = ap through (drop-cons ws i 0 there) ∙ through_word (get_or ws i 0) (drop (suc i) ws) e

  -- it is the next one, or that of the next one on, or the end
  pub after_here : i < length ws → is_boundary (get_or ws i 0) ≡ true → after_boundary ws i ≡ suc i
  after_here there e = omega (arith, through_here there e)

  pub after_next : i < length ws → is_boundary (get_or ws i 0) ≡ false → after_boundary ws i ≡ after_boundary ws (suc i)
  after_next there e = omega (arith, through_here there e)

  pub after_end : length ws ≤ i → after_boundary ws i ≡ i
  unfolding through
  after_end past = ap (λ (l : List ℕ). i + through l) (drop_of_length-le ws past) ∙ add-zero i

-- ---- the same by places

-- one word alone, a boundary or the capture's last
one_ends : (ws : List ℕ) (bad : ℕ) → bad < length ws → (suc bad < length ws → Boundary (get_or ws bad 0)) → EndsAt ws bad (suc bad)
one_ends ws bad there here =
    record {
      after = omega arith;
      within = omega arith;
      none = λ j a b at. omega (arith, a, b);
      last = λ h. let same : bad ≡ suc bad - 1 = omega arith in subst (λ (k : ℕ). Boundary (get_or ws k 0)) same (here h);
    }

-- one more word in front
more_ends : (ws : List ℕ) (bad n : ℕ) → is_boundary (get_or ws bad 0) ≡ false → EndsAt ws (suc bad) n → EndsAt ws bad n
more_ends ws bad n other h = record { after = omega (arith, h.after); within = h.within; none = λ j a. before j (ltb bad j) refl a; last = h.last }
  where
    before : (j : ℕ) (t : Bool) → ltb bad j ≡ t → bad ≤ j → suc j < n → Boundary (get_or ws j 0) → ⊥
    before j true q a b at = h.none j (ltb-true bad j q) b at
    before j false q a b at =
        let same : j ≡ bad = omega (arith, ltb-false bad j q) in
        false≢true (sym other ∙ (boundary_range (get_or ws bad 0)).1 (subst (λ (k : ℕ). Boundary (get_or ws k 0)) same at))

-- the definition's place is such a one
pub after_ends : (ws : List ℕ) (bad : ℕ) → bad < length ws → EndsAt ws bad (after_boundary ws bad)
after_ends ws bad there = ends (length ws - suc bad) bad (omega arith)
  where
    -- with m words after the bad one
    ends : (m bad : ℕ) → bad + suc m ≡ length ws → EndsAt ws bad (after_boundary ws bad)
    ends zero bad e = go (is_boundary (get_or ws bad 0)) refl
      where
        alone : EndsAt ws bad (suc bad)
        alone = one_ends ws bad (omega arith) (λ h. absurd (omega (arith, h)))

        go : (t : Bool) → is_boundary (get_or ws bad 0) ≡ t → EndsAt ws bad (after_boundary ws bad)
        go true q = subst (EndsAt ws bad) (sym (after_here ws bad (omega arith) q)) alone
        go false q = subst (EndsAt ws bad) (sym (after_next ws bad (omega arith) q ∙ after_end ws (suc bad) (omega arith))) alone
    ends (suc m) bad e = go (is_boundary (get_or ws bad 0)) refl (ends m (suc bad) (omega arith))
      where
        go : (t : Bool) → is_boundary (get_or ws bad 0) ≡ t → EndsAt ws (suc bad) (after_boundary ws (suc bad)) → EndsAt ws bad (after_boundary ws bad)
        go true q after = subst (EndsAt ws bad) (sym (after_here ws bad (omega arith) q)) (one_ends ws bad (omega arith) (λ h. (boundary_range (get_or ws bad 0)).0 q))
        go false q after = more_ends ws bad (after_boundary ws bad) q (subst (EndsAt ws (suc bad)) (sym (after_next ws bad (omega arith) q)) after)

-- and at one place only
not_before : (ws : List ℕ) (bad m n : ℕ) → EndsAt ws bad m → EndsAt ws bad n → m < n → ⊥
not_before ws bad m n a b h =
    b.none (m - 1) (omega (arith, a.after)) (omega (arith, a.after, h)) (a.last (omega (arith, h, b.within)))

pub ends_only : (ws : List ℕ) (bad m n : ℕ) → EndsAt ws bad m → EndsAt ws bad n → m ≡ n
ends_only ws bad m n a b = omega (arith, not_before ws bad m n a b, not_before ws bad n m b a)
