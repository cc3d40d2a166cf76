-- The chip's address map and the ledger's: what stands at an address by the one is what the other says there, range by range and, below 13, number by number.
-- Assumes nothing.
use Prim.Native.Nat.{ℕ, ◌-◌, ◌%◌, ◌≤◌, ◌<◌}
use native.Mathlib.Omega.{arith}
use mathlib.Core.Path.{◌≡◌, refl, sym, ap, ◌∙◌, subst}
use mathlib.Core.Bool.{Bool, true, false, cond, not, ◌&&◌, ◌||◌}
use mathlib.Core.List.{List, [], ◌∷◌}
use lib.Dec.{leb, ltb}
use lib.ListN.{get_or}
use borrow.Author.Tests.{le-leb, le-ltb, leb-false, leb-true, lt-leb, lt-ltb, ne_eqb}
use Rattle.chip.specs.Place.{between}
use Rattle.chip.proofs.AddressLaws.{same, up_to}
use Rattle.chip2.specs.Place.{place_of, register_of}
use Rattle.chip2.specs.declared.place.Place.{Place}
use Rattle.chip2.specs.declared.place.Place.TheVariants.{Beyond, Nowhere, Source, Counter, Shadow, Trigger}
use Rattle.chip2.proofs.AddressLaws.{place_beyond, place_counter, place_shadow, place_source, place_trigger}
use Rattle.history.proofs.Addresses.{Below, below, tested}
use Rattle.history2.specs.Ledger2.{Entry, Ledger, by_range, tells, vacant}

-- ---- the ledger's ranges

-- the tests that the ledger makes of an address
abbrev tests : ℕ → List Bool
tests a = ltb 127 a ∷ vacant a ∷ leb 96 a ∷ leb 80 a ∷ leb 64 a ∷ leb 32 a ∷ []

module _ (a : ℕ) (l : Ledger) (t h c s r : Entry) where
  picked : List Bool → Entry
  picked bs =
      cond (get_or bs 0 false) (tells 1 0 l)
      (cond (get_or bs 1 false) (tells 2 0 l)
      (cond (get_or bs 2 false) t (cond (get_or bs 3 false) h (cond (get_or bs 4 false) c (cond (get_or bs 5 false) s r)))))

  pub range_beyond : 127 < a → by_range a l t h c s r ≡ tells 1 0 l
  unfolding by_range
  range_beyond p = simp (lt-ltb 127 a p)

  pub range_vacant : a ≤ 127 → vacant a ≡ true → by_range a l t h c s r ≡ tells 2 0 l
  unfolding by_range
  range_vacant p v = simp (le-ltb 127 a p, v)

  pub range_trigger : 96 ≤ a → a ≤ 127 → by_range a l t h c s r ≡ t
  unfolding by_range picked vacant
  range_trigger p q = ap picked (tested 96 127 tests (false ∷ false ∷ true ∷ true ∷ true ∷ true ∷ []) refl a p q q)

  pub range_shadow : 80 ≤ a → a ≤ 95 → by_range a l t h c s r ≡ h
  unfolding by_range picked vacant
  range_shadow p q = ap picked (tested 80 95 tests (false ∷ false ∷ false ∷ true ∷ true ∷ true ∷ []) refl a p q (omega arith))

  pub range_counter : 64 ≤ a → a ≤ 79 → by_range a l t h c s r ≡ c
  unfolding by_range picked vacant
  range_counter p q = ap picked (tested 64 79 tests (false ∷ false ∷ false ∷ false ∷ true ∷ true ∷ []) refl a p q (omega arith))

  pub range_source : 32 ≤ a → a ≤ 39 → by_range a l t h c s r ≡ s
  unfolding by_range picked vacant
  range_source p q = ap picked (tested 32 39 tests (false ∷ false ∷ false ∷ false ∷ false ∷ true ∷ []) refl a p q (omega arith))

-- ---- the chip's places, by the same ranges

place_low : (a : ℕ) → a < 32 → place_of a ≡ register_of a
unfolding place_of
place_low a p = simp (lt-ltb a 32 p)

register_none : (a : ℕ) → 13 ≤ a → register_of a ≡ Nowhere
unfolding register_of
register_none a p =
    simp (ne_eqb a 0 (λ e. omega arith), ne_eqb a 1 (λ e. omega arith), ne_eqb a 2 (λ e. omega arith), ne_eqb a 4 (λ e. omega arith), ne_eqb a 5 (λ e. omega arith), ne_eqb a 6 (λ e. omega arith), ne_eqb a 7 (λ e. omega arith), ne_eqb a 8 (λ e. omega arith), ne_eqb a 10 (λ e. omega arith), ne_eqb a 12 (λ e. omega arith))

place_gap : (a : ℕ) → 40 ≤ a → a ≤ 63 → place_of a ≡ Nowhere
unfolding place_of
place_gap a p q =
    simp (le-ltb a 32 (omega arith), lt-leb a 39 (omega arith), le-leb a 79 (omega arith), lt-leb 64 a (omega arith), le-leb a 95 (omega arith), lt-leb 80 a (omega arith), le-leb a 111 (omega arith), lt-leb 96 a (omega arith), le-leb a 127 (omega arith), lt-leb 112 a (omega arith), le-ltb 127 a (omega arith))

-- what holds of each address and what stands there
module _ (P : ℕ → Place → Type 0) (low : Below 13 (λ a. P a (register_of a)))
    (source : (a : ℕ) → 32 ≤ a → a ≤ 39 → P a (Source (a - 32)))
    (counter : (a : ℕ) → 64 ≤ a → a ≤ 79 → P a (Counter (a - 64)))
    (shadow : (a : ℕ) → 80 ≤ a → a ≤ 95 → P a (Shadow (a - 80)))
    (trigger : (a : ℕ) → 96 ≤ a → a ≤ 127 → P a (Trigger (leb 112 a) (a % 16)))
    (nothing : (a : ℕ) → a ≤ 127 → vacant a ≡ true → P a Nowhere)
    (beyond : (a : ℕ) → 127 < a → P a Beyond) where
  pub by_place : (a : ℕ) → P a (place_of a)
  unfolding vacant
  by_place a = go (leb a 12) refl (leb a 31) refl (leb a 39) refl (leb a 63) refl (leb a 79) refl (leb a 95) refl (leb a 127) refl
    where
      -- the test of a range
      in_range : (first last : ℕ) → first ≤ a → a ≤ last → between first last a ≡ true
      in_range first last p q = λ i. le-leb a last q i && le-leb first a p i

      empty : (first last : ℕ) → up_to 128 (λ b. not (between first last b) || same (vacant b ∷ []) (true ∷ [])) ≡ true → first ≤ a → a ≤ last → a ≤ 127 → vacant a ≡ true
      empty first last each p q h = ap (λ (bs : List Bool). get_or bs 0 false) (tested first last (λ b. vacant b ∷ []) (true ∷ []) each a p q h)

      go : (t : Bool) → leb a 12 ≡ t → (u : Bool) → leb a 31 ≡ u → (v : Bool) → leb a 39 ≡ v → (w : Bool) → leb a 63 ≡ w → (x : Bool) → leb a 79 ≡ x → (y : Bool) → leb a 95 ≡ y → (z : Bool) → leb a 127 ≡ z → P a (place_of a)
      go true p u q v r w s x m y n z o =
          let k : a ≤ 12 = leb-true a 12 p in
          subst (P a) (sym (place_low a (omega arith))) (below 13 (λ b. P b (register_of b)) low a (omega arith))
      go false p true q v r w s x m y n z o =
          let h : 12 < a = leb-false a 12 p in
          let k : a ≤ 31 = leb-true a 31 q in
          subst (P a) (sym (place_low a (omega arith) ∙ register_none a (omega arith))) (nothing a (omega arith) (empty 13 31 refl (omega arith) k (omega arith)))
      go false p false q true r w s x m y n z o =
          let h : 31 < a = leb-false a 31 q in
          let k : a ≤ 39 = leb-true a 39 r in
          subst (P a) (sym (place_source a (in_range 32 39 h k))) (source a h k)
      go false p false q false r true s x m y n z o =
          let h : 39 < a = leb-false a 39 r in
          let k : a ≤ 63 = leb-true a 63 s in
          subst (P a) (sym (place_gap a h k)) (nothing a (omega arith) (empty 40 63 refl h k (omega arith)))
      go false p false q false r false s true m y n z o =
          let h : 63 < a = leb-false a 63 s in
          let k : a ≤ 79 = leb-true a 79 m in
          subst (P a) (sym (place_counter a (in_range 64 79 h k))) (counter a h k)
      go false p false q false r false s false m true n z o =
          let h : 79 < a = leb-false a 79 m in
          let k : a ≤ 95 = leb-true a 95 n in
          subst (P a) (sym (place_shadow a (in_range 80 95 h k))) (shadow a h k)
      go false p false q false r false s false m false n true o =
          let h : 95 < a = leb-false a 95 n in
          let k : a ≤ 127 = leb-true a 127 o in
          subst (P a) (sym (place_trigger a (in_range 96 127 h k))) (trigger a h k)
      go false p false q false r false s false m false n false o =
          let h : 127 < a = leb-false a 127 o in
          subst (P a) (sym (place_beyond a h)) (beyond a h)
