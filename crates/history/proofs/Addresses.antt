-- The chip's address map and the ledger's: what stands at an address by the one is what the other says there, range by range and, below 16,
-- number by number. So too the processor lines, by computation over their 256 settings. Assumes nothing.
use Prim.Native.Nat.{ℕ, zero, suc, ◌+◌, ◌-◌, ◌*◌, ◌/◌, ◌%◌, ◌^◌, ◌≤◌, ◌<◌}
use native.Mathlib.Nat.{mod-lt, zero-lt-suc, not-suc-le-zero}
use native.Mathlib.Numerals.{add-one}
use native.Mathlib.Omega.{arith}
use mathlib.Core.Path.{◌≡◌, refl, sym, ap, ap₂, ◌∙◌, subst}
use mathlib.Core.Bool.{Bool, true, false, cond, not, ◌&&◌, ◌||◌}
use mathlib.Core.List.{List, [], ◌∷◌}
use lib.Count.{count_trailing_zeros, under}
use lib.Dec.{eqb, leb, ltb}
use lib.ListN.{get_or}
use lib.Pow.{mod-pow-add}
use borrow.Author.Tests.{eqb-true, eqb-false, lt-ltb, le-ltb, le-leb, lt-leb, leb-true, leb-false, ltb-true, ltb-false}
use Rattle.chip.specs.Chip.{line_of, one_line}
use Rattle.chip.specs.Place.{between, place_of, register_of}
use Rattle.chip.specs.Rows.{line_alone as alone}
use Rattle.chip.specs.declared.place.Place.{Place}
use Rattle.chip.specs.declared.place.Place.TheVariants.{Beyond, Nowhere, Source, Counter, Trigger}
use Rattle.chip.proofs.AddressLaws.{or_rest, place_beyond, place_counter, place_trigger, same, same_eq, up_to, up_to_at}
use Rattle.chip.proofs.LineLaws.{one_line_lem}
use Rattle.history.specs.Ledger.{Entry, Ledger, by_range, line_in, line_number, tells, vacant}

-- what is shown of each number below another
abbrev pub Below : ℕ → (ℕ → Type 0) → Type 0
Below zero P = Unit {0}
Below (suc n) P = P n × Below n P

pub below : (n : ℕ) (P : ℕ → Type 0) → Below n P → (a : ℕ) → a < n → P a
below zero P b a h = absurd (not-suc-le-zero h)
below (suc n) P b a h = go (eqb a n) refl (below n P b.1)
  where
    go : (t : Bool) → eqb a n ≡ t → ((c : ℕ) → c < n → P c) → P a
    go true e ih = subst P (sym (eqb-true a n e)) b.0
    go false e ih = let ne : a ≡ n → ⊥ = eqb-false a n e in ih a (omega arith)

-- a test of each number from one up to another, none above 127
module _ (first last : ℕ) (f : ℕ → List Bool) (ts : List Bool) (each : up_to 128 (λ b. not (between first last b) || same (f b) ts) ≡ true) where
  pub tested : (a : ℕ) → first ≤ a → a ≤ last → a ≤ 127 → f a ≡ ts
  tested a p q h =
      let here : between first last a ≡ true = λ i. le-leb a last q i && le-leb first a p i in
      same_eq _ _ (or_rest (not (between first last a)) _ (up_to_at 128 (λ b. not (between first last b) || same (f b) ts) each a (omega arith)) (ap not here))

-- ---- the ledger's ranges

-- the tests that the ledger makes of an address
abbrev tests : ℕ → List Bool
tests a = ltb 127 a ∷ vacant a ∷ leb 96 a ∷ leb 32 a ∷ leb 16 a ∷ []

module _ (a : ℕ) (l : Ledger) (t c s r : Entry) where
  picked : List Bool → Entry
  picked bs =
      cond (get_or bs 0 false) (tells 1 0 l)
      (cond (get_or bs 1 false) (tells 2 0 l) (cond (get_or bs 2 false) t (cond (get_or bs 3 false) c (cond (get_or bs 4 false) s r))))

  pub range_beyond : 127 < a → by_range a l t c s r ≡ tells 1 0 l
  unfolding by_range
  range_beyond h = simp (lt-ltb 127 a h)

  pub range_vacant : a ≤ 127 → vacant a ≡ true → by_range a l t c s r ≡ tells 2 0 l
  unfolding by_range
  range_vacant h v = simp (le-ltb 127 a h, v)

  pub range_trigger : 96 ≤ a → a ≤ 127 → by_range a l t c s r ≡ t
  unfolding by_range picked vacant
  range_trigger p q = ap picked (tested 96 127 tests (false ∷ false ∷ true ∷ true ∷ true ∷ []) refl a p q q)

  pub range_counter : 32 ≤ a → a ≤ 47 → by_range a l t c s r ≡ c
  unfolding by_range picked vacant
  range_counter p q = ap picked (tested 32 47 tests (false ∷ false ∷ false ∷ true ∷ true ∷ []) refl a p q (omega arith))

  pub range_source : 16 ≤ a → a ≤ 23 → by_range a l t c s r ≡ s
  unfolding by_range picked vacant
  range_source p q = ap picked (tested 16 23 tests (false ∷ false ∷ false ∷ false ∷ true ∷ []) refl a p q (omega arith))

-- ---- the chip's places, by the same ranges

place_low : (a : ℕ) → ltb a 16 ≡ true → place_of a ≡ register_of a
unfolding place_of
place_low a p = simp p

place_source : (a : ℕ) → 16 ≤ a → a ≤ 23 → place_of a ≡ Source (a - 16)
unfolding place_of
place_source a p q = simp (le-ltb a 16 p, le-leb a 23 q, le-leb 16 a p)

place_gap : (a : ℕ) → 24 ≤ a → a ≤ 95 → between 32 47 a ≡ false → place_of a ≡ Nowhere
unfolding place_of
place_gap a p q e =
    simp (le-ltb a 16 (omega arith), lt-leb a 23 p, e, le-leb a 111 (omega arith), lt-leb 96 a (omega arith), le-leb a 127 (omega arith), lt-leb 112 a (omega arith), le-ltb 127 a (omega arith))

-- what holds of each address and what stands there
pub by_place : (P : ℕ → Place → Type 0) → Below 16 (λ a. P a (register_of a)) → ((a : ℕ) → 16 ≤ a → a ≤ 23 → P a (Source (a - 16))) → ((a : ℕ) → 32 ≤ a → a ≤ 47 → P a (Counter (a - 32))) → ((a : ℕ) → 96 ≤ a → a ≤ 127 → P a (Trigger (leb 112 a) (a % 16))) → ((a : ℕ) → a ≤ 127 → vacant a ≡ true → P a Nowhere) → ((a : ℕ) → 127 < a → P a Beyond) → (a : ℕ) → P a (place_of a)
unfolding place_of vacant
by_place P low source counter trigger nothing beyond a = go (ltb a 16) refl (leb a 23) refl (leb a 31) refl (leb a 47) refl (leb a 95) refl (leb a 127) refl
  where
    empty : (first last : ℕ) → up_to 128 (λ b. not (between first last b) || same (vacant b ∷ []) (true ∷ [])) ≡ true → first ≤ a → a ≤ last → a ≤ 127 → vacant a ≡ true
    empty first last each p q h = ap (λ (bs : List Bool). get_or bs 0 false) (tested first last (λ b. vacant b ∷ []) (true ∷ []) each a p q h)

    go : (t : Bool) → ltb a 16 ≡ t → (u : Bool) → leb a 23 ≡ u → (v : Bool) → leb a 31 ≡ v → (w : Bool) → leb a 47 ≡ w → (x : Bool) → leb a 95 ≡ x → (y : Bool) → leb a 127 ≡ y → P a (place_of a)
    go true p u q v r w s x m y n = subst (P a) (sym (place_low a p)) (below 16 (λ b. P b (register_of b)) low a (ltb-true a 16 p))
    go false p true q v r w s x m y n =
        let h : 16 ≤ a = ltb-false a 16 p in
        let k : a ≤ 23 = leb-true a 23 q in
        subst (P a) (sym (place_source a h k)) (source a h k)
    go false p false q true r w s x m y n =
        let h : 24 ≤ a = leb-false a 23 q in
        let k : a ≤ 31 = leb-true a 31 r in
        subst (P a) (sym (place_gap a h (omega arith) (λ i. le-leb a 47 (omega arith) i && lt-leb 32 a (omega arith) i))) (nothing a (omega arith) (empty 24 31 refl h k (omega arith)))
    go false p false q false r true s x m y n =
        let h : 32 ≤ a = leb-false a 31 r in
        let k : a ≤ 47 = leb-true a 47 s in
        subst (P a) (sym (place_counter a (λ i. le-leb a 47 k i && le-leb 32 a h i))) (counter a h k)
    go false p false q false r false s true m y n =
        let h : 48 ≤ a = leb-false a 47 s in
        let k : a ≤ 95 = leb-true a 95 m in
        subst (P a) (sym (place_gap a (omega arith) k (λ i. s i && leb 32 a))) (nothing a (omega arith) (empty 48 95 refl h k (omega arith)))
    go false p false q false r false s false m true n =
        let h : 96 ≤ a = leb-false a 95 m in
        let k : a ≤ 127 = leb-true a 127 n in
        subst (P a) (sym (place_trigger a (λ i. le-leb a 127 k i && le-leb 96 a h i))) (trigger a h k)
    go false p false q false r false s false m false n =
        let h : 127 < a = leb-false a 127 n in
        subst (P a) (sym (place_beyond a h)) (beyond a h)

-- ---- processor lines

-- zeros are counted among the lowest bits alone
zeros_low : (k n : ℕ) → count_trailing_zeros k (n % 2 ^ k) ≡ count_trailing_zeros k n
unfolding count_trailing_zeros
zeros_low zero n = refl
zeros_low (suc k) n =
    let more : n % 2 ^ suc k ≡ (n / 2 % 2 ^ k) * 2 + n % 2 = ap (λ (j : ℕ). n % 2 ^ j) (sym (add-one k)) ∙ mod-pow-add n k 1 in
    let lowest : n % 2 ^ suc k % 2 ≡ n % 2 = omega arith in
    let half : n % 2 ^ suc k / 2 ≡ n / 2 % 2 ^ k = omega arith in
    ap₂ under lowest (ap (count_trailing_zeros k) half ∙ zeros_low k (n / 2))

-- "exactly one active processor line", and its number
pub line_same : (lines : ℕ) → one_line lines ≡ ltb (line_in lines) 8
unfolding line_number
line_same lines =
    let one : (alone (lines % 256) ∷ []) ≡ (ltb (line_in lines) 8 ∷ []) =
    same_eq _ _ (up_to_at 256 (λ b. same (alone b ∷ []) (ltb (line_number b) 8 ∷ [])) refl (lines % 256) (mod-lt lines (zero-lt-suc 255))) in
    one_line_lem lines ∙ ap (λ (bs : List Bool). get_or bs 0 false) one

pub line_is : (lines : ℕ) → ltb (line_in lines) 8 ≡ true → line_of lines ≡ line_in lines
unfolding line_number count_trailing_zeros
line_is lines e =
    sym (zeros_low 8 lines)
    ∙ eqb-true _ _ (or_rest (not (ltb (line_in lines) 8)) _ (up_to_at 256 (λ b. not (ltb (line_number b) 8) || eqb (line_of b) (line_number b)) refl (lines % 256) (mod-lt lines (zero-lt-suc 255))) (ap not e))
