-- Laws of the address map: what stands at an address, by its tests, and what a test of each address in turn shows of all. Assumes
-- nothing.
use Prim.Native.Nat.{ℕ, zero, suc, ◌-◌, ◌%◌, ◌≤◌, ◌<◌}
use native.Mathlib.Nat.{not-suc-le-zero}
use native.Mathlib.Omega.{arith}
use mathlib.Core.Path.{◌≡◌, refl, sym, ap, ◌∙◌}
use mathlib.Core.Bool.{Bool, true, false, cond, not, ◌&&◌, ◌||◌, false≢true}
use mathlib.Core.List.{List, [], ◌∷◌}
use lib.Dec.{leb, ltb, eqb}
use lib.ListN.{get_or}
use borrow.Author.Tests.{eqb-true, eqb-false, lt-ltb, le-ltb, le-leb, lt-leb, leb-true, leb-false, ltb-true, ltb-false}
use Rattle.chip.specs.Place.{between, place_of}
use Rattle.chip.specs.Rows.{counter_at, triggering}
use Rattle.chip.specs.declared.place.Place.{Place}
use Rattle.chip.specs.declared.place.Place.TheVariants.{Beyond, Counter, Trigger}

-- what holds of each number below n by computation
abbrev pub up_to : ℕ → (ℕ → Bool) → Bool
up_to zero f = true
up_to (suc n) f = f n && up_to n f

pub up_to_at : (n : ℕ) (f : ℕ → Bool) → up_to n f ≡ true → (a : ℕ) → a < n → f a ≡ true
up_to_at zero f e a h = absurd (not-suc-le-zero h)
up_to_at (suc n) f e a h = go (eqb a n) refl (f n) refl e (up_to_at n f)
  where
    go : (t : Bool) → eqb a n ≡ t → (x : Bool) → f n ≡ x → (x && up_to n f) ≡ true → (up_to n f ≡ true → (b : ℕ) → b < n → f b ≡ true) → f a ≡ true
    go t q false p e' ih = absurd (false≢true e')
    go true q true p e' ih = ap f (eqb-true a n q) ∙ p
    go false q true p e' ih = let ne : a ≡ n → ⊥ = eqb-false a n q in ih e' a (omega arith)

abbrev pub same : List Bool → List Bool → Bool
same [] [] = true
same [] (y ∷ ys) = false
same (x ∷ xs) [] = false
same (x ∷ xs) (y ∷ ys) = cond x y (not y) && same xs ys

pub same_eq : (xs ys : List Bool) → same xs ys ≡ true → xs ≡ ys
same_eq [] [] e = refl
same_eq [] (y ∷ ys) e = absurd (false≢true e)
same_eq (x ∷ xs) [] e = absurd (false≢true e)
same_eq (true ∷ xs) (true ∷ ys) e = ap (λ (l : List Bool). true ∷ l) (same_eq xs ys e)
same_eq (true ∷ xs) (false ∷ ys) e = absurd (false≢true e)
same_eq (false ∷ xs) (true ∷ ys) e = absurd (false≢true e)
same_eq (false ∷ xs) (false ∷ ys) e = ap (λ (l : List Bool). false ∷ l) (same_eq xs ys e)

pub or_rest : (b x : Bool) → (b || x) ≡ true → b ≡ false → x ≡ true
or_rest true x e q = absurd (false≢true (sym q))
or_rest false x e q = e

pub place_beyond : (a : ℕ) → 127 < a → place_of a ≡ Beyond
unfolding place_of
place_beyond a h =
    simp (le-ltb a 16 (omega arith), lt-leb a 23 (omega arith), lt-leb a 47 (omega arith), lt-leb a 111 (omega arith), lt-leb a 127 h, lt-ltb 127 a h)

-- two tests of addresses are one, if they are for each up to 127 and above
pub tests_same : (f g : ℕ → Bool) → up_to 128 (λ a. same (f a ∷ []) (g a ∷ [])) ≡ true → ((a : ℕ) → 127 < a → f a ≡ g a) → (a : ℕ) → f a ≡ g a
tests_same f g each above a = go (ltb 127 a) refl
  where
    go : (h : Bool) → ltb 127 a ≡ h → f a ≡ g a
    go true p = above a (ltb-true 127 a p)
    go false p =
        let one : (f a ∷ []) ≡ (g a ∷ []) =
        same_eq _ _ (up_to_at 128 (λ b. same (f b ∷ []) (g b ∷ [])) each a (omega (arith, ltb-false 127 a p))) in
        ap (λ (l : List Bool). get_or l 0 false) one

-- a test of places is a test of addresses, if it is for each up to 127, and both fail above
pub place_test : (f : Place → Bool) (g : ℕ → Bool) → up_to 128 (λ a. same (f (place_of a) ∷ []) (g a ∷ [])) ≡ true → f Beyond ≡ false → ((a : ℕ) → 127 < a → g a ≡ false) → (a : ℕ) → f (place_of a) ≡ g a
place_test f g each none above a = tests_same (λ b. f (place_of b)) g each (λ b h. ap f (place_beyond b h) ∙ none ∙ sym (above b h)) a

-- the test of an address from one up to another
pub between_in : (first last a : ℕ) → between first last a ≡ true → (first ≤ a) × (a ≤ last)
between_in first last a e = go (leb a last) refl e
  where
    go : (b : Bool) → leb a last ≡ b → (b && leb first a) ≡ true → (first ≤ a) × (a ≤ last)
    go true q p = (leb-true first a p, leb-true a last q)
    go false q p = absurd (false≢true p)

pub place_trigger : (a : ℕ) → triggering a ≡ true → place_of a ≡ Trigger (leb 112 a) (a % 16)
unfolding place_of
place_trigger a e = go (leb 112 a) refl
  where
    h : (96 ≤ a) × (a ≤ 127)
    h = between_in 96 127 a e

    go : (r : Bool) → leb 112 a ≡ r → place_of a ≡ Trigger r (a % 16)
    go true q =
        let p : (96 ≤ a) × (a ≤ 127) = h in
        let low : 112 ≤ a = leb-true 112 a q in
        simp (le-ltb a 16 (omega arith), lt-leb a 23 (omega arith), lt-leb a 47 (omega arith), lt-leb a 111 (omega arith), le-leb a 127 p.1, q)
        (ap (Trigger true) (omega arith))
    go false q =
        let p : (96 ≤ a) × (a ≤ 127) = h in
        let high : a < 112 = leb-false 112 a q in
        simp (le-ltb a 16 (omega arith), lt-leb a 23 (omega arith), lt-leb a 47 (omega arith), le-leb a 111 (omega arith), le-leb 96 a p.0)
        (ap (Trigger false) (omega arith))

pub place_counter : (a : ℕ) → counter_at a ≡ true → place_of a ≡ Counter (a - 32)
unfolding place_of
place_counter a e =
    let p : (32 ≤ a) × (a ≤ 47) = between_in 32 47 a e in
    simp (le-ltb a 16 (omega arith), lt-leb a 23 (omega arith), le-leb a 47 p.1, le-leb 32 a p.0)
