-- Laws of the MultiKron II's address map: what stands at an address, by its tests, and what a test of each address in turn shows of all. Assumes
-- nothing.
use Prim.Native.Nat.{ℕ, ◌-◌, ◌%◌, ◌≤◌, ◌<◌}
use native.Mathlib.Omega.{arith}
use mathlib.Core.Path.{◌≡◌, refl, sym, ap, ◌∙◌}
use mathlib.Core.Bool.{Bool, true, false}
use mathlib.Core.List.{[], ◌∷◌}
use lib.Dec.{eqb, leb}
use borrow.Author.Tests.{lt-ltb, le-ltb, le-leb, lt-leb, leb-true, leb-false, ne_eqb}
use Rattle.chip.specs.Place.{between}
use Rattle.chip.specs.Rows.{triggering}
use Rattle.chip.proofs.AddressLaws.{between_in, same, tests_same, up_to}
use Rattle.chip2.specs.Place.{place_of, register_of, resets}
use Rattle.chip2.specs.Rows.{counter_at, shadow_at}
use Rattle.chip2.specs.declared.place.Place.{Place}
use Rattle.chip2.specs.declared.place.Place.TheVariants.{Beyond, Reset, Source, Counter, Shadow, Trigger}

pub place_beyond : (a : ℕ) → 127 < a → place_of a ≡ Beyond
unfolding place_of
place_beyond a h =
    simp (le-ltb a 32 (omega arith), lt-leb a 39 (omega arith), lt-leb a 79 (omega arith), lt-leb a 95 (omega arith), lt-leb a 111 (omega arith), lt-leb a 127 h, lt-ltb 127 a h)

-- a test of places is a test of addresses, if it is for each up to 127, and both fail above
pub place_test : (f : Place → Bool) (g : ℕ → Bool) → up_to 128 (λ a. same (f (place_of a) ∷ []) (g a ∷ [])) ≡ true → f Beyond ≡ false → ((a : ℕ) → 127 < a → g a ≡ false) → (a : ℕ) → f (place_of a) ≡ g a
place_test f g each none above a = tests_same (λ b. f (place_of b)) g each (λ b h. ap f (place_beyond b h) ∙ none ∙ sym (above b h)) a

pub place_trigger : (a : ℕ) → triggering a ≡ true → place_of a ≡ Trigger (leb 112 a) (a % 16)
unfolding place_of
place_trigger a e = go (leb 112 a) refl
  where
    h : (96 ≤ a) × (a ≤ 127)
    h = between_in 96 127 a e

    go : (r : Bool) → leb 112 a ≡ r → place_of a ≡ Trigger r (a % 16)
    go true q =
        let p : (96 ≤ a) × (a ≤ 127) = h in
        let low : 112 ≤ a = leb-true 112 a q in
        simp (le-ltb a 32 (omega arith), lt-leb a 39 (omega arith), lt-leb a 79 (omega arith), lt-leb a 95 (omega arith), lt-leb a 111 (omega arith), le-leb a 127 p.1, q)
        (ap (Trigger true) (omega arith))
    go false q =
        let p : (96 ≤ a) × (a ≤ 127) = h in
        let high : a < 112 = leb-false 112 a q in
        simp (le-ltb a 32 (omega arith), lt-leb a 39 (omega arith), lt-leb a 79 (omega arith), lt-leb a 95 (omega arith), le-leb a 111 (omega arith), le-leb 96 a p.0)
        (ap (Trigger false) (omega arith))

pub place_source : (a : ℕ) → between 32 39 a ≡ true → place_of a ≡ Source (a - 32)
unfolding place_of
place_source a e =
    let p : (32 ≤ a) × (a ≤ 39) = between_in 32 39 a e in
    simp (le-ltb a 32 p.0, le-leb a 39 p.1, le-leb 32 a p.0)

pub place_counter : (a : ℕ) → counter_at a ≡ true → place_of a ≡ Counter (a - 64)
unfolding place_of
place_counter a e =
    let p : (64 ≤ a) × (a ≤ 79) = between_in 64 79 a e in
    simp (le-ltb a 32 (omega arith), lt-leb a 39 (omega arith), le-leb a 79 p.1, le-leb 64 a p.0)

pub place_shadow : (a : ℕ) → shadow_at a ≡ true → place_of a ≡ Shadow (a - 80)
unfolding place_of
place_shadow a e =
    let p : (80 ≤ a) × (a ≤ 95) = between_in 80 95 a e in
    simp (le-ltb a 32 (omega arith), lt-leb a 39 (omega arith), lt-leb a 79 (omega arith), le-leb a 95 p.1, le-leb 80 a p.0)

-- a reset stands at 0 alone
pub place_resets : (a : ℕ) → resets (place_of a) ≡ eqb a 0
unfolding place_of register_of
place_resets a = place_test resets (λ b. eqb b 0) refl refl (λ b h. ne_eqb b 0 (λ e. omega arith)) a

-- and what stands there is the reset
pub place_reset : place_of 0 ≡ Reset
unfolding place_of register_of
place_reset = refl
