-- What a flipped bit does to a word: the ones of the bits that it is among are odd where they were even, and the bits above it stay. By induction
-- on the bit. Assumes nothing.
use Prim.Native.Nat.{ℕ, zero, suc, ◌+◌, ◌/◌, ◌%◌, ◌^◌, ◌≤◌, ◌<◌}
use native.Mathlib.Nat.{not-suc-le-zero}
use native.Mathlib.Omega.{arith}
use mathlib.Core.Path.{◌≡◌, sym, ap, ◌∙◌}
use mathlib.Core.Bool.{true, false}
use lib.Count.{ones_in}
use lib.Dec.{eqb}
use lib.Pow.{shr-shr}
use borrow.Author.Tests.{eqb-true, ne_eqb}
use Rattle.words.specs.Word.{marked, odd_ones}
use Rattle.walk.specs.Pieces.{flip}

-- the lowest bit and the others of a flipped number
flip_low : (x : ℕ) → (flip 0 x % 2 + x % 2 ≡ 1) × (flip 0 x / 2 ≡ x / 2)
unfolding flip
flip_low x = (omega arith, omega arith)

flip_high : (i x : ℕ) → (flip (suc i) x % 2 ≡ x % 2) × (flip (suc i) x / 2 ≡ flip i (x / 2))
unfolding flip
flip_high i x = (omega arith, omega arith)

-- one more or one fewer among the bits that it is one of
flip_ones : (i d x : ℕ) → i < d → ones_in d (flip i x) % 2 ≡ (ones_in d x + 1) % 2
unfolding ones_in
flip_ones i zero x h = absurd (not-suc-le-zero h)
flip_ones zero (suc d) x h =
    let half : ones_in d (flip 0 x / 2) ≡ ones_in d (x / 2) = ap (ones_in d) (flip_low x).1 in
    omega (arith, (flip_low x).0, half)
flip_ones (suc i) (suc d) x h =
    let half : ones_in d (flip (suc i) x / 2) % 2 ≡ (ones_in d (x / 2) + 1) % 2 = ap (λ (y : ℕ). ones_in d y % 2) (flip_high i x).1 ∙ flip_ones i d (x / 2) (omega arith) in
    omega (arith, (flip_high i x).0, half)

half_first : (k x : ℕ) → x / 2 ^ suc k ≡ x / 2 / 2 ^ k
half_first k x = let same : 1 + k ≡ suc k = omega arith in sym (shr-shr x 1 k ∙ ap (λ (m : ℕ). x / 2 ^ m) same)

-- and what stands above it stays
flip_above : (i k x : ℕ) → i < k → flip i x / 2 ^ k ≡ x / 2 ^ k
flip_above i zero x h = absurd (not-suc-le-zero h)
flip_above zero (suc k) x h = half_first k (flip 0 x) ∙ ap (λ (y : ℕ). y / 2 ^ k) (flip_low x).1 ∙ sym (half_first k x)
flip_above (suc i) (suc k) x h = half_first k (flip (suc i) x) ∙ ap (λ (y : ℕ). y / 2 ^ k) (flip_high i x).1 ∙ flip_above i k (x / 2) (omega arith) ∙ sym (half_first k x)

-- a good word with one of bits 0 to 8 flipped has its parity wrong and its mark as it was
module _ (i x : ℕ) (inside : i < 9) where
  top : flip i x / 512 ≡ x / 512
  top = flip_above i 9 x inside

  pub flip_even : odd_ones x ≡ true → odd_ones (flip i x) ≡ false
  unfolding odd_ones
  flip_even odd =
      let one : ones_in 9 x % 2 ≡ 1 = eqb-true (ones_in 9 x % 2) 1 odd in
      ne_eqb (ones_in 9 (flip i x) % 2) 1 (λ e. omega (arith, e, one, flip_ones i 9 x inside))

  pub flip_mark : marked (flip i x) ≡ marked x
  flip_mark = ap (λ (y : ℕ). eqb (y % 2) 1) top

  pub flip_small : x ≤ 1023 → flip i x ≤ 1023
  flip_small few = omega (arith, top)
