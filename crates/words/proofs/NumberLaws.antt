-- Laws of a number that is told byte by byte: one byte more at the low end, and whose number it is where the bytes are those of a list.
-- Assumes nothing.
use Prim.Native.Nat.{ℕ, zero, suc, ◌+◌, ◌*◌, ◌^◌, ◌≤◌, ◌<◌, min}
use native.Mathlib.Nat.{add-zero, not-suc-le-zero, zero-lt-suc, pow-le-pow_right, lt_of_lt_of_le}
use native.Mathlib.Omega.{arith}
use mathlib.Core.Path.{◌≡◌, refl, sym, ap, ap₂, ◌∙◌, subst}
use mathlib.Core.List.{List, [], ◌∷◌}
use lib.ListN.{length, get_or, take}
use Rattle.words.specs.Bytes.{IsNumberBy, number}
use Rattle.words.proofs.ByteLaws.{number_below}

-- no byte yet
pub number_none : (at : ℕ → ℕ → Type 0) (size : ℕ) → size ≡ 0 → IsNumberBy at size 0
unfolding number
number_none at size e =
    record { bytes = []; long = sym e; small = λ k. zero-lt-suc 255; each = λ k h. absurd (not-suc-le-zero (subst (λ (m : ℕ). k < m) e h)); value = refl }

-- the byte before those that are told
pub number_more : (at : ℕ → ℕ → Type 0) (p q size x b : ℕ) → p ≡ suc q → IsNumberBy (λ k v. at (p + k) v) size x → b < 256 → at q b → IsNumberBy (λ k v. at (q + k) v) (suc size) (x * 256 + b)
unfolding number
number_more at p q size x b e told low here =
    record { bytes = b ∷ told.bytes; long = ap suc told.long; small = bytes; each = go; value = omega (arith, told.value) }
  where
    bytes : (k : ℕ) → get_or (b ∷ told.bytes) k 0 < 256
    bytes zero = low
    bytes (suc k) = told.small k

    go : (k : ℕ) → k < suc size → at (q + k) (get_or (b ∷ told.bytes) k 0)
    go zero h = subst (λ (m : ℕ). at m b) (sym (add-zero q)) here
    go (suc k) h = let next : p + k ≡ q + suc k = omega arith in subst (λ (m : ℕ). at m (get_or told.bytes k 0)) next (told.each k (omega arith))

-- how large the number is
pub number_small : {at : ℕ → ℕ → Type 0} {size x : ℕ} → IsNumberBy at size x → x < 256 ^ size
number_small told = rw (told.value, ← told.long) (number_below told.bytes told.small)

-- with room for one more byte
pub number_room : {at : ℕ → ℕ → Type 0} {size x : ℕ} → size ≤ 7 → IsNumberBy at size x → x < 256 ^ 7
number_room few told = lt_of_lt_of_le (number_small told) (pow-le-pow_right (zero-lt-suc 255) few)

-- bytes that a list has at its start, or zeros past its end
same_number : (l bs : List ℕ) → ((k : ℕ) → k < length l → get_or l k 0 ≡ get_or bs k 0) → number l ≡ number (take (length l) bs)
unfolding number
same_number [] bs h = refl
same_number (b ∷ l) [] h = omega (arith, h 0 (zero-lt-suc (length l)), same_number l [] (λ k j. h (suc k) (omega arith)), none (length l))
  where
    none : (n : ℕ) → number (take n []) ≡ 0
    none zero = refl
    none (suc n) = refl
same_number (b ∷ l) (c ∷ bs) h = ap₂ (λ (x y : ℕ). x + 256 * y) (h 0 (zero-lt-suc (length l))) (same_number l bs (λ k j. h (suc k) (omega arith)))

pub number_is : {at : ℕ → ℕ → Type 0} {size x : ℕ} (bs : List ℕ) → size ≤ 8 → IsNumberBy at (min size 8) x → ((k v : ℕ) → k < size → at k v → v ≡ get_or bs k 0) → x ≡ number (take size bs)
number_is {at} {size} {x} bs few told same =
    let whole : min size 8 ≡ size = omega arith in
    let long : length told.bytes ≡ size = told.long ∙ whole in
    told.value
    ∙ same_number told.bytes bs (λ k h. same k (get_or told.bytes k 0) (omega arith) (told.each k (omega arith)))
    ∙ ap (λ (n : ℕ). number (take n bs)) long
