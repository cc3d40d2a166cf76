-- The law of the low bytes of a number, once, over how many bytes there are: each byte, their number, that each is below 256,
-- the number they give back, and the bytes that the number gives back. Assumes nothing.
use Prim.Native.Nat.{ℕ, zero, suc, ◌+◌, ◌*◌, ◌/◌, ◌%◌, ◌^◌, ◌≤◌, ◌<◌}
use native.Mathlib.Nat.{mod-lt, mod-one, mod-eq_of_lt, zero-lt-suc, pow-suc, pow-succ', div-div-eq-div-mul, div-eq_of_lt, div-one, le_of_suc-le-suc, not-suc-le-zero, one-le-pow, pow-le-pow_right, lt_of_lt_of_le, add-mul-mod_self_left, suc-mul, mul-add, mul_assoc, add_assoc}
use native.Mathlib.Omega.{arith}
use mathlib.Core.Path.{◌≡◌, refl, sym, ap, ap₂, ◌∙◌}
use mathlib.Core.List.{List, [], ◌∷◌, ◌++◌}
use lib.Arith.{mod-mul}
use lib.Pow.{pow-add}
use lib.ListN.{length, get_or}
use Rattle.words.specs.Bytes.{byte_at, low_bytes, number}

pub bytes_pos : (n : ℕ) → zero < 256 ^ n
bytes_pos n = one-le-pow n 256 (zero-lt-suc 255)

-- a byte is eight bits
pub bytes_bits : (n : ℕ) → 256 ^ n ≡ 2 ^ (n * 8)
bytes_bits zero = refl
bytes_bits (suc n) = rw (pow-suc, bytes_bits n, suc-mul, pow-add)

-- each byte
pub low_at : (n x i : ℕ) → i < n → get_or (low_bytes n x) i 0 ≡ byte_at x i
unfolding low_bytes
low_at zero x i h = absurd (not-suc-le-zero h)
low_at (suc n) x zero h = ap (λ (y : ℕ). y % 256) (sym (div-one x))
low_at (suc n) x (suc i) h =
    low_at n (x / 256) i (le_of_suc-le-suc h)
    ∙ ap (λ (y : ℕ). y % 256) (div-div-eq-div-mul x 256 (256 ^ i) ∙ ap (λ (d : ℕ). x / d) (sym (pow-succ' 256 i)))

-- their number
pub low_length : (n x : ℕ) → length (low_bytes n x) ≡ n
unfolding low_bytes
low_length zero x = refl
low_length (suc n) x = ap suc (low_length n (x / 256))

-- a number of n bytes has none past them
pub byte_past : (n x i : ℕ) → x < 256 ^ n → n ≤ i → byte_at x i ≡ 0
byte_past n x i h p =
    ap (λ (y : ℕ). y % 256) (div-eq_of_lt (lt_of_lt_of_le h (pow-le-pow_right (zero-lt-suc 255) p)))

-- each is below 256
pub low_below : (n x i : ℕ) → get_or (low_bytes n x) i 0 < 256
unfolding low_bytes
low_below zero x i = zero-lt-suc 255
low_below (suc n) x zero = mod-lt x (zero-lt-suc 255)
low_below (suc n) x (suc i) = low_below n (x / 256) i

-- the number they give back
pub number_low : (n x : ℕ) → number (low_bytes n x) ≡ x % 256 ^ n
unfolding low_bytes number
number_low zero x = sym (mod-one x)
number_low (suc n) x =
    let ih : number (low_bytes n (x / 256)) ≡ x / 256 % 256 ^ n = number_low n (x / 256) in
    let cut : x % (256 ^ n * 256) ≡ (x / 256 % 256 ^ n) * 256 + x % 256 = mod-mul x (bytes_pos n) (zero-lt-suc 255) in
    rw pow-suc (omega arith)

-- the bytes of the number that they give
pub low_number : (bs : List ℕ) → ((i : ℕ) → get_or bs i 0 < 256) → low_bytes (length bs) (number bs) ≡ bs
unfolding low_bytes number
low_number [] h = refl
low_number (b ∷ bs) h =
    let head : (b + 256 * number bs) % 256 ≡ b = add-mul-mod_self_left b 256 (number bs) ∙ mod-eq_of_lt (h 0) in
    let rest : (b + 256 * number bs) / 256 ≡ number bs = omega (arith, h 0) in
    ap₂ (λ (x : ℕ) (r : List ℕ). x ∷ r) head (ap (low_bytes (length bs)) rest ∙ low_number bs (λ i. h (suc i)))

-- n bytes give a number below 256 ^ n
pub number_below : (bs : List ℕ) → ((i : ℕ) → get_or bs i 0 < 256) → number bs < 256 ^ length bs
unfolding number
number_below [] h = zero-lt-suc 0
number_below (b ∷ bs) h =
    let ih : number bs < 256 ^ length bs = number_below bs (λ i. h (suc i)) in
    rw pow-suc (omega (arith, h 0))

-- the number of bytes and then more bytes
pub number_append : (a b : List ℕ) → number (a ++ b) ≡ number a + 256 ^ length a * number b
unfolding number
number_append [] b = omega arith
number_append (x ∷ a) b =
    ap (λ (n : ℕ). x + 256 * n) (number_append a b)
    ∙ ap (λ (n : ℕ). x + n) (mul-add 256 (number a) (256 ^ length a * number b) ∙ ap (λ (n : ℕ). 256 * number a + n) (sym (mul_assoc 256 (256 ^ length a) (number b)) ∙ ap (λ (n : ℕ). n * number b) (sym (pow-succ' 256 (length a)))))
    ∙ sym (add_assoc x (256 * number a) (256 ^ suc (length a) * number b))
