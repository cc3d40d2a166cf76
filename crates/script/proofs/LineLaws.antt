-- Laws of numbers in decimal and of their text in a buffer. Assumes nothing.
use Prim.Native.Nat.{ℕ, zero, suc, ◌+◌, ◌-◌, ◌/◌, ◌%◌, ◌^◌, ◌≤◌, ◌<◌}
use native.Mathlib.Nat.{div-one, div-div-eq-div-mul, pow-succ', pow-suc, mod-lt, zero-lt-suc, add_comm, add-suc}
use native.Mathlib.Numerals.{add-one}
use native.Mathlib.Omega.{arith}
use mathlib.Core.Path.{◌≡◌, refl, sym, ap, ap₂, ◌∙◌}
use mathlib.Core.Bool.{Bool, true, false, cond}
use mathlib.Core.List.{List, [], ◌∷◌, ◌++◌}
use lib.Dec.{ltb, leb}
use lib.ListN.{length, set, length-append}
use lib.Seq.{sets, length-sets}
use borrow.Author.Tests.{leb-true, le-leb, lt-ltb, le-ltb}
use Rattle.words.proofs.PutLaws.{set_sets, sets_append}
use Rattle.io.specs.Digits.{last_digits, hex_digit_ascii}
use Rattle.script.specs.Line.{decimal, line_buffer, line_end, answer_line, width_of}

-- a digit's glyph
glyph_digit : (n : ℕ) → hex_digit_ascii (n % 10) ≡ 48 + n % 10
glyph_digit n = ap (λ (b : Bool). cond b (48 + n % 10) (87 + n % 10)) (lt-ltb (n % 10) 10 (mod-lt n (zero-lt-suc 9)))

-- one digit more in front
pub digit_front : (k n : ℕ) → last_digits 10 (suc k) n ≡ (48 + n / 10 ^ k % 10) ∷ last_digits 10 k n
digit_front zero n = ap (λ (d : ℕ). d ∷ []) (glyph_digit n ∙ ap (λ (m : ℕ). 48 + m % 10) (sym (div-one n)))
digit_front (suc k) n =
    ap (λ (l : List ℕ). l ++ (hex_digit_ascii (n % 10) ∷ [])) (digit_front k (n / 10))
    ∙ ap (λ (m : ℕ). (48 + m % 10) ∷ last_digits 10 (suc k) n) (div-div-eq-div-mul n 10 (10 ^ k) ∙ ap (λ (d : ℕ). n / d) (sym (pow-succ' 10 k)))

pub digits_length : (k n : ℕ) → length (last_digits 10 k n) ≡ k
digits_length zero n = refl
digits_length (suc k) n = length-append (last_digits 10 k (n / 10)) (hex_digit_ascii (n % 10) ∷ []) ∙ ap (λ (m : ℕ). m + 1) (digits_length k (n / 10)) ∙ add-one k

-- a number below ten has one digit, any other one more than its tenth
pub width_one : (f x : ℕ) → x < 10 → width_of f x ≡ 1
unfolding width_of
width_one zero x h = refl
width_one (suc f) x h = ap (λ (b : Bool). cond b 1 (suc (width_of f (x / 10)))) (lt-ltb x 10 h)

pub width_more : (f x : ℕ) → 10 ≤ x → width_of (suc f) x ≡ suc (width_of f (x / 10))
unfolding width_of
width_more f x h = ap (λ (b : Bool). cond b 1 (suc (width_of f (x / 10)))) (le-ltb x 10 h)

-- one digit less to look at
pub width_turn : (k size rest w : ℕ) → size + k ≡ 20 → rest < 10 ^ suc k → w + 1 ≡ size + width_of k rest → 10 ≤ rest → (size + 1 ≤ 20) × (rest / 10 < 10 ^ k) × (w + 1 ≡ size + 1 + width_of (k - 1) (rest / 10))
width_turn zero size rest w e b q h = absurd (omega arith)
width_turn (suc j) size rest w e b q h =
    let less : suc j - 1 ≡ j = omega arith in
    let more = width_more j rest h in
    (omega arith, omega (arith, pow-suc 10 (suc j)), omega (arith, ap (λ (m : ℕ). width_of m (rest / 10)) less))

pub width_bound : (f x : ℕ) → width_of f x ≤ suc f
unfolding width_of
width_bound zero x = omega arith
width_bound (suc f) x = go (ltb x 10) (width_bound f (x / 10))
  where
    go : (b : Bool) → width_of f (x / 10) ≤ suc f → cond b 1 (suc (width_of f (x / 10))) ≤ suc (suc f)
    go true h = omega arith
    go false h = omega arith

pub decimal_length : (x : ℕ) → length (decimal x) ≡ width_of 19 x
unfolding decimal
decimal_length x = digits_length (width_of 19 x) x

-- the short ones, digit by digit
last_digit : (n : ℕ) → 48 + n / 1 % 10 ≡ n % 10 + 48
last_digit n = ap (λ (m : ℕ). 48 + m % 10) (div-one n) ∙ add_comm 48 (n % 10)

pub decimal_1 : (n : ℕ) → n < 10 → decimal n ≡ (n % 10 + 48) ∷ []
unfolding decimal
decimal_1 n h =
    ap (λ (k : ℕ). last_digits 10 k n) (width_one 19 n h)
    ∙ digit_front 0 n
    ∙ ap (λ (d : ℕ). d ∷ []) (last_digit n)

pub decimal_2 : (n : ℕ) → 10 ≤ n → n < 100 → decimal n ≡ (n / 10 % 10 + 48) ∷ (n % 10 + 48) ∷ []
unfolding decimal
decimal_2 n l h =
    ap (λ (k : ℕ). last_digits 10 k n) (width_more 18 n l ∙ ap suc (width_one 18 (n / 10) (omega arith)))
    ∙ digit_front 1 n
    ∙ ap₂ (λ (d : ℕ) (t : List ℕ). d ∷ t) (add_comm 48 (n / 10 % 10)) (digit_front 0 n ∙ ap (λ (d : ℕ). d ∷ []) (last_digit n))

pub decimal_3 : (n : ℕ) → 100 ≤ n → n < 1000 → decimal n ≡ (n / 100 % 10 + 48) ∷ (n / 10 % 10 + 48) ∷ (n % 10 + 48) ∷ []
unfolding decimal
decimal_3 n l h =
    ap (λ (k : ℕ). last_digits 10 k n)
    (width_more 18 n (omega arith) ∙ ap suc (width_more 17 (n / 10) (omega arith) ∙ ap suc (width_one 17 (n / 10 / 10) (omega arith))))
    ∙ digit_front 2 n
    ∙ ap₂ (λ (d : ℕ) (t : List ℕ). d ∷ t) (add_comm 48 (n / 100 % 10))
    (digit_front 1 n
    ∙ ap₂ (λ (d : ℕ) (t : List ℕ). d ∷ t) (add_comm 48 (n / 10 % 10)) (digit_front 0 n ∙ ap (λ (d : ℕ). d ∷ []) (last_digit n)))

-- one digit more in front of those that stand there
pub digits_turn : (l : List ℕ) (n at left k : ℕ) → set (sets l (at + suc left) (last_digits 10 k n)) (at + left) (n / 10 ^ k % 10 + 48) ≡ sets l (at + left) (last_digits 10 (suc k) n)
digits_turn l n at left k =
    set_sets l (last_digits 10 k n) (at + suc left) (at + left) (n / 10 ^ k % 10 + 48) (omega arith)
    ∙ ap₂ (λ (i d : ℕ). sets (set l (at + left) d) i (last_digits 10 k n)) (add-suc at left) (add_comm (n / 10 ^ k % 10) 48)
    ∙ ap (sets l (at + left)) (sym (digit_front k n))

-- a number, a space, a number and a newline, one behind the other, are the line
pub decimal_bound : (x : ℕ) → length (decimal x) ≤ 20
decimal_bound x = rw (decimal_length x) (width_bound 19 x)

pub line_length : (number value : ℕ) → length (answer_line number value) ≡ length (decimal number) + suc (length (decimal value) + 1)
unfolding answer_line
line_length number value =
    length-append (decimal number) (32 ∷ decimal value ++ (10 ∷ []))
    ∙ ap (λ (n : ℕ). length (decimal number) + suc n) (length-append (decimal value) (10 ∷ []))

pub line_bound : (number value : ℕ) → length (answer_line number value) ≤ 42
line_bound number value = omega (arith, line_length number value, decimal_bound number, decimal_bound value)

-- a line ends within its buffer
pub line_shown : (number value : ℕ) (l : List ℕ) (at : ℕ) → at ≤ length l → line_end number value (length l) at ≤ length (line_buffer number value l at)
unfolding line_buffer line_end
line_shown number value l at h = go (leb (at + 42) (length l)) refl
  where
    go : (b : Bool) → leb (at + 42) (length l) ≡ b → cond b (at + length (answer_line number value)) at ≤ length (cond b (sets l at (answer_line number value)) l)
    go true e = omega (arith, leb-true (at + 42) (length l) e, line_bound number value, length-sets l at (answer_line number value))
    go false e = h

module _ (number value at : ℕ) (l : List ℕ) {space end : ℕ} (s : space ≡ at + length (decimal number)) (e : end ≡ space + 1 + length (decimal value)) where
  pub line_end_lem : end + 1 ≡ at + length (answer_line number value)
  line_end_lem = omega (arith, line_length number value)

  pub line_text : {first second : List ℕ} → first ≡ sets l at (decimal number) → second ≡ sets (set first space 32) (space + 1) (decimal value) → set second end 10 ≡ sets l at (answer_line number value)
  unfolding answer_line
  line_text f g =
      let start = at + length (decimal number) in
      let spaced = set (sets l at (decimal number)) start 32 in
      ap₂ (λ (m : List ℕ) (i : ℕ). set m i 10)
      (g ∙ ap₂ (λ (m : List ℕ) (i : ℕ). sets (set m i 32) (i + 1) (decimal value)) f s ∙ ap (λ (i : ℕ). sets spaced i (decimal value)) (add-one start))
      (e ∙ ap (λ (i : ℕ). i + 1 + length (decimal value)) s ∙ ap (λ (i : ℕ). i + length (decimal value)) (add-one start))
      ∙ sym (sets_append spaced (decimal value) (10 ∷ []) (suc start))
      ∙ sym (sets_append l (decimal number) (32 ∷ decimal value ++ (10 ∷ [])) at)

-- a line where 42 places are left
module _ (number value : ℕ) where
  pub end_fits : (room at : ℕ) → at + 42 ≤ room → line_end number value room at ≡ at + length (answer_line number value)
  unfolding line_end
  end_fits room at h = rw (le-leb (at + 42) room h)

  pub buffer_fits : (out : List ℕ) (at : ℕ) → at + 42 ≤ length out → line_buffer number value out at ≡ sets out at (answer_line number value)
  unfolding line_buffer
  buffer_fits out at h = rw (le-leb (at + 42) (length out) h)
