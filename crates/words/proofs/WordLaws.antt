-- Laws of words: a word is its byte, its parity bit and its end mark, and the three are read back from it. Assumes nothing.
use Prim.Native.Nat.{ℕ, zero, suc, ◌+◌, ◌*◌, ◌/◌, ◌%◌, ◌^◌, ◌<◌}
use native.Mathlib.Nat.{mod-lt, zero-lt-suc, div-one, div-div-eq-div-mul, pow-succ', add_assoc, le_of_suc-le-suc, not-suc-le-zero}
use native.Mathlib.Omega.{arith}
use native.Mathlib.Numerals.{add-one}
use mathlib.Core.Path.{◌≡◌, refl, sym, ap, ap₂, ◌∙◌, subst}
use mathlib.Core.Bool.{Bool, true, false, ◌&&◌, false≢true}
use mathlib.Core.List.{List, [], ◌∷◌, map}
use lib.Arith.{lt-one}
use lib.Pow.{shr_lt, field, mod-mod-pow}
use lib.Count.{ones_in, ones, ones_step}
use lib.Dec.{eqb, eqb-zero-suc, eqb-suc-suc}
use lib.ListN.{length, get_or}
use borrow.Author.Tests.{eq-eqb, ne_eqb, eqb-true, eqb-false, le-ltb, ltb-false}
use Rattle.words.specs.Table.{words_with}
use Rattle.words.specs.Word.{parity_of, word_of, words_of, odd_ones, too_large, marked, mark_bit, byte_of, is_last}

-- the ones of a number are those among as many digits as it has
pub ones_in_lem : (k n : ℕ) → n < 2 ^ k → ones n ≡ ones_in k n
unfolding ones_in ones
ones_in_lem zero n h = ap ones (lt-one h)
ones_in_lem (suc k) n h =
    ones_step n ∙ ap (λ (r : ℕ). n % 2 + r) (ones_in_lem k (n / 2) (shr_lt k 1 (subst (λ (e : ℕ). n < 2 ^ e) (sym (add-one k)) h)))

-- one digit more is counted on top
ones_top : (k n : ℕ) → ones_in (suc k) n ≡ ones_in k n + n / 2 ^ k % 2
unfolding ones_in
ones_top zero n = omega (arith, div-one n)
ones_top (suc k) n =
    let half : n / 2 / 2 ^ k ≡ n / 2 ^ suc k = div-div-eq-div-mul n 2 (2 ^ k) ∙ ap (λ (d : ℕ). n / d) (sym (pow-succ' 2 k)) in
    ap (λ (r : ℕ). n % 2 + r) (ones_top k (n / 2) ∙ ap (λ (q : ℕ). ones_in k (n / 2) + q % 2) half)
    ∙ sym (add_assoc (n % 2) (ones_in k (n / 2)) (n / 2 ^ suc k % 2))

-- the count of k digits looks at no other
pub ones_low : (k n : ℕ) → ones_in k (n % 2 ^ k) ≡ ones_in k n
unfolding ones_in
ones_low zero n = refl
ones_low (suc k) n =
    let low : n % 2 ^ suc k % 2 ≡ n % 2 = subst (λ (e : ℕ). n % 2 ^ e % 2 ≡ n % 2) (add-one k) (mod-mod-pow n k 1) in
    let rest : n % 2 ^ suc k / 2 ≡ n / 2 % 2 ^ k = subst (λ (e : ℕ). n % 2 ^ e / 2 ≡ n / 2 % 2 ^ k) (add-one k) (field n k 1) in
    ap₂ (λ (a r : ℕ). a + r) low (ap (ones_in k) rest ∙ ones_low k (n / 2))

pub parity_bit : (b : ℕ) → parity_of b < 2
unfolding parity_of
parity_bit b = mod-lt _ (zero-lt-suc 1)

pub mark_bit_lem : (e : Bool) → mark_bit e < 2
mark_bit_lem true = omega arith
mark_bit_lem false = omega arith

mark_read : (e : Bool) → eqb (mark_bit e) 1 ≡ e
mark_read true = refl
mark_read false = refl

mark_bit_of : (m : ℕ) → m < 2 → mark_bit (eqb m 1) ≡ m
mark_bit_of m h = go (eqb m 1) refl
  where
    go : (t : Bool) → eqb m 1 ≡ t → mark_bit (eqb m 1) ≡ m
    go true e = ap mark_bit e ∙ sym (eqb-true m 1 e)
    go false e = ap mark_bit e ∙ (let ne : m ≡ 1 → ⊥ = eqb-false m 1 e in omega arith)

-- two tests of equality agree where each equation gives the other
pub eqb_same : (a b c d : ℕ) → (a ≡ b → c ≡ d) → (c ≡ d → a ≡ b) → eqb a b ≡ eqb c d
eqb_same a b c d f g = go (eqb a b) refl
  where
    go : (t : Bool) → eqb a b ≡ t → eqb a b ≡ eqb c d
    go true e = e ∙ sym (eq-eqb c d (f (eqb-true a b e)))
    go false e = e ∙ sym (ne_eqb c d (λ q. eqb-false a b e (g q)))

-- a test that holds of both holds of each
pub both_left : (a b : Bool) → (a && b) ≡ true → a ≡ true
both_left true b e = refl
both_left false b e = e

pub both_right : (a b : Bool) → (a && b) ≡ true → b ≡ true
both_right true b e = e
both_right false b e = absurd (false≢true e)

-- the nine bits have an odd number of ones exactly where bit 8 is the parity bit of the byte
pub odd_parity : (w : ℕ) → odd_ones w ≡ eqb (w / 256 % 2) (parity_of (byte_of w))
unfolding odd_ones parity_of
odd_parity w =
    let top : ones_in 9 w ≡ ones_in 8 w + w / 256 % 2 = ones_top 8 w in
    let low : ones_in 8 (w % 256) ≡ ones_in 8 w = ones_low 8 w in
    eqb_same (ones_in 9 w % 2) 1 (w / 256 % 2) ((ones_in 8 (w % 256) + 1) % 2) (λ q. omega arith) (λ q. omega arith)

-- no word is 0: the byte 0 has the parity bit 1
zero_parity : parity_of 0 ≡ 1
unfolding parity_of ones_in
zero_parity = refl

pub word_some : (last : Bool) (b : ℕ) → word_of last b ≡ 0 → ⊥
unfolding word_of
word_some last b e =
    let none : b ≡ 0 = omega arith in
    let odd : parity_of b ≡ 1 = ap parity_of none ∙ zero_parity in
    omega arith

-- what a reader finds in the word of a byte
module _ (last : Bool) (b : ℕ) (h : b < 256) where
  pub word_small : too_large (word_of last b) ≡ false
  unfolding word_of
  word_small = le-ltb 1023 (word_of last b) (omega (arith, parity_bit b, mark_bit_lem last))

  pub word_byte : byte_of (word_of last b) ≡ b
  unfolding word_of
  word_byte = omega (arith, parity_bit b, mark_bit_lem last)

  pub word_odd : odd_ones (word_of last b) ≡ true
  unfolding word_of
  word_odd =
      let same : parity_of (byte_of (word_of last b)) ≡ parity_of b = ap parity_of word_byte in
      let bit : word_of last b / 256 % 2 ≡ parity_of b = omega (arith, parity_bit b, mark_bit_lem last) in
      odd_parity (word_of last b) ∙ eq-eqb _ _ (bit ∙ sym same)

  -- bit 9 is the end mark, and nothing stands above it
  pub word_top : word_of last b / 512 ≡ mark_bit last
  unfolding word_of
  word_top = omega (arith, parity_bit b, mark_bit_lem last)

  pub word_marked : marked (word_of last b) ≡ last
  word_marked =
      let bit : word_of last b / 512 % 2 ≡ mark_bit last = omega (arith, word_top, mark_bit_lem last) in
      ap (λ (m : ℕ). eqb m 1) bit ∙ mark_read last

-- a word that passes is the word of its byte
pub word_back : (w : ℕ) → too_large w ≡ false → odd_ones w ≡ true → word_of (marked w) (byte_of w) ≡ w
unfolding word_of
word_back w small odd =
    let bit : w / 256 % 2 ≡ parity_of (byte_of w) = eqb-true _ _ (sym (odd_parity w) ∙ odd) in
    let mark : mark_bit (marked w) ≡ w / 512 % 2 = mark_bit_of (w / 512 % 2) (mod-lt _ (zero-lt-suc 1)) in
    omega (arith, ltb-false 1023 w small)

-- byte, mark and what stands above it, and whether the ones of bits 0 to 8 are odd, leave one word
pub word_one : (v w : ℕ) → v % 256 ≡ w % 256 → ones_in 9 v % 2 ≡ ones_in 9 w % 2 → v / 512 ≡ w / 512 → v ≡ w
word_one v w low odd top =
    let same : ones_in 8 v ≡ ones_in 8 w = sym (ones_low 8 v) ∙ ap (ones_in 8) low ∙ ones_low 8 w in
    let sums : (ones_in 8 v + v / 256 % 2) % 2 ≡ (ones_in 8 v + w / 256 % 2) % 2 =
    ap (λ (n : ℕ). n % 2) (sym (ones_top 8 v)) ∙ odd ∙ ap (λ (n : ℕ). n % 2) (ones_top 8 w) ∙ ap (λ (n : ℕ). (n + w / 256 % 2) % 2) (sym same) in
    whole (bit (ones_in 8 v) (v / 256 % 2) (w / 256 % 2) (mod-lt _ (zero-lt-suc 1)) (mod-lt _ (zero-lt-suc 1)) sums)
  where
    bit : (n a b : ℕ) → a < 2 → b < 2 → (n + a) % 2 ≡ (n + b) % 2 → a ≡ b
    bit n a b h k e = omega arith

    digits : (n : ℕ) → n ≡ n % 256 + 256 * (n / 256 % 2) + 512 * (n / 512)
    digits n = omega arith

    whole : v / 256 % 2 ≡ w / 256 % 2 → v ≡ w
    whole e = digits v ∙ (λ i. low i + 256 * e i + 512 * top i) ∙ sym (digits w)

last_length : (bs : List ℕ) → is_last bs ≡ eqb 0 (length bs)
last_length [] = refl
last_length (b ∷ bs) = sym (eqb-zero-suc (length bs))

-- a word for each byte, whatever it is: as many words as bytes, and each is its byte's, marked where it is the last
module _ (f : Bool → ℕ → ℕ) where
  pub with_length : (bs : List ℕ) → length (words_with f bs) ≡ length bs
  unfolding words_with
  with_length [] = refl
  with_length (b ∷ bs) = ap suc (with_length bs)

  pub with_at : (bs : List ℕ) (i : ℕ) → i < length bs → get_or (words_with f bs) i 0 ≡ f (eqb (suc i) (length bs)) (get_or bs i 0)
  unfolding words_with
  with_at [] i h = absurd (not-suc-le-zero h)
  with_at (b ∷ bs) zero h = ap (λ (e : Bool). f e b) (last_length bs ∙ sym (eqb-suc-suc 0 (length bs)))
  with_at (b ∷ bs) (suc i) h =
      with_at bs i (le_of_suc-le-suc h) ∙ ap (λ (e : Bool). f e (get_or bs i 0)) (sym (eqb-suc-suc (suc i) (length bs)))

-- a sample's words are such
pub words_with_lem : (bs : List ℕ) → words_of bs ≡ words_with word_of bs
unfolding words_of words_with
words_with_lem [] = refl
words_with_lem (b ∷ bs) = ap (λ (ws : List ℕ). word_of (is_last bs) b ∷ ws) (words_with_lem bs)

pub words_at : (bs : List ℕ) (i : ℕ) → i < length bs → get_or (words_of bs) i 0 ≡ word_of (eqb (suc i) (length bs)) (get_or bs i 0)
words_at bs i h = ap (λ (ws : List ℕ). get_or ws i 0) (words_with_lem bs) ∙ with_at word_of bs i h

-- the bytes are had back from their words
pub words_bytes : (bs : List ℕ) → ((i : ℕ) → get_or bs i 0 < 256) → map byte_of (words_of bs) ≡ bs
unfolding words_of
words_bytes [] h = refl
words_bytes (b ∷ bs) h = ap₂ (λ (x : ℕ) (r : List ℕ). x ∷ r) (word_byte (is_last bs) b (h zero)) (words_bytes bs (λ i. h (suc i)))
