-- Laws of the table: one test, computed over all of its entries, gives the rule at each, and what is looked up in it is the parity bit,
-- the word and the odd number of ones of the definitions. Assumes nothing.
use Prim.Native.Nat.{ℕ, zero, suc, ◌+◌, ◌*◌, ◌/◌, ◌%◌, ◌<◌}
use native.Mathlib.Nat.{add-zero, zero-add, add-suc, suc-add, zero-lt-suc, mod-lt, mod-eq_of_lt, le_of_suc-le-suc, not-suc-le-zero}
use native.Mathlib.Omega.{arith}
use mathlib.Core.Path.{◌≡◌, refl, sym, ap, ap₂, ◌∙◌, subst}
use mathlib.Core.Bool.{Bool, true, false, ◌&&◌}
use mathlib.Core.List.{List, [], ◌∷◌}
use lib.Dec.{eqb, ltb}
use lib.ListN.{length, get_or}
use lib.Seq.{ext_get_or}
use borrow.Author.Tests.{eqb-true, ltb-true}
use Rattle.words.specs.Table.{odd_by, parity_by, parity_table, tabulate, word_by, words_by, words_with}
use Rattle.words.specs.Word.{byte_of, is_last, mark_bit, odd_ones, parity_of, word_of, words_of}
use Rattle.words.proofs.WordLaws.{both_left, both_right, odd_parity, parity_bit, word_top}

-- a list that f gives, number by number
tabulate_length : (f : ℕ → ℕ) (i n : ℕ) → length (tabulate f i n) ≡ n
unfolding tabulate
tabulate_length f i zero = refl
tabulate_length f i (suc n) = ap suc (tabulate_length f (suc i) n)

tabulate_at : (f : ℕ → ℕ) (i n k : ℕ) → k < n → get_or (tabulate f i n) k 0 ≡ f (i + k)
unfolding tabulate
tabulate_at f i zero k h = absurd (not-suc-le-zero h)
tabulate_at f i (suc n) zero h = ap f (sym (add-zero i))
tabulate_at f i (suc n) (suc k) h = tabulate_at f (suc i) n k (le_of_suc-le-suc h) ∙ ap f (suc-add i k ∙ sym (add-suc i k))

-- a test passes at each entry of a list and its place, counted from i
abbrev pub every : (ℕ → ℕ → Bool) → ℕ → List ℕ → Bool
every f i [] = true
every f i (x ∷ xs) = f i x && every f (suc i) xs

-- so it passes at any
pub every_from : (f : ℕ → ℕ → Bool) (xs : List ℕ) (i : ℕ) → every f i xs ≡ true → (k : ℕ) → k < length xs → f (i + k) (get_or xs k 0) ≡ true
every_from f [] i t k h = absurd (not-suc-le-zero h)
every_from f (x ∷ xs) i t zero h = rw add-zero (both_left (f i x) (every f (suc i) xs) t)
every_from f (x ∷ xs) i t (suc k) h =
    ap (λ (m : ℕ). f m (get_or xs k 0)) (add-suc i k ∙ sym (suc-add i k))
    ∙ every_from f xs (suc i) (both_right (f i x) (every f (suc i) xs) t) k (le_of_suc-le-suc h)

-- document 01's rule as a test of one entry: it is a bit, and "bits 0..8 together have an odd number of ones"
unfoldable pub odd_entry : ℕ → ℕ → Bool
odd_entry b p = ltb p 2 && odd_ones (b + 256 * p)

-- the bit that passes is the byte's parity bit
odd_bit : (b p : ℕ) → b < 256 → odd_entry b p ≡ true → p ≡ parity_of b
unfolding odd_entry
odd_bit b p h t =
    let few : p < 2 = ltb-true p 2 (both_left (ltb p 2) (odd_ones (b + 256 * p)) t) in
    let here : (b + 256 * p) / 256 % 2 ≡ p = omega arith in
    let low : byte_of (b + 256 * p) ≡ b = omega arith in
    sym here
    ∙ eqb-true _ _ (sym (odd_parity (b + 256 * p)) ∙ both_right (ltb p 2) (odd_ones (b + 256 * p)) t)
    ∙ ap parity_of low

-- a list of 256 entries that pass is the table
pub odd_table : (l : List ℕ) → length l ≡ 256 → every odd_entry 0 l ≡ true → l ≡ parity_table
unfolding parity_table
odd_table l n t =
    ext_get_or 0 l (tabulate parity_of 0 256) (n ∙ sym (tabulate_length parity_of 0 256)) (λ i h.
    let few : i < 256 = subst (λ (m : ℕ). i < m) n h in
    odd_bit i (get_or l i 0) few (ap (λ (m : ℕ). odd_entry m (get_or l i 0)) (sym (zero-add i)) ∙ every_from odd_entry l 0 t i h)
    ∙ sym (tabulate_at parity_of 0 256 i few ∙ ap parity_of (zero-add i)))

-- what is looked up in the table
pub parity_by_lem : (b : ℕ) → b < 256 → parity_by parity_table b ≡ parity_of b
unfolding parity_table
parity_by_lem b h =
    ap (λ (p : ℕ). p % 2) (tabulate_at parity_of 0 256 b h ∙ ap parity_of (zero-add b)) ∙ mod-eq_of_lt (parity_bit b)

pub word_by_lem : (last : Bool) (b : ℕ) → b < 256 → word_by parity_table last b ≡ word_of last b
unfolding word_by word_of
word_by_lem last b h = ap (λ (p : ℕ). b + 256 * p + 512 * mark_bit last) (parity_by_lem b h)

-- by a table with no entry: past a table's end the bit is 0
pub word_by_none : (b : ℕ) → word_by [] false b ≡ b
unfolding word_by
word_by_none b = omega arith

pub odd_by_lem : (w : ℕ) → odd_by parity_table w ≡ odd_ones w
odd_by_lem w = ap (eqb (w / 256 % 2)) (parity_by_lem (byte_of w) (mod-lt w (zero-lt-suc 255))) ∙ sym (odd_parity w)

pub words_by_lem : (bs : List ℕ) → ((i : ℕ) → get_or bs i 0 < 256) → words_by parity_table bs ≡ words_of bs
unfolding words_with words_of
words_by_lem [] h = refl
words_by_lem (b ∷ bs) h = ap₂ (λ (w : ℕ) (ws : List ℕ). w ∷ ws) (word_by_lem (is_last bs) b (h zero)) (words_by_lem bs (λ i. h (suc i)))

-- a table decides bit 8 and nothing else: the data bits, and what stands above bit 8, are the definition's by any table
pub words_by_low : (table bs : List ℕ) (i : ℕ) → get_or (words_by table bs) i 0 % 256 ≡ get_or (words_of bs) i 0 % 256
unfolding words_with words_of word_by word_of
words_by_low table [] i = refl
words_by_low table (b ∷ bs) zero = omega arith
words_by_low table (b ∷ bs) (suc i) = words_by_low table bs i

pub words_by_top : (table bs : List ℕ) → ((i : ℕ) → get_or bs i 0 < 256) → (i : ℕ) → get_or (words_by table bs) i 0 / 512 ≡ get_or (words_of bs) i 0 / 512
unfolding words_with words_of word_by
words_by_top table [] h i = refl
words_by_top table (b ∷ bs) h zero =
    let mark : word_of (is_last bs) b / 512 ≡ mark_bit (is_last bs) = word_top (is_last bs) b (h zero) in
    omega (arith, h zero, mod-lt (get_or table b 0) (zero-lt-suc 1))
words_by_top table (b ∷ bs) h (suc i) = words_by_top table bs (λ j. h (suc j)) i
