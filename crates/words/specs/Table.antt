-- Document 02, Wish 3: "Keep the parity bit of all 256 byte values in one table and look it up": the table, and what looking up in a
-- table gives, whatever its length and entries.
use Rattle.std.specs.Prelude.{ℕ, zero, suc, ◌+◌, ◌*◌, ◌/◌, ◌%◌, Bool, List, [], ◌∷◌, eqb, get_or}
use Rattle.words.specs.Word.{byte_of, is_last, mark_bit, parity_of}

-- what f gives of n numbers, from i on
unfoldable pub tabulate : (ℕ → ℕ) → ℕ → ℕ → List ℕ
tabulate f i zero = []
tabulate f i (suc n) = f i ∷ tabulate f (suc i) n

-- "the parity bit of all 256 byte values"
unfoldable pub parity_table : List ℕ
parity_table = tabulate parity_of 0 256

-- "look it up": the low bit of a byte's entry; past the table's end, 0
abbrev pub parity_by : List ℕ → ℕ → ℕ
parity_by table b = get_or table b 0 % 2

-- the word of a byte with the parity bit that a table gives it
unfoldable pub word_by : List ℕ → Bool → ℕ → ℕ
word_by table last b = b + 256 * parity_by table b + 512 * mark_bit last

-- f's word for each byte, told whether it is the last; and those of a table, for a sample's bytes
unfoldable pub words_with : (Bool → ℕ → ℕ) → List ℕ → List ℕ
words_with f [] = []
words_with f (b ∷ bs) = f (is_last bs) b ∷ words_with f bs

abbrev pub words_by : List ℕ → List ℕ → List ℕ
words_by table = words_with (word_by table)

-- bit 8 is the parity bit that a table gives the byte
abbrev pub odd_by : List ℕ → ℕ → Bool
odd_by table w = eqb (w / 256 % 2) (parity_by table (byte_of w))
