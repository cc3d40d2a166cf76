-- Document 01, "Sample and words": what a word of the stream is.
use Rattle.std.specs.Prelude.{ℕ, ◌+◌, ◌*◌, ◌/◌, ◌%◌, Bool, true, false, List, [], ◌∷◌, ltb, eqb}
use Rattle.std.specs.Int.Count.{ones_in}

-- "Bits 0..8 together have an odd number of ones": `ones_in 9 w` counts the ones among the nine lowest bits
unfoldable pub odd_ones : ℕ → Bool
odd_ones w = eqb (ones_in 9 w % 2) 1

-- the parity bit that, together with its byte, has an odd number of ones
unfoldable pub parity_of : ℕ → ℕ
parity_of b = (ones_in 8 b + 1) % 2

-- the end mark as a bit
abbrev pub mark_bit : Bool → ℕ
mark_bit true = 1
mark_bit false = 0

-- "A word is a number of ten bits ..: data bits 0..7, parity bit 8, end mark bit 9": the word of a byte
unfoldable pub word_of : Bool → ℕ → ℕ
word_of last b = b + 256 * parity_of b + 512 * mark_bit last

-- a byte with nothing after it is the last
abbrev pub is_last : List ℕ → Bool
is_last [] = true
is_last (b ∷ bs) = false

-- "The end mark is set on the last word only": the words of a sample's bytes
unfoldable pub words_of : List ℕ → List ℕ
words_of [] = []
words_of (b ∷ bs) = word_of (is_last bs) b ∷ words_of bs

-- reply 21: "a word above 1023"
abbrev pub too_large : ℕ → Bool
too_large w = ltb 1023 w

-- the end mark, bit 9
abbrev pub marked : ℕ → Bool
marked w = eqb (w / 512 % 2) 1

-- the data, bits 0..7
abbrev pub byte_of : ℕ → ℕ
byte_of w = w % 256
