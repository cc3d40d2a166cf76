-- Document 01, "Bench program": "a line for each record: reply, space, value in decimal, newline".
use Rattle.std.specs.Prelude.{ℕ, zero, suc, ◌+◌, ◌/◌, cond, List, [], ◌∷◌, ◌++◌, leb, ltb, length}
use Rattle.std.proofs.lemmas.List.Edits.{sets}
use Rattle.io.specs.Digits.{last_digits}

-- how many decimal digits a number has, at least one; n bounds the search
unfoldable pub width_of : ℕ → ℕ → ℕ
width_of zero x = 1
width_of (suc n) x = cond (ltb x 10) 1 (suc (width_of n (x / 10)))

-- a number of 64 bits in decimal: at most twenty digits, the most significant first
unfoldable pub decimal : ℕ → List ℕ
decimal x = last_digits 10 (width_of 19 x) x

-- the line: 32 is a space, 10 a newline
unfoldable pub answer_line : ℕ → ℕ → List ℕ
answer_line number value = decimal number ++ (32 ∷ decimal value ++ (10 ∷ []))

-- where a line put at a place of a buffer ends, and the buffer then: where 42 places, the longest line's, aren't left, nothing happens
unfoldable pub line_end : ℕ → ℕ → ℕ → ℕ → ℕ
line_end number value room at = cond (leb (at + 42) room) (at + length (answer_line number value)) at

unfoldable pub line_buffer : ℕ → ℕ → List ℕ → ℕ → List ℕ
line_buffer number value out at = cond (leb (at + 42) (length out)) (sets out at (answer_line number value)) out
