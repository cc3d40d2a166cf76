-- Document 01, "Sample and words": "each low byte first". The bytes of a number, over how many there are.
use Rattle.std.specs.Prelude.{ℕ, zero, suc, ◌+◌, ◌*◌, ◌/◌, ◌%◌, ◌^◌, ◌<◌, ◌≡◌, List, [], ◌∷◌, get_or, length}

-- byte i of x, counted from the low end
abbrev pub byte_at : ℕ → ℕ → ℕ
byte_at x i = x / 256 ^ i % 256

-- the n low bytes of x, low first
unfoldable pub low_bytes : ℕ → ℕ → List ℕ
low_bytes zero x = []
low_bytes (suc n) x = x % 256 ∷ low_bytes n (x / 256)

-- the number that bytes give, low first
unfoldable pub number : List ℕ → ℕ
number [] = 0
number (b ∷ bs) = b + 256 * number bs

-- x is the number of so many bytes, low first, each one that `at` has at its place
pub record IsNumberBy (at : ℕ → ℕ → Type 0) (size x : ℕ) : Type 0 where
  pub bytes : List ℕ
  pub long : length bytes ≡ size
  pub small : (place : ℕ) → get_or bytes place 0 < 256
  pub each : (place : ℕ) → place < size → at place (get_or bytes place 0)
  pub value : x ≡ number bytes
