-- Document 01, "Sample and words", and of the second edition document 02, Wish 9, a second time and by number: what stands at each place of
-- a sample. It shares nothing with Layout, so a layout that is wrong in definition, writer and reader alike doesn't fit it.
use Rattle.std.specs.Prelude.{ℕ, ◌+◌, ◌*◌, ◌/◌, ◌%◌, ◌^◌, ◌≤◌, ◌<◌, ◌≡◌, Bool, cond, List, map, leb, length, get_or}
use Rattle.std.specs.Int.Count.{ones_in}
use Rattle.samples.specs.declared.edition.Edition.{Edition}
use Rattle.samples.specs.declared.edition.Edition.TheVariants.{First, Second}
use Rattle.samples.specs.declared.sample.Sample.{Sample}

-- byte k of a number, counted from the low end
abbrev pub nth_byte : ℕ → ℕ → ℕ
nth_byte x k = x / 256 ^ k % 256

-- the first place of user data and of the counters: "header 1 byte, Source Address 4, Timestamp low 40 bits 5, user data low 48 bits 6. That
-- is 16 bytes"; Wish 9: "Samples are 20 and 84 bytes: user data 64 bits, Source Address 32, Timestamp 56, header 8"
abbrev pub user_place : Edition → ℕ
user_place First = 10
user_place Second = 12

abbrev pub counter_place : Edition → ℕ
counter_place First = 16
counter_place Second = 20

-- the last place of a Resource sample, "80" and "84" bytes, and of a Trace sample
abbrev pub last_of : Edition → Bool → ℕ
last_of First resource = cond resource 79 15
last_of Second resource = cond resource 83 19

-- the last place by the header: a Resource sample's where bit 3 is set, that is where its low four bits are at least 8
abbrev pub last_place : Edition → ℕ → ℕ
last_place ed header = last_of ed (leb 8 (header % 16))

-- "Fields in sending order, each low byte first"; "A Resource sample adds counters 0 to 15, 4 bytes each"; Wish 9: "Field order, byte order
-- and header stay as in 01"
pub record Placed (ed : Edition) (s : Sample) (bytes : List ℕ) : Type 0 where
  pub size : length bytes ≡ last_place ed s.header + 1
  pub header : get_or bytes 0 0 ≡ nth_byte s.header 0
  pub source : (k : ℕ) → k < 4 → get_or bytes (1 + k) 0 ≡ nth_byte s.source k
  pub stamp : (k : ℕ) → 5 + k < user_place ed → get_or bytes (5 + k) 0 ≡ nth_byte s.stamp k
  pub user : (k : ℕ) → user_place ed + k < counter_place ed → get_or bytes (user_place ed + k) 0 ≡ nth_byte s.user k
  pub counter : (i k : ℕ) → 8 ≤ s.header % 16 → i < 16 → k < 4 → get_or bytes (counter_place ed + 4 * i + k) 0 ≡ nth_byte (get_or s.counters i 0) k

-- "data bits 0..7, parity bit 8, end mark bit 9. Bits 0..8 together have an odd number of ones. The end mark is set on the last word only."
-- `ones_in 9` counts the ones of bits 0 to 8, and a word divided by 512 is its bit 9 and whatever stands above it: nothing.
pub record PlacedWords (ed : Edition) (s : Sample) (words : List ℕ) : Type 0 where
  pub bytes : Placed ed s (map (λ (w : ℕ). w % 256) words)
  pub odd : (p : ℕ) → p ≤ last_place ed s.header → ones_in 9 (get_or words p 0) % 2 ≡ 1
  pub last : get_or words (last_place ed s.header) 0 / 512 ≡ 1
  pub others : (p : ℕ) → p < last_place ed s.header → get_or words p 0 / 512 ≡ 0
