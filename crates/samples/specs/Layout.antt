-- Document 01, "Sample and words": the fields of a sample in sending order, over the widths of Timestamp and user data.
use Rattle.std.specs.Prelude.{ℕ, ◌+◌, ◌/◌, ◌%◌, Bool, cond, List, [], ◌∷◌, ◌++◌, eqb, replicate}
use Rattle.words.specs.Bytes.{low_bytes}
use Rattle.words.specs.Word.{words_of}
use Rattle.samples.specs.declared.edition.Edition.{Edition}
use Rattle.samples.specs.declared.edition.Edition.TheVariants.{First, Second}
use Rattle.samples.specs.declared.sample.Sample.{Sample}

-- the widths that the laws are over: how many bytes of Timestamp and of user data a sample has
pub record Widths : Type 0 where
  pub stamp_bytes : ℕ
  pub user_bytes : ℕ

-- "Timestamp low 40 bits 5, user data low 48 bits 6"; document 02, Wish 9: "user data 64 bits, .. Timestamp 56"
abbrev pub widths : Edition → Widths
widths First = record { stamp_bytes = 5; user_bytes = 6 }
widths Second = record { stamp_bytes = 7; user_bytes = 8 }

-- "bit 3 set for a Resource sample"
abbrev pub resource : ℕ → Bool
resource h = eqb (h / 8 % 2) 1

-- "header 1 byte, Source Address 4, Timestamp .. 5, user data .. 6"; Wish 9: "Field order .. as in 01": the bytes of each field
abbrev pub field_widths : Widths → List ℕ
field_widths w = 1 ∷ 4 ∷ w.stamp_bytes ∷ w.user_bytes ∷ []

-- "counters 0 to 15, 4 bytes each"
abbrev pub counter_widths : List ℕ
counter_widths = replicate 16 4

-- "each low byte first": each number's low bytes, one field after the other
unfoldable pub spread : List ℕ → List ℕ → List ℕ
spread [] xs = []
spread (n ∷ ns) [] = []
spread (n ∷ ns) (x ∷ xs) = low_bytes n x ++ spread ns xs

unfoldable pub field_bytes : Widths → ℕ → ℕ → ℕ → ℕ → List ℕ
field_bytes w header source stamp user = spread (field_widths w) (header ∷ source ∷ stamp ∷ user ∷ [])

unfoldable pub counter_bytes : List ℕ → List ℕ
counter_bytes counters = spread counter_widths counters

-- the bytes of a sample: "A Resource sample adds counters 0 to 15"
unfoldable pub sample_bytes : Widths → Sample → List ℕ
sample_bytes w s =
    field_bytes w s.header s.source s.stamp s.user ++ cond (resource s.header) (counter_bytes s.counters) []

-- and its words
unfoldable pub sample_words : Widths → Sample → List ℕ
sample_words w s = words_of (sample_bytes w s)

-- the sample whose every part is zero
abbrev pub zero_sample : Sample
zero_sample = record { user = 0; stamp = 0; source = 0; header = 0; counters = replicate 16 0 }

-- how many bytes fields of these widths take
abbrev pub total : List ℕ → ℕ
total [] = 0
total (n ∷ ns) = n + total ns

-- "That is 16 bytes. A Resource sample adds ..: 80"; Wish 9: "Samples are 20 and 84 bytes"
abbrev pub sample_length : Widths → Bool → ℕ
sample_length w r = total (field_widths w) + cond r (total counter_widths) 0
