-- Document 01, "Sample and words": the writer, its answers 17 and 18, and what it leaves in the buffer.
use Rattle.std.specs.Prelude.{ℕ, ◌^◌, Bool, true, false, cond, ◌&&◌, ◌||◌, List, [], ◌∷◌, ◌++◌, ltb, leb, eqb, length, drop, Result, Ok, Err}
use Rattle.samples.specs.Layout.{Widths, field_widths, counter_widths, resource, sample_length, sample_words}
use Rattle.samples.specs.declared.sample.Sample.{Sample}
use Rattle.samples.specs.declared.writer.WriteError.{WriteError}
use Rattle.samples.specs.declared.writer.WriteError.TheVariants.{Unfit, Short}

-- there is a number for each width, and each is within it
unfoldable pub within : List ℕ → List ℕ → Bool
within [] [] = true
within [] (x ∷ xs) = false
within (n ∷ ns) [] = false
within (n ∷ ns) (x ∷ xs) = ltb x (256 ^ n) && within ns xs

unfoldable pub all_zero : List ℕ → Bool
all_zero [] = true
all_zero (x ∷ xs) = eqb x 0 && all_zero xs

-- "17 a field above its width, header bits 5..7 set, or a Trace sample whose counters aren't all zero": no such fault
unfoldable pub writable : Widths → Sample → Bool
writable w s =
    within (field_widths w) (s.header ∷ s.source ∷ s.stamp ∷ s.user ∷ [])
    && (within counter_widths s.counters && (ltb s.header 32 && (resource s.header || all_zero s.counters)))

-- an answer by document 01: its number, and how many words were written
pub record Row : Type 0 where
  pub number : ℕ
  pub count : ℕ

abbrev pub row : ℕ → ℕ → Row
row number count = record { number = number; count = count }

-- each case's: "returns how many"; "refuses, with 0 .., exactly for: 17 ..; then 18". The number of a written sample, which document 01
-- leaves open, is 0
abbrev pub written_row : Result ℕ WriteError → Row
written_row (Ok n) = row 0 n
written_row (Err Unfit) = row 17 0
written_row (Err Short) = row 18 0

-- 17 before 18, else how many words
unfoldable pub write_answer : Widths → Sample → ℕ → Row
write_answer w s room =
    let n = sample_length w (resource s.header) in
    cond (writable w s) (cond (leb n room) (row 0 n) (row 18 0)) (row 17 0)

-- "the rest untouched"; a refusal writes nothing
unfoldable pub write_buffer : Widths → Sample → List ℕ → List ℕ
write_buffer w s out =
    let n = sample_length w (resource s.header) in
    cond (writable w s) (cond (leb n (length out)) (sample_words w s ++ drop n out) out) out
