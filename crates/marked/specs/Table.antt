-- Document 01, "Marked examples": "Proved as a single table under one claim". Rows of the table, and the one test of a row.
use Rattle.std.specs.Prelude.{ℕ, ◌-◌, Bool, true, false, ◌&&◌, List, [], ◌∷◌, eqb, get_or, length}
use Rattle.samples.specs.Layout.{sample_bytes, sample_words, widths}
use Rattle.samples.specs.declared.edition.Edition.TheVariants.{First}
use Rattle.samples.specs.Read.{read_part}
use Rattle.samples.specs.declared.sample.Sample.{Sample}
use Rattle.chip.specs.Chip.{fresh}
use Rattle.chip.specs.Operation.{Operation, step}
use Rattle.chip.specs.declared.chip.Chip.{Chip}

-- one operation of a script: with the number that it must reply, or with number and value
pub data Line : Type 0 where
  replies : Operation → ℕ → Line
  gives : Operation → ℕ → ℕ → Line

-- a row: a script on a fresh chip; a sample with its bytes and its last word; words with the reader's answer
pub data Row : Type 0 where
  script : List Line → Row
  bytes_are : Sample → List ℕ → ℕ → Row
  reader_says : List ℕ → ℕ → Row

unfoldable pub runs : List Line → Chip → Bool
runs [] c = true
runs (replies op n ∷ ls) c =
    let a = step op c in
    eqb a.number n && runs ls a.chip
runs (gives op n v ∷ ls) c =
    let a = step op c in
    eqb a.number n && (eqb a.value v && runs ls a.chip)

unfoldable pub same_numbers : List ℕ → List ℕ → Bool
same_numbers [] [] = true
same_numbers [] (y ∷ ys) = false
same_numbers (x ∷ xs) [] = false
same_numbers (x ∷ xs) (y ∷ ys) = eqb x y && same_numbers xs ys

-- the test of a row
unfoldable pub holds : Row → Bool
holds (script ls) = runs ls fresh
holds (bytes_are s bytes last) =
    let words = sample_words (widths First) s in
    same_numbers (sample_bytes (widths First) s) bytes && eqb (get_or words (length words - 1) 0) last
holds (reader_says words n) = eqb (read_part (widths First) words).number n

-- and of a table
unfoldable pub all_hold : List Row → Bool
all_hold [] = true
all_hold (r ∷ rs) = holds r && all_hold rs
