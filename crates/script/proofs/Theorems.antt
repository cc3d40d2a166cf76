-- A block with room for its records gives their whole text, and an input cut at the end of a record gives the chip and the text of the
-- whole: so it doesn't matter in which reads an input comes (`reads_chip_lem`, `reads_text_lem`). As of every format, so of the bench's.
-- Assumes nothing.
use Prim.Native.Nat.{ℕ, ◌*◌, ◌≤◌}
use native.Mathlib.Omega.{arith}
use mathlib.Core.Path.{◌≡◌}
use mathlib.Core.List.{List, [], ◌++◌}
use lib.ListN.{drop, length}
use Rattle.chip.specs.declared.chip.Chip.{Chip}
use Rattle.script.specs.Run.{bench, block_buffer, block_of, input_chip, input_text, joined, reads_chip, reads_text, record_count}
use Rattle.turns.proofs.RunLaws as turns

module _ (first rest : List ℕ) (n : ℕ) (whole : length first ≡ 12 * n) (c : Chip) where
  -- the chip after an input is the chip after its rest, from where the first part left it
  pub cut_chip : input_chip (first ++ rest) c ≡ input_chip rest (input_chip first c)
  cut_chip = turns.cut_chip bench (omega arith) first rest n whole c

  -- and its text is the first part's, then the rest's
  pub cut_text : input_text (first ++ rest) c ≡ input_text first c ++ input_text rest (input_chip first c)
  cut_text = turns.cut_text bench (omega arith) first rest n whole c

-- a block with room for its records gives their whole text
module _ (input out : List ℕ) (c : Chip) (room : 42 * record_count (length input) ≤ length out) where
  pub block_whole : block_of input (length out) c ≡ record { chip = input_chip input c; records = record_count (length input); written = length (input_text input c) }
  block_whole = turns.block_whole bench (omega arith) (omega arith) input out c room

  pub buffer_whole : block_buffer input out c ≡ input_text input c ++ drop (length (input_text input c)) out
  buffer_whole = turns.buffer_whole bench (omega arith) (omega arith) input out c room

-- every way to cut an input into reads gives the chip and the text of the whole input
pub reads_chip_lem : (reads : List (List ℕ)) (c : Chip) → reads_chip reads [] c ≡ input_chip (joined reads) c
reads_chip_lem reads c = turns.reads_chip_lem bench (omega arith) reads c

pub reads_text_lem : (reads : List (List ℕ)) (c : Chip) → reads_text reads [] c ≡ input_text (joined reads) c
reads_text_lem reads c = turns.reads_text_lem bench (omega arith) reads c
