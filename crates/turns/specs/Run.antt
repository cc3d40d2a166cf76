-- The records of an input, one after the other, and the text they give, for every format.
use Rattle.std.specs.Prelude.{ℕ, zero, suc, ◌+◌, ◌*◌, ◌-◌, ◌/◌, min, Bool, cond, List, [], ◌∷◌, ◌++◌, drop, length, take}
use Rattle.turns.specs.Form.{Form}
use Rattle.turns.specs.declared.format.Block.{Block}

module _ {C : Type 0} (f : Form C) where
  -- how many records an input of some bytes has: a last part is one
  abbrev pub record_count : ℕ → ℕ
  record_count size = (size + (f.size - 1)) / f.size

  -- record i of an input
  abbrev pub record_at : List ℕ → ℕ → List ℕ
  record_at input i = take f.size (drop (f.size * i) input)

  -- the chip after the first n records
  unfoldable pub chip_after : ℕ → List ℕ → C → C
  chip_after zero input c = c
  chip_after (suc n) input c = f.next (record_at input n) (chip_after n input c)

  -- the lines of the first n records
  unfoldable pub text_after : ℕ → List ℕ → C → List ℕ
  text_after zero input c = []
  text_after (suc n) input c = text_after n input c ++ f.line (record_at input n) (chip_after n input c)

  -- the chip after a whole input, and the input's whole text, which stands behind the heading
  unfoldable pub input_chip : List ℕ → C → C
  input_chip input c = chip_after (record_count (length input)) input c

  unfoldable pub input_text : List ℕ → C → List ℕ
  input_text input c = text_after (record_count (length input)) input c

  -- a block takes the records that an input has and that a buffer of this size has room for
  abbrev pub block_count : List ℕ → ℕ → ℕ
  block_count input room = min (record_count (length input)) (room / f.room)

  unfoldable pub block_of : List ℕ → ℕ → C → Block C
  block_of input room c =
      let n = block_count input room in
      record { chip = chip_after n input c; records = n; written = length (text_after n input c) }

  -- the buffer: the text, then what was there
  unfoldable pub block_buffer : List ℕ → List ℕ → C → List ℕ
  block_buffer input out c =
      let text = text_after (block_count input (length out)) input c in
      text ++ drop (length text) out

  -- An input comes in reads of any sizes. The whole records at the front of what has come, and the part of a record behind them, which
  -- waits for its rest.
  abbrev pub whole_size : ℕ → ℕ
  whole_size size = f.size * (size / f.size)

  unfoldable pub whole : List ℕ → List ℕ
  whole bytes = take (whole_size (length bytes)) bytes

  unfoldable pub part : List ℕ → List ℕ
  part bytes = drop (whole_size (length bytes)) bytes

  -- how much of what has come is answered: its whole records; at the end of the input "a last part of a record" too
  abbrev pub due_size : Bool → ℕ → ℕ
  due_size ended size = cond ended size (whole_size size)

  unfoldable pub due : Bool → List ℕ → List ℕ
  due ended bytes = take (due_size ended (length bytes)) bytes

  -- the chip and the text of an input that comes in these reads, behind a part that waits: each read's whole records, and at the end the
  -- last part
  unfoldable pub reads_chip : List (List ℕ) → List ℕ → C → C
  reads_chip [] waiting c = input_chip waiting c
  reads_chip (came ∷ reads) waiting c = reads_chip reads (part (waiting ++ came)) (input_chip (whole (waiting ++ came)) c)

  unfoldable pub reads_text : List (List ℕ) → List ℕ → C → List ℕ
  reads_text [] waiting c = input_text waiting c
  reads_text (came ∷ reads) waiting c =
      input_text (whole (waiting ++ came)) c ++ reads_text reads (part (waiting ++ came)) (input_chip (whole (waiting ++ came)) c)

-- all the bytes of these reads
unfoldable pub joined : List (List ℕ) → List ℕ
joined [] = []
joined (came ∷ reads) = came ++ joined reads
