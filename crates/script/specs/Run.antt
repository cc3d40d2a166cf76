-- Document 01, "Bench program": the records of an input, one after the other, and the text they give: what `turns` says of every format, for
-- the bench's records of twelve bytes.
use Rattle.std.specs.Prelude.{ℕ, Bool, List}
use Rattle.chip.specs.declared.chip.Chip.{Chip}
use Rattle.script.specs.Line.{answer_line}
use Rattle.script.specs.Record.{operation_of, run_of}
use Rattle.script.specs.declared.operation.Outcome.{Outcome}
use Rattle.turns.specs.Form.{Form}
use Rattle.turns.specs.Run as turns
use Rattle.turns.specs.declared.format.Block.{Block}

-- what the bytes of a record do to a chip
abbrev pub outcome_by : List ℕ → Chip → Outcome
outcome_by bytes c = run_of (operation_of bytes) c

-- and their line: "a line for each record: reply, space, value in decimal, newline"
abbrev pub line_by : List ℕ → Chip → List ℕ
line_by bytes c =
    let o = outcome_by bytes c in
    answer_line o.number o.value

-- the longest line has two numbers of twenty digits, a space and a newline
abbrev pub bench : Form Chip
bench = record { size = 12; room = 42; next = λ bytes c. (outcome_by bytes c).chip; line = line_by }

-- how many records an input of some bytes has: "Reply 9: .. or a last part of a record", so a last part is one
abbrev pub record_count : ℕ → ℕ
record_count size = turns.record_count bench size

-- the chip and the lines after the first n records
abbrev pub chip_after : ℕ → List ℕ → Chip → Chip
chip_after n input c = turns.chip_after bench n input c

abbrev pub text_after : ℕ → List ℕ → Chip → List ℕ
text_after n input c = turns.text_after bench n input c

-- the chip after a whole input, and the input's whole text, which stands behind the heading
abbrev pub input_chip : List ℕ → Chip → Chip
input_chip input c = turns.input_chip bench input c

abbrev pub input_text : List ℕ → Chip → List ℕ
input_text input c = turns.input_text bench input c

-- a block takes the records that an input has and that a buffer of this size has room for
abbrev pub block_of : List ℕ → ℕ → Chip → Block Chip
block_of input room c = turns.block_of bench input room c

-- the buffer: the text, then what was there
abbrev pub block_buffer : List ℕ → List ℕ → Chip → List ℕ
block_buffer input out c = turns.block_buffer bench input out c

-- An input comes in reads of any sizes. The whole records at the front of what has come, and the part of a record behind them, which
-- waits for its rest; how much of what has come is answered.
abbrev pub whole : List ℕ → List ℕ
whole bytes = turns.whole bench bytes

abbrev pub part : List ℕ → List ℕ
part bytes = turns.part bench bytes

abbrev pub due : Bool → List ℕ → List ℕ
due ended bytes = turns.due bench ended bytes

-- the chip and the text of an input that comes in these reads, behind a part that waits: each read's whole records, and at the end the
-- last part
abbrev pub reads_chip : List (List ℕ) → List ℕ → Chip → Chip
reads_chip reads waiting c = turns.reads_chip bench reads waiting c

abbrev pub reads_text : List (List ℕ) → List ℕ → Chip → List ℕ
reads_text reads waiting c = turns.reads_text bench reads waiting c

-- all the bytes of these reads
abbrev pub joined : List (List ℕ) → List ℕ
joined reads = turns.joined reads
