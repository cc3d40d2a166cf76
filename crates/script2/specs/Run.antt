-- The records of an input, one after the other, and the text they give: what `turns` says of every format, for records of sixteen bytes.
use Rattle.std.specs.Prelude.{ℕ, List, Option}
use Rattle.chip2.specs.declared.chip2.Chip2.{Chip2}
use Rattle.script2.specs.Line.{words_line}
use Rattle.script2.specs.Record.{operation_of, step_of, sent_words}
use Rattle.script2.specs.declared.operation.Operation.{Operation}
use Rattle.turns.specs.Form.{Form}
use Rattle.turns.specs.Run as turns
use Rattle.turns.specs.declared.format.Block.{Block}

-- the line of an operation
abbrev pub line_of : Option Operation → Chip2 → List ℕ
line_of o c = words_line (step_of o c).number (step_of o c).value (sent_words o c)

-- the longest line has two numbers of twenty digits, a space, a newline and a thousand words of five digits with a space each
abbrev pub second : Form Chip2
second =
    record {
      size = 16;
      room = 6042;
      next = λ bytes c. (step_of (operation_of bytes) c).chip;
      line = λ bytes c. line_of (operation_of bytes) c;
    }

-- how many records an input of some bytes has: a last part is one ("one line `9 0`")
abbrev pub record_count : ℕ → ℕ
record_count size = turns.record_count second size

-- the chip and the lines after the first n records
abbrev pub chip_after : ℕ → List ℕ → Chip2 → Chip2
chip_after n input c = turns.chip_after second n input c

abbrev pub text_after : ℕ → List ℕ → Chip2 → List ℕ
text_after n input c = turns.text_after second n input c

-- the chip after a whole input, and the input's whole text, which stands behind the heading
abbrev pub input_chip : List ℕ → Chip2 → Chip2
input_chip input c = turns.input_chip second input c

abbrev pub input_text : List ℕ → Chip2 → List ℕ
input_text input c = turns.input_text second input c

-- a block takes the records that an input has and that a buffer of this size has room for
abbrev pub block_of : List ℕ → ℕ → Chip2 → Block Chip2
block_of input room c = turns.block_of second input room c

-- the buffer: the text, then what was there
abbrev pub block_buffer : List ℕ → List ℕ → Chip2 → List ℕ
block_buffer input out c = turns.block_buffer second input out c
