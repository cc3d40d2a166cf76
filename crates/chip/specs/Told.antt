-- Document 01, "The chip's operations": "Each operation is given the whole record and hands back the next one, with a reply number and a
-- 64-bit value". What an answer tells, by its reply's number.
use Rattle.control.specs.Reply.{Row}
use Rattle.control.specs.Told as answer
use Rattle.control.specs.declared.answer.Answer.{Answer}
use Rattle.chip.specs.declared.chip.Chip.{Chip}

-- "the next one, with a reply number and a 64-bit value"
abbrev pub Told : Type 0
Told = answer.Told Chip

-- what an answer tells, and what a row tells of a record
abbrev pub told : Answer Chip → Told
told a = answer.told a

abbrev pub told_row : Row → Chip → Told
told_row row c = answer.told_row row c
