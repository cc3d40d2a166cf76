-- Document 01, "The chip's operations": "Each operation is given the whole record and hands back the next one, with a reply number and a
-- 64-bit value". What an answer of either chip tells, by its reply's number.
use Rattle.std.specs.Prelude.{ℕ}
use Rattle.control.specs.Reply.{Row, reply_number}
use Rattle.control.specs.declared.answer.Answer.{Answer}

-- "the next one, with a reply number and a 64-bit value"
pub record Told (C : Type 0) : Type 0 where
  pub chip : C
  pub number : ℕ
  pub value : ℕ

-- what an answer tells, and what a row tells of a record
abbrev pub told : {C : Type 0} → Answer C → Told C
told a = record { chip = a.chip; number = reply_number a.reply; value = a.value }

abbrev pub told_row : {C : Type 0} → Row → C → Told C
told_row row c = record { chip = c; number = row.number; value = row.value }
