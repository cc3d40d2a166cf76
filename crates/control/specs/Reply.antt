-- Document 01, "Reply numbers": the table's columns "No." and "Value".
use Rattle.std.specs.Prelude.{ℕ, ◌^◌}
use Rattle.control.specs.declared.reply.Reply.{Reply}
use Rattle.control.specs.declared.reply.Reply.TheVariants.{Done, TooHigh, Nothing, Forbidden, Lines, NoWord, Off, Filtered, Lost, Wait, Busy, Outside}

-- a row's number and value
pub record Row : Type 0 where
  pub number : ℕ
  pub value : ℕ

-- each reply's row; the second argument is the "data read, word sent, words written to the buffer" of a 0
abbrev pub row_of : Reply → ℕ → Row
row_of Done v = record { number = 0; value = v }
row_of TooHigh v = record { number = 1; value = 0 }
row_of Nothing v = record { number = 2; value = 0 }
row_of Forbidden v = record { number = 3; value = 0 }
row_of Lines v = record { number = 4; value = 0 }
row_of NoWord v = record { number = 5; value = 0 }
row_of Off v = record { number = 6; value = 0 }
row_of Filtered v = record { number = 7; value = 0 }
row_of Lost v = record { number = 8; value = 0 }
row_of Wait v = record { number = 10; value = 0 }
row_of Busy v = record { number = 11; value = 2 ^ 63 }
row_of Outside v = record { number = 15; value = 0 }

-- a reply's number, and its value where nothing is read, sent or written
abbrev pub reply_number : Reply → ℕ
reply_number r = (row_of r 0).number

abbrev pub reply_value : Reply → ℕ
reply_value r = (row_of r 0).value
