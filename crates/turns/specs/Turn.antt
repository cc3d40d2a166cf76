-- What one turn of the program does, up to the calls of the operating system: no contract says what a read gives, so the bytes that came
-- are those that stand in the buffer after it.
use Rattle.std.specs.Prelude.{ℕ, ◌≤◌, ◌≡◌, true, List, [], ◌++◌, length, take}
use Rattle.turns.specs.Form.{Form}
use Rattle.turns.specs.Run.{due, input_chip, input_text, part, whole}
use Rattle.turns.specs.declared.serve.Turn.{Turn}

-- the bytes that have come: those at the front of the input's buffer
abbrev pub bytes_of : {C : Type 0} → Turn C → List ℕ → List ℕ
bytes_of t input = take t.size input

module _ {C : Type 0} (f : Form C) where
  -- from the turn and the buffer before to those after: the part of a record that waited stands before what came, nothing at the end of the
  -- input; what is due of both was run on the chip, and its lines are the bytes of the text's buffer that were handed to the write
  pub record Turned (before after : Turn C) (input₀ input text : List ℕ) : Type 0 where
    pub came : List ℕ
    pub fits : after.size ≤ length input
    pub bytes : bytes_of after input ≡ part f (bytes_of before input₀) ++ came
    pub last : after.ended ≡ true → came ≡ []
    pub chip : after.chip ≡ input_chip f (due f after.ended (bytes_of after input)) before.chip
    pub answers : take after.written text ≡ input_text f (due f after.ended (bytes_of after input)) before.chip

  -- a turn that a failed call ended, of which nothing more is told than that one with this was possible: with it the program ends, and no
  -- turn is handed on
  pub record Stopped (before : Turn C) (input₀ input text : List ℕ) : Type 0 where
    pub after : Turn C
    pub turned : Turned before after input₀ input text

  -- what holds after every turn, of all that came before it and all that came in it: the part that waits is the whole input's so far; the
  -- chip is a fresh one that ran what is due of it; and what this turn writes is what its text has beyond that of the turns before
  pub record Served (fresh : C) (turn : Turn C) (input text : List ℕ) : Type 0 where
    pub earlier : List ℕ
    pub came : List ℕ
    pub fits : turn.size ≤ length input
    pub waiting : part f (bytes_of turn input) ≡ part f (earlier ++ came)
    pub chip : turn.chip ≡ input_chip f (due f turn.ended (earlier ++ came)) fresh
    pub answers : input_text f (due f turn.ended (earlier ++ came)) fresh ≡ input_text f (whole f earlier) fresh ++ take turn.written text
