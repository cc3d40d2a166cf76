-- Document 01, "Bench program", said a second time, by the bytes of a record: its kind is a place in a list of the chip's operations, and
-- a bad record is one of six tests. `Kinds` names nothing of `Record`; that the two agree is proved.
use Rattle.std.specs.Prelude.{ℕ, Bool, true, false, cond, not, ◌&&◌, ◌||◌, List, [], ◌∷◌, eqb, ltb, get_or, length}
use Rattle.words.specs.Bytes.{number}
use Rattle.chip.specs.Operation.{Operation, op_reset, op_write, op_read, op_ticks, op_nodes, op_events, op_send, step}
use Rattle.chip.specs.Told.{Told}
use Rattle.chip.specs.declared.chip.Chip.{Chip}

-- "kind, address, lines, a zero byte, data": what is asked of these parts, or `none` where the bytes end before the fourth
abbrev pub parted : {A : Type 0} → A → (ℕ → ℕ → ℕ → ℕ → List ℕ → A) → List ℕ → A
parted none f [] = none
parted none f (kind ∷ []) = none
parted none f (kind ∷ address ∷ []) = none
parted none f (kind ∷ address ∷ lines ∷ []) = none
parted none f (kind ∷ address ∷ lines ∷ fourth ∷ eight) = f kind address lines fourth eight

-- document 02, Wish 2: "0 tenth, 1 hundredth"
abbrev pub speeds : List Bool
speeds = false ∷ true ∷ []

-- "Kinds: 0 hardware reset, 1 write, 2 read, 3 Timestamp ticks, 4 node ticks, 5 external events, 6 send one word.
-- Fields a kind doesn't need are ignored"
abbrev pub kind_list : ℕ → ℕ → ℕ → List Operation
kind_list address lines bits =
    op_reset (get_or speeds bits false) ∷ op_write address bits lines ∷ op_read address ∷ op_ticks bits ∷ op_nodes bits ∷ op_events bits ∷ op_send ∷ []

-- the operation that a record asks for
abbrev pub asked : List ℕ → Operation
asked = parted (op_reset false) (λ kind address lines fourth eight. get_or (kind_list address lines (number eight)) kind (op_reset false))

-- "Reply 9: kind above 6, .. tick count above 4,294,967,295, mask above 65,535"; document 02, Wish 2: "other data with kind 0"
abbrev pub bad_kind : ℕ → ℕ → Bool
bad_kind kind bits =
    ltb 6 kind || (eqb kind 0 && ltb 1 bits || ((eqb kind 3 || eqb kind 4) && ltb 4294967295 bits || eqb kind 5 && ltb 65535 bits))

-- and, before these, "a last part of a record" (its data aren't 8 bytes) and "nonzero fourth byte"
abbrev pub bad_record : List ℕ → Bool
bad_record =
    parted true (λ kind address lines fourth eight. not (eqb (length eight) 8) || (not (eqb fourth 0) || bad_kind kind (number eight)))

-- "9 bad bench record", "0", "same"; else what the chip's operation tells
abbrev pub refused_record : Chip → Told
refused_record c = record { chip = c; number = 9; value = 0 }

abbrev pub record_tells : List ℕ → Chip → Told
record_tells bytes c = cond (bad_record bytes) (refused_record c) (step (asked bytes) c)
