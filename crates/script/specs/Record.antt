-- Document 01, "Bench program": the records of twelve bytes and what they do; document 02, Wish 2: the data of a hardware reset.
use Rattle.std.specs.Prelude.{ℕ, Option, None, Some, ◌^◌, cond, List, eqb, ltb, drop, get_or, length}
use Rattle.words.specs.Bytes.{number}
use Rattle.chip.specs.Chip.{external_events, hard_reset, node_ticks, read, send, timestamp_ticks, write}
use Rattle.chip.specs.Told.{Told}
use Rattle.chip.specs.declared.chip.Chip.{Chip}
use Rattle.script.specs.declared.operation.Operation.{Operation}
use Rattle.script.specs.declared.operation.Operation.TheVariants.{Reset, Write, Read, Ticks, Nodes, Events, Send}
use Rattle.script.specs.declared.operation.Outcome.{Outcome}

-- "Reply 9: .. tick count above 4,294,967,295, mask above 65,535": a number of so many bits, or a bad record
abbrev pub fitting : ℕ → (ℕ → Operation) → ℕ → Option Operation
fitting width f bits = cond (ltb bits (2 ^ width)) (Some (f bits)) None

-- "choose by a yes or no, in the bench by its data: 0 tenth, 1 hundredth", and "other data with kind 0 gives 9": a number of one bit
abbrev pub reset_by : ℕ → Operation
reset_by bits = Reset (eqb bits 1)

-- "Kinds: 0 hardware reset, 1 write, 2 read, 3 Timestamp ticks, 4 node ticks, 5 external events, 6 send one word. Fields a kind
-- doesn't need are ignored. Reply 9: kind above 6"
unfoldable pub by_kind : ℕ → ℕ → ℕ → ℕ → Option Operation
by_kind kind address lines bits =
    cond (eqb kind 0) (fitting 1 reset_by bits)
    (cond (eqb kind 1) (Some (Write address bits lines))
    (cond (eqb kind 2) (Some (Read address))
    (cond (eqb kind 3) (fitting 32 Ticks bits)
    (cond (eqb kind 4) (fitting 32 Nodes bits)
    (cond (eqb kind 5) (fitting 16 Events bits)
    (cond (eqb kind 6) (Some Send) None))))))

-- "12-byte records: kind, address, lines, a zero byte, data (8 bytes, low first)"; "Reply 9: .. nonzero fourth byte, .. or a last part
-- of a record"
unfoldable pub operation_of : List ℕ → Option Operation
operation_of bytes =
    cond (eqb (length bytes) 12)
    (cond (eqb (get_or bytes 3 0) 0)
    (by_kind (get_or bytes 0 0) (get_or bytes 1 0) (get_or bytes 2 0) (number (drop 4 bytes)))
    None)
    None

-- what an answer tells: the next chip, the reply's number and the value
abbrev pub outcome_of : Told → Outcome
outcome_of t = record { chip = t.chip; value = t.value; number = t.number }

-- what a record does; "9 bad bench record", value 0, the record the same
unfoldable pub run_of : Option Operation → Chip → Outcome
run_of None c = record { chip = c; value = 0; number = 9 }
run_of (Some (Reset hundredth)) c = outcome_of (hard_reset hundredth c)
run_of (Some (Write address bits lines)) c = outcome_of (write address bits lines c)
run_of (Some (Read address)) c = outcome_of (read address c)
run_of (Some (Ticks k)) c = outcome_of (timestamp_ticks k c)
run_of (Some (Nodes k)) c = outcome_of (node_ticks k c)
run_of (Some (Events mask)) c = outcome_of (external_events mask c)
run_of (Some Send) c = outcome_of (send c)
