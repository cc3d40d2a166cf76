-- The records of sixteen bytes by which the MultiKron II is tested, and what they do: document 01's "Bench program", with the lines that are
-- high and a buffer send beside it. The quotes without a document's name are from docs/DECISIONS.md,
-- "Test records of the II".
use Rattle.std.specs.Prelude.{ℕ, Bool, Option, None, Some, cond, ◌&&◌, List, [], eqb, leb, drop, get_or, length, replicate, take}
use Rattle.words.specs.Bytes.{number}
use Rattle.chip2.specs.Chip2.{send_into, sent_buffer}
use Rattle.chip2.specs.Operation.{op_events, op_fill, op_nodes, op_read, op_reset, op_send, op_ticks, op_write, step}
use Rattle.chip2.specs.Told.{Told}
use Rattle.chip2.specs.declared.chip2.Chip2.{Chip2}
use Rattle.script2.specs.declared.operation.Operation.{Operation}
use Rattle.script2.specs.declared.operation.Operation.TheVariants.{Reset, Write, Read, Ticks, Nodes, Events, Send, Fill}

-- an operation whose data are a number up to a last one, or a bad record
abbrev pub up_to : ℕ → ℕ → Operation → Option Operation
up_to last bits o = cond (leb bits last) (Some o) None

-- "0 hardware reset (data ignored), 1 write (address, data, lines), 2 read (address), 3 Timestamp ticks (count = data, levels = mask of high
-- lines), 4 node ticks (likewise), 5 external events (mask = data), 6 send one word; and 7: a buffer send with `data` places, at most 1,000".
-- 9 for "a kind above 7, .., a tick count above 4,294,967,295, data above 65,535 (kind 5), more than 1,000 places"
unfoldable pub by_kind : ℕ → ℕ → ℕ → ℕ → ℕ → Option Operation
by_kind kind address lines levels bits =
    cond (eqb kind 0) (Some Reset)
    (cond (eqb kind 1) (Some (Write address bits lines))
    (cond (eqb kind 2) (Some (Read address))
    (cond (eqb kind 3) (up_to 4294967295 bits (Ticks bits levels))
    (cond (eqb kind 4) (up_to 4294967295 bits (Nodes bits levels))
    (cond (eqb kind 5) (up_to 65535 bits (Events bits))
    (cond (eqb kind 6) (Some Send)
    (cond (eqb kind 7) (up_to 1000 bits (Fill bits)) None)))))))

-- "the three zero bytes (bytes 3, 6, 7) are checked for every kind"
abbrev pub zeroed : List ℕ → Bool
zeroed bytes = eqb (get_or bytes 3 0) 0 && (eqb (get_or bytes 6 0) 0 && eqb (get_or bytes 7 0) 0)

-- "records of 16 bytes: kind, address, lines, a zero byte, mask of high lines (2 bytes, low first), two zero bytes, data (8 bytes, low first)";
-- 9 for "a nonzero zero byte" and "a last part of a record"
unfoldable pub operation_of : List ℕ → Option Operation
operation_of bytes =
    cond (eqb (length bytes) 16)
    (cond (zeroed bytes)
    (by_kind (get_or bytes 0 0) (get_or bytes 1 0) (get_or bytes 2 0) (number (take 2 (drop 4 bytes))) (number (take 8 (drop 8 bytes))))
    None)
    None

-- what it does: the chip's operation; "Reply 9 with value 0, chip unchanged"
unfoldable pub step_of : Option Operation → Chip2 → Told
step_of None c = record { chip = c; number = 9; value = 0 }
step_of (Some Reset) c = step op_reset c
step_of (Some (Write address bits lines)) c = step (op_write address bits lines) c
step_of (Some (Read address)) c = step (op_read address) c
step_of (Some (Ticks k levels)) c = step (op_ticks k levels) c
step_of (Some (Nodes k levels)) c = step (op_nodes k levels) c
step_of (Some (Events mask)) c = step (op_events mask) c
step_of (Some Send) c = step op_send c
step_of (Some (Fill places)) c = step (op_fill places) c

-- the words it sends into a buffer of that many places: as many as the value says
unfoldable pub sent_words : Option Operation → Chip2 → List ℕ
sent_words None c = []
sent_words (Some Reset) c = []
sent_words (Some (Write address bits lines)) c = []
sent_words (Some (Read address)) c = []
sent_words (Some (Ticks k levels)) c = []
sent_words (Some (Nodes k levels)) c = []
sent_words (Some (Events mask)) c = []
sent_words (Some Send) c = []
sent_words (Some (Fill places)) c = take (send_into places c).value (sent_buffer c (replicate places 0))
