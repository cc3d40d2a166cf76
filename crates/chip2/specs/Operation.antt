-- Document 01, "The chip's operations", on the MultiKron II: the operations as a type, and what each does.
use Rattle.std.specs.Prelude.{ℕ}
use Rattle.chip2.specs.Chip2.{external_events, hard_reset, node_ticks, read, send, send_into, timestamp_ticks, write}
use Rattle.chip2.specs.Told.{Told}
use Rattle.chip2.specs.declared.chip2.Chip2.{Chip2}

-- a write has its address, data (`bits` here and in the code) and processor lines, a read its address; ticks have their count and the external
-- lines that are high, events their mask, and a buffer send the number of its places
pub data Operation : Type 0 where
  op_reset : Operation
  op_write : ℕ → ℕ → ℕ → Operation
  op_read : ℕ → Operation
  op_ticks op_nodes : ℕ → ℕ → Operation
  op_events : ℕ → Operation
  op_send : Operation
  op_fill : ℕ → Operation

-- "Each operation is given the whole record and hands back the next one, with a reply number and a 64-bit value"
abbrev pub step : Operation → Chip2 → Told
step op_reset c = hard_reset c
step (op_write address bits lines) c = write address bits lines c
step (op_read address) c = read address c
step (op_ticks k levels) c = timestamp_ticks k levels c
step (op_nodes k levels) c = node_ticks k levels c
step (op_events mask) c = external_events mask c
step op_send c = send c
step (op_fill room) c = send_into room c
