-- Document 01, "The chip's operations": the operations as a type, and what each does. Statements over "any operation" and over lists
-- of operations go by it.
use Rattle.std.specs.Prelude.{ℕ, Bool}
use Rattle.chip.specs.Chip.{external_events, hard_reset, node_ticks, read, send, send_into, timestamp_ticks, write}
use Rattle.chip.specs.Told.{Told}
use Rattle.chip.specs.declared.chip.Chip.{Chip}

-- a reset has its choice of the slow clock's speed (document 02, Wish 2; yes is the hundredth), a write its address, data (`bits` here and
-- in the code, since `data` is a word of the language) and processor lines, a read its address; ticks have their count, events their mask,
-- and a buffer send the number of its places
pub data Operation : Type 0 where
  op_reset : Bool → Operation
  op_write : ℕ → ℕ → ℕ → Operation
  op_read op_ticks op_nodes op_events : ℕ → Operation
  op_send : Operation
  op_fill : ℕ → Operation

-- "Each operation is given the whole record and hands back the next one, with a reply number and a 64-bit value"
abbrev pub step : Operation → Chip → Told
step (op_reset hundredth) c = hard_reset hundredth c
step (op_write address bits lines) c = write address bits lines c
step (op_read address) c = read address c
step (op_ticks k) c = timestamp_ticks k c
step (op_nodes k) c = node_ticks k c
step (op_events mask) c = external_events mask c
step op_send c = send c
step (op_fill room) c = send_into room c
