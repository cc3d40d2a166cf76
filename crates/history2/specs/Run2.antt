-- Document 01, "Triggers and the queue", the chip's side of "For demand 3", on the MultiKron II: a list of operations run on a chip, the words that it sent since
-- the last reset, and those still to come.
use Rattle.std.specs.Prelude.{ℕ, zero, suc, cond, List, [], ◌∷◌, ◌++◌, eqb, replicate, take}
use Rattle.chip2.specs.Chip2.{fresh, sent_buffer}
use Rattle.chip2.specs.Operation.{Operation, op_reset, op_write, op_read, op_ticks, op_nodes, op_events, op_send, op_fill, step}
use Rattle.chip2.specs.declared.chip2.Chip2.{Chip2}

-- the chip after a list of operations, the oldest first
unfoldable pub run_from : Chip2 → List Operation → Chip2
run_from c [] = c
run_from c (op ∷ ops) = run_from (step op c).chip ops

abbrev pub chip_of : List Operation → Chip2
chip_of ops = run_from fresh ops

-- the words sent since the last reset, after one operation more on a record inside its bounds, as every list leaves one: a reset, also a write at address 0,
-- begins anew; a send that is done adds its value, and a buffer send what it wrote at the start of a buffer
unfoldable pub stream_after : Operation → Chip2 → List ℕ → List ℕ
stream_after op_reset c ws = []
stream_after (op_write address bits lines) c ws = cond (eqb address 0) [] ws
stream_after (op_read address) c ws = ws
stream_after (op_ticks k levels) c ws = ws
stream_after (op_nodes k levels) c ws = ws
stream_after (op_events mask) c ws = ws
stream_after op_send c ws = ws ++ cond (eqb (step op_send c).number 0) ((step op_send c).value ∷ []) []
stream_after (op_fill room) c ws = ws ++ take (step (op_fill room) c).value (sent_buffer c (replicate room 0))

-- after all of them
unfoldable pub sent_from : Chip2 → List ℕ → List Operation → List ℕ
sent_from c ws [] = ws
sent_from c ws (op ∷ ops) = sent_from (step op c).chip (stream_after op c ws) ops

abbrev pub sent_of : List Operation → List ℕ
sent_of ops = sent_from fresh [] ops

-- "Words still to come are those that single sends from the chip's record would give, one after another, until reply 5": n bounds how many are tried
unfoldable pub come_within : ℕ → Chip2 → List ℕ
come_within zero c = []
come_within (suc n) c =
    cond (eqb (step op_send c).number 5) [] ((step op_send c).value ∷ come_within n (step op_send c).chip)

-- eight samples of at most 84 words are held: 672 is enough (`come_enough`)
abbrev pub to_come : Chip2 → List ℕ
to_come c = come_within 672 c
