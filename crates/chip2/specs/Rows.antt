-- Document 01, "Reply numbers", for the MultiKron II: for each row of the table, whether an operation on a record is that row's case, with the
-- addresses of document 001, Table B4. The rows are "tried in the order 15, 1, 2, 3, 4, then for a trigger 6, 7, 8 or 10".
use Rattle.std.specs.Prelude.{ℕ, ◌/◌, ◌%◌, ◌^◌, ◌≤◌, ◌<◌, ◌≡◌, Bool, true, false, not, ◌&&◌, ◌||◌, leb, ltb, eqb, get_or}
use Rattle.queue.specs.Queue.{zero_held}
use Rattle.chip.specs.Place.{between}
use Rattle.chip.specs.Rows.{one_active, read_only, some_resource, triggering}
use Rattle.chip2.specs.Chip2.{inside}
use Rattle.chip2.specs.Operation.{Operation, op_reset, op_write, op_read, op_ticks, op_nodes, op_events, op_send, op_fill}
use Rattle.chip2.specs.declared.chip2.Chip2.{Chip2}

-- ---- addresses, by Table B4

-- "64-79 Resource Counter j (0..15)": read with copy
abbrev pub counter_at : ℕ → Bool
counter_at a = between 64 79 a

-- "80-95 .. j (0..15)": read without copy
abbrev pub shadow_at : ℕ → Bool
shadow_at a = between 80 95 a

-- the addresses that the table names for normal mode: 0 to 2, 4 to 8, 10, 12, "32-39 Source Addr Reg", the counters and the triggers
abbrev pub mapped : ℕ → Bool
mapped a = leb a 2 || (between 4 8 a || (eqb a 10 || (eqb a 12 || (between 32 39 a || (counter_at a || (shadow_at a || triggering a))))))

-- "All other addresses to 127 give 2", "a test-mode address gives 2"
abbrev pub vacant : ℕ → Bool
vacant a = leb a 127 && not (mapped a)

-- "refused (3)" as a read: 0 and the triggers; as a write it is the Timestamp's address alone, as on the first chip (`read_only`)
abbrev pub write_only : ℕ → Bool
write_only a = eqb a 0 || triggering a

-- ---- operations, by "The chip's operations"

-- "any operation but hardware reset"
abbrev pub checked : Operation → Bool
checked op_reset = false
checked (op_write address bits lines) = true
checked (op_read address) = true
checked (op_ticks k levels) = true
checked (op_nodes k levels) = true
checked (op_events mask) = true
checked op_send = true
checked (op_fill room) = true

-- a write whose address and lines pass the first test, a read whose address passes the second, or a single send under the third
abbrev pub case : (ℕ → ℕ → Bool) → (ℕ → Bool) → Bool → Operation → Bool
case w r s op_reset = false
case w r s (op_write address bits lines) = w address lines
case w r s (op_read address) = r address
case w r s (op_ticks k levels) = false
case w r s (op_nodes k levels) = false
case w r s (op_events mask) = false
case w r s op_send = s
case w r s (op_fill room) = false

-- a trigger with exactly one active processor line that passes a test of its address
abbrev pub trigger_case : (ℕ → Bool) → Operation → Bool
trigger_case f op = case (λ a lines. triggering a && (one_active lines && f a)) (λ a. false) false op

-- a read of a counter with copy, under a test
abbrev pub counter_case : Bool → Operation → Bool
counter_case b op = case (λ a lines. false) (λ a. counter_at a && b) false op

-- ---- triggers, by "Triggers and the queue"

-- the Filter has the trigger's bit: "filter level = address mod 16"
abbrev pub passes : Chip2 → ℕ → Bool
passes c a = eqb (c.control.filter / 2 ^ (a % 16) % 2) 1

-- "a Resource sample is held", and so "shadows busy"
abbrev pub resource_held : Chip2 → Bool
resource_held c = some_resource c.queue.held c.queue.places

-- "A trigger lacks room if 8 are held, or if it is a Resource trigger and a Resource sample is held": from 112 on it is one
abbrev pub lacking : Chip2 → ℕ → Bool
lacking c a = leb 8 c.queue.held || (leb 112 a && resource_held c)

-- ---- the bounds of 15, by "Reply numbers"

abbrev pub first_header : Chip2 → ℕ
first_header c = (get_or c.queue.places 0 zero_held).header

-- "as few as the operations need (queue counts, places, phase, field widths)", by number. The first sample has 84 words where its header's low
-- four bits are 8 or more, else 20 (document 02, Wish 9); the node clock's phase counts to a hundred
pub record WithinBounds (c : Chip2) : Type 0 where
  pub held : c.queue.held ≤ 8
  pub none : c.queue.held ≡ 0 → c.queue.sent ≡ 0
  pub trace : 0 < c.queue.held → first_header c % 16 < 8 → c.queue.sent < 20
  pub resource : 0 < c.queue.held → 8 ≤ first_header c % 16 → c.queue.sent < 84
  pub phase : c.phase < 100
  pub stamp : c.stamp < 2 ^ 56

-- ---- the rows

-- "15 record outside its bounds (any operation but hardware reset)"
abbrev pub row15 : Operation → Chip2 → Bool
row15 op c = checked op && not (inside c)

-- "1 address above 127"
abbrev pub row1 : Operation → Chip2 → Bool
row1 op c = inside c && case (λ a lines. ltb 127 a) (λ a. ltb 127 a) false op

-- "2 nothing at this address"
abbrev pub row2 : Operation → Chip2 → Bool
row2 op c = inside c && case (λ a lines. vacant a) (λ a. vacant a) false op

-- "3 write of a read-only or read of a write-only address"
abbrev pub row3 : Operation → Chip2 → Bool
row3 op c = inside c && case (λ a lines. read_only a) (λ a. write_only a) false op

-- "4 trigger without exactly one active processor line"
abbrev pub row4 : Operation → Chip2 → Bool
row4 op c = inside c && case (λ a lines. triggering a && not (one_active lines)) (λ a. false) false op

-- "5 no word to send (single send)"
abbrev pub row5 : Operation → Chip2 → Bool
row5 op c = inside c && case (λ a lines. false) (λ a. false) (eqb c.queue.held 0) op

-- "6 sampling is off"
abbrev pub row6 : Operation → Chip2 → Bool
row6 op c = inside c && trigger_case (λ a. not c.control.sampling) op

-- "7 filtered"
abbrev pub row7 : Operation → Chip2 → Bool
row7 op c = inside c && trigger_case (λ a. c.control.sampling && not (passes c a)) op

-- "8 lost": "Lacking room, it replies 10 under write wait. Otherwise it replies 8"
abbrev pub row8 : Operation → Chip2 → Bool
row8 op c =
    inside c && trigger_case (λ a. c.control.sampling && (passes c a && (lacking c a && not c.control.writewait))) op

-- "10 wait and try again": that, and "With the shadows busy: reply 10 if read wait is set"; "A read-without-copy will not be blocked"
abbrev pub row10 : Operation → Chip2 → Bool
row10 op c =
    inside c
    && (trigger_case (λ a. c.control.sampling && (passes c a && (lacking c a && c.control.writewait))) op
    || counter_case (resource_held c && c.control.readwait) op)

-- "11 shadows busy, not waiting"
abbrev pub row11 : Operation → Chip2 → Bool
row11 op c = inside c && counter_case (resource_held c && not c.control.readwait) op

-- "0 done, or sample taken": none of the others
abbrev pub row0 : Operation → Chip2 → Bool
row0 op c =
    not (row15 op c || (row1 op c || (row2 op c || (row3 op c || (row4 op c || (row5 op c || (row6 op c || (row7 op c || (row8 op c || (row10 op c || row11 op c))))))))))

-- "112-127 .. Resource Sample"
abbrev pub resource_trigger : Operation → Bool
resource_trigger op = case (λ a lines. between 112 127 a) (λ a. false) false op

-- what may write the shadows: resets, a Resource trigger ("also copies all counters to the shadows") and "Reading-with-copy"
abbrev pub copying : Operation → Bool
copying op_reset = true
copying (op_write a bits lines) = eqb a 0 || between 112 127 a
copying (op_read a) = counter_at a
copying (op_ticks k levels) = false
copying (op_nodes k levels) = false
copying (op_events mask) = false
copying op_send = false
copying (op_fill room) = false
