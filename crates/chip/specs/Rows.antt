-- Document 01, "Reply numbers": for each row of the table, whether an operation on a record is that row's case. The rows are "tried in
-- the order 15, 1, 2, 3, 4, then for a trigger 6, 7, 8 or 10".
use Rattle.std.specs.Prelude.{ℕ, zero, suc, ◌/◌, ◌%◌, ◌^◌, ◌≤◌, ◌<◌, ◌≡◌, Bool, true, false, not, ◌&&◌, ◌||◌, List, leb, ltb, eqb, get_or}
use Rattle.queue.specs.Queue.{zero_held}
use Rattle.queue.specs.declared.queue.Held.{Held}
use Rattle.chip.specs.Chip.{inside}
use Rattle.chip.specs.Place.{between}
use Rattle.chip.specs.Operation.{Operation, op_reset, op_write, op_read, op_ticks, op_nodes, op_events, op_send, op_fill}
use Rattle.chip.specs.declared.chip.Chip.{Chip}

-- ---- addresses, by "Address map"

-- "96..111 Trace trigger", "112..127 Resource trigger"
abbrev pub triggering : ℕ → Bool
triggering a = between 96 127 a

-- "32..47 .. counter 0..15"
abbrev pub counter_at : ℕ → Bool
counter_at a = between 32 47 a

-- the addresses that the map names
abbrev pub mapped : ℕ → Bool
mapped a = leb a 2 || (between 4 6 a || (eqb a 8 || (between 10 12 a || (between 16 23 a || (counter_at a || triggering a)))))

-- "All other addresses to 127 give 2"
abbrev pub vacant : ℕ → Bool
vacant a = leb a 127 && not (mapped a)

-- "refused (3)" as a write
abbrev pub read_only : ℕ → Bool
read_only a = eqb a 2

-- "refused (3)" as a read
abbrev pub write_only : ℕ → Bool
write_only a = eqb a 0 || (eqb a 10 || (eqb a 12 || triggering a))

-- ---- processor lines, by "Reply numbers"

-- "exactly one active processor line" of the eight
abbrev pub line_alone : ℕ → Bool
line_alone n = eqb n 1 || (eqb n 2 || (eqb n 4 || (eqb n 8 || (eqb n 16 || (eqb n 32 || (eqb n 64 || eqb n 128))))))

abbrev pub one_active : ℕ → Bool
one_active lines = line_alone (lines % 256)

-- ---- operations, by "The chip's operations"

-- "any operation but hardware reset"
abbrev pub checked : Operation → Bool
checked (op_reset hundredth) = false
checked (op_write address bits lines) = true
checked (op_read address) = true
checked (op_ticks k) = true
checked (op_nodes k) = true
checked (op_events mask) = true
checked op_send = true
checked (op_fill room) = true

-- a write whose address and lines pass the first test, a read whose address passes the second, or a single send under the third
abbrev pub case : (ℕ → ℕ → Bool) → (ℕ → Bool) → Bool → Operation → Bool
case w r s (op_reset hundredth) = false
case w r s (op_write address bits lines) = w address lines
case w r s (op_read address) = r address
case w r s (op_ticks k) = false
case w r s (op_nodes k) = false
case w r s (op_events mask) = false
case w r s op_send = s
case w r s (op_fill room) = false

-- a trigger with exactly one active processor line that passes a test of its address
abbrev pub trigger_case : (ℕ → Bool) → Operation → Bool
trigger_case f op = case (λ a lines. triggering a && (one_active lines && f a)) (λ a. false) false op

-- a read of a counter, under a test
abbrev pub counter_case : Bool → Operation → Bool
counter_case b op = case (λ a lines. false) (λ a. counter_at a && b) false op

-- ---- triggers, by "Triggers and the queue"

-- the Filter has the trigger's bit: "filter level = address mod 16"
abbrev pub passes : Chip → ℕ → Bool
passes c a = eqb (c.control.filter / 2 ^ (a % 16) % 2) 1

-- one of the first n places has a header with bit 3: the low four bits are 8 or more
unfoldable pub some_resource : ℕ → List Held → Bool
some_resource zero hs = false
some_resource (suc n) hs = leb 8 ((get_or hs n zero_held).header % 16) || some_resource n hs

-- "a Resource sample is held", and so "shadows busy"
abbrev pub resource_held : Chip → Bool
resource_held c = some_resource c.queue.held c.queue.places

-- "A trigger lacks room if 8 are held, or if it is a Resource trigger and a Resource sample is held": from 112 on it is one
abbrev pub lacking : Chip → ℕ → Bool
lacking c a = leb 8 c.queue.held || (leb 112 a && resource_held c)

-- ---- the bounds of 15, by "Reply numbers"

abbrev pub first_header : Chip → ℕ
first_header c = (get_or c.queue.places 0 zero_held).header

-- "as few as the operations need (queue counts, places, phase, field widths)": by number, as docs/BOUNDS.md lists them. The first sample has
-- 80 words where its header's low four bits are 8 or more, else 16; the phase counts to ten, or to a hundred where that is chosen
pub record WithinBounds (c : Chip) : Type 0 where
  pub held : c.queue.held ≤ 8
  pub none : c.queue.held ≡ 0 → c.queue.sent ≡ 0
  pub trace : 0 < c.queue.held → first_header c % 16 < 8 → c.queue.sent < 16
  pub resource : 0 < c.queue.held → 8 ≤ first_header c % 16 → c.queue.sent < 80
  pub tenth : c.switches.hundredth ≡ false → c.switches.phase < 10
  pub hundredth : c.switches.hundredth ≡ true → c.switches.phase < 100
  pub stamp : c.stamp < 2 ^ 56

-- ---- the rows

-- "15 record outside its bounds (any operation but hardware reset)"
abbrev pub row15 : Operation → Chip → Bool
row15 op c = checked op && not (inside c)

-- "1 address above 127"
abbrev pub row1 : Operation → Chip → Bool
row1 op c = inside c && case (λ a lines. ltb 127 a) (λ a. ltb 127 a) false op

-- "2 nothing at this address"
abbrev pub row2 : Operation → Chip → Bool
row2 op c = inside c && case (λ a lines. vacant a) (λ a. vacant a) false op

-- "3 write of a read-only or read of a write-only address"
abbrev pub row3 : Operation → Chip → Bool
row3 op c = inside c && case (λ a lines. read_only a) (λ a. write_only a) false op

-- "4 trigger without exactly one active processor line"
abbrev pub row4 : Operation → Chip → Bool
row4 op c = inside c && case (λ a lines. triggering a && not (one_active lines)) (λ a. false) false op

-- "5 no word to send (single send)"
abbrev pub row5 : Operation → Chip → Bool
row5 op c = inside c && case (λ a lines. false) (λ a. false) (eqb c.queue.held 0) op

-- "6 sampling is off"
abbrev pub row6 : Operation → Chip → Bool
row6 op c = inside c && trigger_case (λ a. not c.control.sampling) op

-- "7 filtered"
abbrev pub row7 : Operation → Chip → Bool
row7 op c = inside c && trigger_case (λ a. c.control.sampling && not (passes c a)) op

-- "8 lost": "Lacking room, it replies 10 under write wait. Otherwise it replies 8"
abbrev pub row8 : Operation → Chip → Bool
row8 op c =
    inside c && trigger_case (λ a. c.control.sampling && (passes c a && (lacking c a && not c.control.writewait))) op

-- "10 wait and try again": that, and "With the shadows busy: reply 10 if read wait is set"
abbrev pub row10 : Operation → Chip → Bool
row10 op c =
    inside c
    && (trigger_case (λ a. c.control.sampling && (passes c a && (lacking c a && c.control.writewait))) op
    || counter_case (resource_held c && c.control.readwait) op)

-- "11 shadows busy, not waiting"
abbrev pub row11 : Operation → Chip → Bool
row11 op c = inside c && counter_case (resource_held c && not c.control.readwait) op

-- "0 done, or sample taken": none of the others
abbrev pub row0 : Operation → Chip → Bool
row0 op c =
    not (row15 op c || (row1 op c || (row2 op c || (row3 op c || (row4 op c || (row5 op c || (row6 op c || (row7 op c || (row8 op c || (row10 op c || row11 op c))))))))))

-- "Refusals are 1 to 5, 9 and 15" (9 is the bench program's)
abbrev pub refused : ℕ → Bool
refused n = between 1 5 n || eqb n 15

-- "112..127 Resource trigger"
abbrev pub resource_trigger : Operation → Bool
resource_trigger op = case (λ a lines. between 112 127 a) (λ a. false) false op

-- what may write the shadows: resets, a Resource trigger ("also copies all counters to the shadows") and "A counter read"
abbrev pub copying : Operation → Bool
copying (op_reset hundredth) = true
copying (op_write a bits lines) = eqb a 0 || between 112 127 a
copying (op_read a) = counter_at a
copying (op_ticks k) = false
copying (op_nodes k) = false
copying (op_events mask) = false
copying op_send = false
copying (op_fill room) = false
