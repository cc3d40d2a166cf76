-- The slow clock's choice is a hardware reset's alone: every other operation leaves it as it was, done or refused, on any record. By what
-- reads and writes leave, and the cases of operations. Assumes nothing.
use mathlib.Core.Path.{◌≡◌, refl}
use mathlib.Core.Bool.{true, false≢true}
use lib.Dec.{eqb}
use Rattle.chip.specs.Chip.{external_events, inside, node_ticks, read, send, send_into, timestamp_ticks, write}
use Rattle.chip.specs.Operation.{Operation, op_reset, op_write, op_read, op_ticks, op_nodes, op_events, op_send, op_fill, step}
use Rattle.chip.specs.Place.{place_of}
use Rattle.chip.specs.Rows.{checked}
use Rattle.chip.specs.Told.{Told}
use Rattle.chip.specs.declared.chip.Chip.{Chip}
use Rattle.chip.proofs.Bounds.{guarded_keeps, read_keeps, write_keeps}
use Rattle.chip.proofs.ChipLaws.{either}

-- a record with the choice of c
abbrev Chosen : Chip → Chip → Type 0
Chosen c d = d.switches.hundredth ≡ c.switches.hundredth

-- document 02, Wish 2: "Let a hardware reset choose", "Software reset keeps the choice"
pub choice_stays : (op : Operation) (c : Chip) → checked op ≡ true → (step op c).chip.switches.hundredth ≡ c.switches.hundredth
unfolding write read timestamp_ticks node_ticks external_events send send_into
choice_stays (op_reset hundredth) c e = absurd (false≢true e)
choice_stays (op_write a bits lines) c e =
    guarded_keeps (Chosen c) (inside c) c _ refl
    (write_keeps (Chosen c) (place_of a) bits lines c refl (λ k. refl) refl refl refl refl (λ i. refl) (λ i. refl) refl (λ r. refl))
choice_stays (op_read a) c e = guarded_keeps (Chosen c) (inside c) c _ refl (read_keeps (Chosen c) (place_of a) c refl (λ k. refl) refl)
choice_stays (op_ticks k) c e = guarded_keeps (Chosen c) (inside c) c _ refl refl
choice_stays (op_nodes k) c e = guarded_keeps (Chosen c) (inside c) c _ refl refl
choice_stays (op_events mask) c e = guarded_keeps (Chosen c) (inside c) c _ refl refl
choice_stays op_send c e =
    guarded_keeps (Chosen c) (inside c) c _ refl (either (λ (t : Told). Chosen c t.chip) (eqb c.queue.held 0) _ _ refl refl)
choice_stays (op_fill room) c e = guarded_keeps (Chosen c) (inside c) c _ refl refl
