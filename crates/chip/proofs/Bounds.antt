-- A fresh chip is inside the bounds and has the lengths and widths of its types, and every operation keeps both: few touch the queue, the
-- phase, the Timestamp or a list, and those have laws of their own. So no chain of operations from a fresh chip meets reply 15. Assumes
-- nothing.
use Prim.Native.Nat.{ℕ, zero, suc, ◌+◌, ◌%◌, ◌^◌, ◌<◌}
use native.Mathlib.Nat.{mod-lt}
use native.Mathlib.Omega.{arith}
use mathlib.Core.Path.{◌≡◌, refl, sym, ap, ◌∙◌, subst}
use mathlib.Core.Bool.{Bool, true, false, cond, not, ◌&&◌, and-false}
use lib.Dec.{eqb}
use lib.ListN.{get_or, length, set}
use borrow.Author.Tests.{eqb-false}
use Rattle.samples.specs.Layout.{counter_widths, widths}
use Rattle.samples.specs.declared.edition.Edition.TheVariants.{First}
use Rattle.samples.specs.Write.{within}
use Rattle.counters.specs.Bank.{bit, cleared, copied, counting, grown}
use Rattle.counters.specs.Due.{disabling, due, enabling, fired, selecting, signalled, slow_events, ticked}
use Rattle.counters.specs.declared.bank.Bank.{Bank}
use Rattle.counters.specs.declared.switches.Kind.TheVariants.{Slow, External, Software, Node}
use Rattle.counters.proofs.TickLaws.{divisor_some}
use Rattle.queue.specs.Queue.{advanced, busy, inside_queue, next_word, pushed, send_many, send_queue}
use Rattle.queue.specs.declared.queue.Held.{Held}
use Rattle.queue.specs.declared.queue.Queue.{Queue}
use Rattle.queue.proofs.BoundLaws.{advance_bounds, advance_places, push_bounds, push_places, send_bounds, send_places}
use Rattle.control.specs.Control.{waited}
use Rattle.control.specs.declared.fate.Fate.{Fate}
use Rattle.control.specs.declared.fate.Fate.TheVariants.{Off as is_off, Filtered as is_filtered, Lost as is_lost, Wait as is_told, Taken as is_taken}
use Rattle.control.specs.declared.control.Control.{Control}
use Rattle.control.specs.declared.reply.Reply.TheVariants.{Lines, NoWord, Wait, Busy, Outside}
use Rattle.chip.specs.Chip.{after_ticks, done, external_events, fate_of, fresh, inside, line_of, node_ticks, one_line, read, read_at, read_counter, replied, sample_now, send, send_into, send_now, soft_reset, take_sample, timestamp_ticks, trigger, trigger_by, with_bank, with_control, with_queue, with_sources, with_switches, write, write_at}
use Rattle.chip.specs.Operation.{Operation, op_reset, op_write, op_read, op_ticks, op_nodes, op_events, op_send, op_fill, step}
use Rattle.chip.specs.Place.{place_of}
use Rattle.chip.specs.Repeat.{repeat}
use Rattle.chip.specs.Rows.{checked}
use Rattle.chip.specs.Shape.{Shaped}
use Rattle.chip.specs.Told.{Told}
use Rattle.chip.specs.declared.chip.Chip.{Chip}
use Rattle.chip.specs.declared.place.Place.{Place}
use Rattle.chip.specs.declared.place.Place.TheVariants.{Beyond, Nowhere, Reset, Csr, Timestamp, Filter, Waits, Overruns, Mux, Clear, Enable, Disable, Source, Counter, Trigger}
use Rattle.chip.proofs.ChipLaws.{by_bounds, either, inside_by, inside_phase, inside_queue_lem, inside_stamp}
use Rattle.chip.proofs.Replies.{reply_15}
use Rattle.chip.proofs.Resets.{reset_inside, reset_record}
use Rattle.chip.proofs.WidthLaws.{each_within, within_set}

-- ---- the bounds of a record with another part

-- another queue inside its bounds
inside_queued : (c : Chip) (q : Queue) → inside c ≡ true → inside_queue (widths First) q ≡ true → inside (with_queue q c) ≡ true
inside_queued c q h k = inside_by (with_queue q c) k (inside_phase c h) (inside_stamp c h)

-- a sample taken
take_inside : (r : Bool) (line bits : ℕ) (c : Chip) → inside c ≡ true → inside (take_sample r line bits c) ≡ true
take_inside r line bits c h =
    let sample : Held = sample_now r line bits c in
    inside_queued c (pushed sample c.queue) h (push_bounds (widths First) sample c.queue (inside_queue_lem c h))

-- ---- "a fresh chip is inside them"

pub fresh_inside : inside fresh ≡ true
fresh_inside = refl

pub fresh_shaped : Shaped fresh
unfolding within
fresh_shaped = record { places = refl; sources = refl; values = refl; shadows = refl }

-- ---- "and every operation keeps them"

-- a statement on the next record
pub guarded_keeps : (P : Chip → Type 0) (b : Bool) (c : Chip) (a : Told) → P c → P a.chip → P (cond b a (replied Outside c)).chip
guarded_keeps P b c a p q = by_bounds (λ t x. P x.chip) b c a q p

-- a trigger keeps what a lost one, one told to wait and a taken one keep
pub trigger_keeps : (P : Chip → Type 0) (r o : Bool) (f : Fate) (line bits : ℕ) (c : Chip) → P c → ((k : Control) → P (with_control k c)) → P (take_sample r line bits c) → P (cond o (trigger_by f r line bits c) (replied Lines c)).chip
unfolding trigger_by
trigger_keeps P r false f line bits c p k t = p
trigger_keeps P r true is_off line bits c p k t = p
trigger_keeps P r true is_filtered line bits c p k t = p
trigger_keeps P r true is_lost line bits c p k t = k _
trigger_keeps P r true is_told line bits c p k t = k _
trigger_keeps P r true is_taken line bits c p k t = t

-- a read keeps what a record with another Wait Counter and one with a copy in the shadows keep
pub read_keeps : (P : Chip → Type 0) (p : Place) (c : Chip) → P c → ((k : Control) → P (with_control k c)) → P (with_bank (copied c.bank) c) → P (read_at p c).chip
unfolding read_at read_counter
read_keeps P Beyond c h k s = h
read_keeps P Nowhere c h k s = h
read_keeps P Reset c h k s = h
read_keeps P Csr c h k s = h
read_keeps P Timestamp c h k s = h
read_keeps P Filter c h k s = h
read_keeps P Waits c h k s = h
read_keeps P Overruns c h k s = h
read_keeps P Mux c h k s = h
read_keeps P Clear c h k s = h
read_keeps P Enable c h k s = h
read_keeps P Disable c h k s = h
read_keeps P (Source i) c h k s = h
read_keeps P (Counter i) c h k s = go (busy c.queue) c.control.readwait
  where
    go : (b w : Bool) → P (cond b (cond w (replied Wait (with_control (waited c.control) c)) (replied Busy c)) (done (get_or c.bank.values i 0) (with_bank (copied c.bank) c))).chip
    go true true = k _
    go true false = h
    go false w = s
read_keeps P (Trigger r level) c h k s = h

-- a write keeps what each record keeps that a write can leave: the same (h), another control (k), MUX SEL (m), enabled set (e, d), cleared counters
-- (z), a software event (f), a Source Address (s), a software reset's (n), a sample more (t)
pub write_keeps : (P : Chip → Type 0) (p : Place) (bits lines : ℕ) (c : Chip) → P c → ((k : Control) → P (with_control k c)) → P (with_switches (selecting bits c.switches) c) → P (with_switches (enabling bits c.switches) c) → P (with_switches (disabling bits c.switches) c) → P (with_bank (cleared (bits % 2 ^ 16) c.bank) c) → ((i : ℕ) → P (with_bank (fired i c.switches c.bank) c)) → ((i : ℕ) → P (with_sources (set c.sources i (bits % 2 ^ 32)) c)) → P (soft_reset c) → ((r : Bool) → P (take_sample r (line_of lines) bits c)) → P (write_at p bits lines c).chip
unfolding write_at trigger
write_keeps P Beyond bits lines c h k m e d z f s n t = h
write_keeps P Nowhere bits lines c h k m e d z f s n t = h
write_keeps P Reset bits lines c h k m e d z f s n t = n
write_keeps P Csr bits lines c h k m e d z f s n t = k _
write_keeps P Timestamp bits lines c h k m e d z f s n t = h
write_keeps P Filter bits lines c h k m e d z f s n t = k _
write_keeps P Waits bits lines c h k m e d z f s n t = k _
write_keeps P Overruns bits lines c h k m e d z f s n t = k _
write_keeps P Mux bits lines c h k m e d z f s n t = m
write_keeps P Clear bits lines c h k m e d z f s n t = z
write_keeps P Enable bits lines c h k m e d z f s n t = e
write_keeps P Disable bits lines c h k m e d z f s n t = d
write_keeps P (Source i) bits lines c h k m e d z f s n t = s i
write_keeps P (Counter i) bits lines c h k m e d z f s n t = f i
write_keeps P (Trigger r level) bits lines c h k m e d z f s n t =
    trigger_keeps P r (one_line lines) (fate_of r level c) (line_of lines) bits c h k (t r)

-- the bounds
write_inside : (p : Place) (bits lines : ℕ) (c : Chip) → inside c ≡ true → inside (write_at p bits lines c).chip ≡ true
write_inside p bits lines c h =
    write_keeps (λ d. inside d ≡ true) p bits lines c h (λ k. h) h h h h (λ i. h) (λ i. h)
    (ap inside (reset_record c) ∙ reset_inside c.stamp c.switches.hundredth (inside_stamp c h))
    (λ r. take_inside r (line_of lines) bits c h)

pub keeps_inside : (op : Operation) (c : Chip) → inside c ≡ true → inside (step op c).chip ≡ true
unfolding write read timestamp_ticks node_ticks external_events send send_into send_many
keeps_inside (op_reset hundredth) c h = reset_inside 0 hundredth (omega arith)
keeps_inside (op_write a bits lines) c h =
    guarded_keeps (λ d. inside d ≡ true) (inside c) c (write_at (place_of a) bits lines c) h (write_inside (place_of a) bits lines c h)
keeps_inside (op_read a) c h =
    guarded_keeps (λ d. inside d ≡ true) (inside c) c (read_at (place_of a) c) h (read_keeps (λ d. inside d ≡ true) (place_of a) c h (λ k. h) h)
keeps_inside (op_ticks k) c h =
    guarded_keeps (λ d. inside d ≡ true) (inside c) c (done 0 (after_ticks k c)) h
    (inside_by (after_ticks k c) (inside_queue_lem c h) (mod-lt (c.switches.phase + k) (divisor_some c.switches.hundredth)) (omega arith))
keeps_inside (op_nodes k) c h = guarded_keeps (λ d. inside d ≡ true) (inside c) c (done 0 (with_bank (ticked Node k c.switches c.bank) c)) h h
keeps_inside (op_events mask) c h = guarded_keeps (λ d. inside d ≡ true) (inside c) c (done 0 (with_bank (signalled mask c.switches c.bank) c)) h h
keeps_inside op_send c h = guarded_keeps (λ d. inside d ≡ true) (inside c) c (send_now c) h (go (eqb c.queue.held 0) refl)
  where
    go : (n : Bool) → eqb c.queue.held 0 ≡ n → inside (cond n (replied NoWord c) (done (next_word (widths First) c.bank.shadows c.queue) (with_queue (advanced (widths First) c.queue) c))).chip ≡ true
    go true e = h
    go false e = inside_queued c (advanced (widths First) c.queue) h (advance_bounds (widths First) c.queue (eqb-false c.queue.held 0 e) (inside_queue_lem c h))
keeps_inside (op_fill room) c h =
    guarded_keeps (λ d. inside d ≡ true) (inside c) c (done _ (with_queue (send_queue (widths First) room c.queue) c)) h
    (inside_queued c (send_queue (widths First) room c.queue) h (send_bounds (widths First) room c.queue (inside_queue_lem c h)))

-- the lengths and widths
grow_below : (b : Bool) (v k : ℕ) → v < 256 ^ 4 → cond b (grown v k) v < 256 ^ 4
grow_below true v k h = omega arith
grow_below false v k h = h

clear_below : (b : Bool) (v : ℕ) → v < 256 ^ 4 → cond b 0 v < 256 ^ 4
clear_below true v h = omega arith
clear_below false v h = h

counting_in : (f : ℕ → Bool) (k : ℕ) (b : Bank) → within counter_widths b.values ≡ true → within counter_widths (counting f k b).values ≡ true
counting_in f k b e = each_within 4 16 (λ i v. cond (f i) (grown v k) v) 0 b.values (λ j v h. grow_below (f j) v k h) e

-- what a record's other bank or queue has to be for its lists to stay as they are
shaped_bank : (c : Chip) (b : Bank) → Shaped c → within counter_widths b.values ≡ true → within counter_widths b.shadows ≡ true → Shaped (with_bank b c)
shaped_bank c b s v w = record { places = s.places; sources = s.sources; values = v; shadows = w }

counting_shaped : (f : ℕ → Bool) (k : ℕ) (c : Chip) → Shaped c → Shaped (with_bank (counting f k c.bank) c)
counting_shaped f k c s = shaped_bank c (counting f k c.bank) s (counting_in f k c.bank s.values) s.shadows

shaped_queue : (c : Chip) (q : Queue) → Shaped c → length q.places ≡ 8 → Shaped (with_queue q c)
shaped_queue c q s e = record { places = e; sources = s.sources; values = s.values; shadows = s.shadows }

take_shaped : (r : Bool) (line bits : ℕ) (c : Chip) → Shaped c → Shaped (take_sample r line bits c)
take_shaped true line bits c s =
    record {
      places = push_places (sample_now true line bits c) c.queue s.places;
      sources = s.sources;
      values = s.values;
      shadows = s.values;
    }
take_shaped false line bits c s =
    record {
      places = push_places (sample_now false line bits c) c.queue s.places;
      sources = s.sources;
      values = s.values;
      shadows = s.shadows;
    }

write_shaped : (p : Place) (bits lines : ℕ) (c : Chip) → Shaped c → Shaped (write_at p bits lines c).chip
write_shaped p bits lines c s =
    write_keeps Shaped p bits lines c s (λ k. s) s s s
    (shaped_bank c (cleared (bits % 2 ^ 16) c.bank) s
    (each_within 4 16 (λ i v. cond (bit (bits % 2 ^ 16) i) 0 v) 0 c.bank.values (λ j v h. clear_below (bit (bits % 2 ^ 16) j) v h) s.values)
    s.shadows)
    (λ i. counting_shaped (λ j. eqb j i && due Software c.switches j) 1 c s)
    (λ i. record {
      places = s.places;
      sources = within_set 4 8 c.sources i (bits % 2 ^ 32) s.sources (omega arith);
      values = s.values;
      shadows = s.shadows;
    })
    (subst Shaped (sym (reset_record c)) fresh_shaped)
    (λ r. take_shaped r (line_of lines) bits c s)

pub keeps_shaped : (op : Operation) (c : Chip) → Shaped c → Shaped (step op c).chip
unfolding write read timestamp_ticks node_ticks external_events send send_into send_many
keeps_shaped (op_reset hundredth) c s = fresh_shaped
keeps_shaped (op_write a bits lines) c s =
    guarded_keeps Shaped (inside c) c (write_at (place_of a) bits lines c) s (write_shaped (place_of a) bits lines c s)
keeps_shaped (op_read a) c s =
    guarded_keeps Shaped (inside c) c (read_at (place_of a) c) s
    (read_keeps Shaped (place_of a) c s (λ k. s) (shaped_bank c (copied c.bank) s s.values s.values))
keeps_shaped (op_ticks k) c s =
    guarded_keeps Shaped (inside c) c (done 0 (after_ticks k c)) s (counting_shaped (due Slow c.switches) (slow_events k c.switches) c s)
keeps_shaped (op_nodes k) c s =
    guarded_keeps Shaped (inside c) c (done 0 (with_bank (ticked Node k c.switches c.bank) c)) s (counting_shaped (due Node c.switches) k c s)
keeps_shaped (op_events mask) c s =
    guarded_keeps Shaped (inside c) c (done 0 (with_bank (signalled mask c.switches c.bank) c)) s
    (counting_shaped (λ i. bit mask i && due External c.switches i) 1 c s)
keeps_shaped op_send c s =
    guarded_keeps Shaped (inside c) c (send_now c) s
    (either (λ t. Shaped t.chip) (eqb c.queue.held 0) (replied NoWord c) (done (next_word (widths First) c.bank.shadows c.queue) (with_queue (advanced (widths First) c.queue) c)) s
    (shaped_queue c (advanced (widths First) c.queue) s (advance_places (widths First) c.queue s.places)))
keeps_shaped (op_fill room) c s =
    guarded_keeps Shaped (inside c) c (done _ (with_queue (send_queue (widths First) room c.queue) c)) s
    (shaped_queue c (send_queue (widths First) room c.queue) s (send_places (widths First) room c.queue s.places))

-- so 15 is never replied on the way
pub never_15 : (op : Operation) (c : Chip) → inside c ≡ true → eqb (step op c).number 15 ≡ false
never_15 op c h = reply_15 op c ∙ ap (λ (b : Bool). checked op && not b) h ∙ and-false (checked op)

-- operations repeated keep the bounds
pub repeat_inside : (k : ℕ) (op : Operation) (c : Chip) → inside c ≡ true → inside (repeat k op c) ≡ true
unfolding repeat
repeat_inside zero op c h = h
repeat_inside (suc k) op c h = repeat_inside k op (step op c).chip (keeps_inside op c h)

-- and one that leaves the record leaves it every time
pub repeat_same : (k : ℕ) (op : Operation) (c : Chip) → (step op c).chip ≡ c → repeat k op c ≡ c
unfolding repeat
repeat_same zero op c e = refl
repeat_same (suc k) op c e = ap (repeat k op) e ∙ repeat_same k op c e
