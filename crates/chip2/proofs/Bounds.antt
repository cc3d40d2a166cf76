-- A fresh MultiKron II is inside the bounds and has the lengths and widths of its types, and every operation keeps both: few touch the queue, the
-- phase, the Timestamp, a list or a register, and those have laws of their own; what a read gives has 64 bits, so that its upper half fits the High
-- Order register. So no chain of operations from a fresh chip meets reply 15. Assumes nothing.
use Prim.Native.Nat.{ℕ, zero, suc, ◌/◌, ◌%◌, ◌^◌, ◌≤◌, ◌<◌}
use native.Mathlib.Nat.{mod-lt}
use native.Mathlib.Omega.{arith}
use mathlib.Core.Path.{◌≡◌, refl, ap, ◌∙◌}
use mathlib.Core.Bool.{Bool, true, false, cond, not, ◌&&◌, and-false}
use lib.Dec.{eqb}
use lib.ListN.{get_or, length, set}
use lib.Pow.{pow_mono}
use borrow.Author.Tests.{eqb-false}
use Rattle.samples.specs.Layout.{counter_widths, widths}
use Rattle.samples.specs.declared.edition.Edition.TheVariants.{Second}
use Rattle.samples.specs.Write.{within}
use Rattle.counters.specs.Bank.{copied, grown}
use Rattle.counters.specs.declared.bank.Bank.{Bank}
use Rattle.counters2.specs.Clocks.{node_clocks, stamp_clocks}
use Rattle.counters2.specs.Codes.{restarts}
use Rattle.counters2.specs.Counts.{counted, fired, loaded, own_signals, own_software, own_ticks, reaching, restarted, signalled}
use Rattle.counters2.specs.Fields.{clocking, enabling, field_at, moding}
use Rattle.counters2.specs.declared.fields.Fields.{Fields}
use Rattle.counters2.proofs.ClockLaws.{phase_below}
use Rattle.counters2.proofs.FieldLaws.{written_below}
use Rattle.queue.specs.Queue.{advanced, busy, full, inside_queue, next_word, pushed, send_many, send_queue}
use Rattle.queue.specs.declared.queue.Held.{Held}
use Rattle.queue.specs.declared.queue.Queue.{Queue}
use Rattle.queue.proofs.BoundLaws.{advance_bounds, advance_places, push_bounds, push_places, send_bounds, send_places}
use Rattle.control.specs.Control.{taken, waited}
use Rattle.control.specs.declared.fate.Fate.{Fate}
use Rattle.control.specs.declared.fate.Fate.TheVariants.{Off as is_off, Filtered as is_filtered, Lost as is_lost, Wait as is_told, Taken as is_taken}
use Rattle.control.specs.declared.control.Control.{Control}
use Rattle.control.specs.declared.reply.Reply.TheVariants.{Lines, NoWord, Wait, Busy, Outside}
use Rattle.control.proofs.StatusLaws.{csr_below, one_most}
use Rattle.chip.specs.Chip.{line_of, one_line}
use Rattle.chip.proofs.ChipLaws.{either}
use Rattle.chip.proofs.WidthLaws.{each_within, within_at, within_set}
use Rattle.chip2.specs.Chip2.{after_nodes, after_ticks, configured_all, data_of, done, enabled_all, external_events, fate_of, fresh, given, inside, node_ticks, ones_above, read, read_at, read_counter, replied, sample_now, send, send_into, send_now, soft_reset, status_of, take_sample, timestamp_ticks, trigger, trigger_by, with_bank, with_control, with_fields, with_high, with_queue, with_sources, write, write_at}
use Rattle.chip2.specs.Operation.{Operation, op_reset, op_write, op_read, op_ticks, op_nodes, op_events, op_send, op_fill, step}
use Rattle.chip2.specs.Place.{place_of}
use Rattle.chip2.specs.Repeat.{repeat}
use Rattle.chip2.specs.Rows.{checked}
use Rattle.chip2.specs.Shape.{Fits, Shaped}
use Rattle.chip2.specs.Told.{Told}
use Rattle.chip2.specs.declared.chip2.Chip2.{Chip2}
use Rattle.chip2.specs.declared.place.Place.{Place}
use Rattle.chip2.specs.declared.place.Place.TheVariants.{Beyond, Nowhere, Reset, Csr, Timestamp, Filter, Waits, Overruns, HighOrder, Enable, Mode, Select, Source, Counter, Shadow, Trigger}
use Rattle.chip2.proofs.ChipLaws.{by_bounds, inside_by, inside_phase, inside_queue_lem, inside_stamp}
use Rattle.chip2.proofs.Replies.{reply_15}
use Rattle.chip2.proofs.Resets.{reset_inside}

-- ---- the bounds of a record with another part

-- another queue inside its bounds
inside_queued : (c : Chip2) (q : Queue) → inside c ≡ true → inside_queue (widths Second) q ≡ true → inside (with_queue q c) ≡ true
inside_queued c q h k = inside_by (with_queue q c) k (inside_phase c h) (inside_stamp c h)

-- a sample taken
take_inside : (r : Bool) (line bits : ℕ) (c : Chip2) → inside c ≡ true → inside (take_sample r line bits c) ≡ true
take_inside r line bits c h =
    let sample : Held = sample_now r line bits c in
    inside_queued c (pushed sample c.queue) h (push_bounds (widths Second) sample c.queue (inside_queue_lem c h))

-- ---- "a fresh chip is inside them"

pub fresh_inside : inside fresh ≡ true
fresh_inside = refl

pub fresh_shaped : Shaped fresh
unfolding within
fresh_shaped =
    record {
      places = refl;
      sources = refl;
      values = refl;
      shadows = refl;
      control = record { filter = omega arith; wait = omega arith; overrun = omega arith };
      enable = omega arith;
      mode = omega arith;
      select = omega arith;
      high = omega arith;
    }

-- ---- "and every operation keeps them"

-- a statement on the next record
pub guarded_keeps : (P : Chip2 → Type 0) (b : Bool) (c : Chip2) (a : Told) → P c → P a.chip → P (cond b a (replied Outside c)).chip
guarded_keeps P b c a p q = by_bounds (λ t x. P x.chip) b c a q p

-- a number of 32 bits that grew has 32 bits
grown_below : (v k : ℕ) → grown v k < 2 ^ 32
grown_below v k = omega arith

-- a trigger keeps what a lost one, one told to wait and a taken one keep; the other control has the widths that the control has
pub trigger_keeps : (P : Chip2 → Type 0) (r o : Bool) (f : Fate) (line bits : ℕ) (c : Chip2) → P c → ((k : Control) → (Fits c.control → Fits k) → P (with_control k c)) → P (take_sample r line bits c) → P (cond o (trigger_by f r line bits c) (replied Lines c)).chip
unfolding trigger_by
trigger_keeps P r false f line bits c p k t = p
trigger_keeps P r true is_off line bits c p k t = p
trigger_keeps P r true is_filtered line bits c p k t = p
trigger_keeps P r true is_lost line bits c p k t =
    k _ (λ w. record { filter = w.filter; wait = w.wait; overrun = grown_below c.control.overrun 1 })
trigger_keeps P r true is_told line bits c p k t =
    k _ (λ w. record { filter = w.filter; wait = grown_below c.control.wait 1; overrun = w.overrun })
trigger_keeps P r true is_taken line bits c p k t = t

-- what a register reads as has 64 bits
ones_below : (bits v : ℕ) → bits ≤ 64 → v < 2 ^ bits → ones_above bits v < 2 ^ 64
ones_below bits v few h = omega (arith, pow_mono {i = bits} {j = 64} few)

status_below : (c : Chip2) → status_of c < 2 ^ 64
status_below c = omega (arith, csr_below (full c.queue) (busy c.queue) c.control, one_most c.narrow, one_most (not c.narrow))

-- a read keeps what a record with another Wait Counter (k) keeps, one with the upper half of a value of 64 bits in the High Order register (n), and
-- one that has a copy in the shadows too (s)
pub read_keeps : (P : Chip2 → Type 0) (p : Place) (c : Chip2) → P c → ((k : Control) → (Fits c.control → Fits k) → P (with_control k c)) → ((v : ℕ) → (Shaped c → c.stamp < 2 ^ 56 → v < 2 ^ 64) → P (with_high (v / 2 ^ 32) c)) → ((v : ℕ) → (Shaped c → v < 2 ^ 64) → P (with_high (v / 2 ^ 32) (with_bank (copied c.bank) c))) → P (read_at p c).chip
unfolding read_at read_counter
read_keeps P Beyond c h k n s = h
read_keeps P Nowhere c h k n s = h
read_keeps P Reset c h k n s = h
read_keeps P Csr c h k n s = n _ (λ w t. status_below c)
read_keeps P Timestamp c h k n s = n _ (λ w t. ones_below 56 c.stamp (omega arith) t)
read_keeps P Filter c h k n s = n _ (λ w t. ones_below 16 c.control.filter (omega arith) w.control.filter)
read_keeps P Waits c h k n s = n _ (λ w t. ones_below 32 c.control.wait (omega arith) w.control.wait)
read_keeps P Overruns c h k n s = n _ (λ w t. ones_below 32 c.control.overrun (omega arith) w.control.overrun)
read_keeps P HighOrder c h k n s = h
read_keeps P Enable c h k n s = n _ (λ w t. w.enable)
read_keeps P Mode c h k n s = n _ (λ w t. w.mode)
read_keeps P Select c h k n s = n _ (λ w t. w.select)
read_keeps P (Source i) c h k n s = n _ (λ w t. ones_below 32 (get_or c.sources i 0) (omega arith) (within_at 4 8 c.sources w.sources i))
read_keeps P (Counter i) c h k n s = go (busy c.queue) c.control.readwait
  where
    value : ℕ
    value = get_or c.bank.values i 0

    go : (b w : Bool) → P (cond b (cond w (replied Wait (with_control (waited c.control) c)) (replied Busy c)) (given (ones_above 32 value) (with_bank (copied c.bank) c))).chip
    go true true = k _ (λ w. record { filter = w.filter; wait = grown_below c.control.wait 1; overrun = w.overrun })
    go true false = h
    go false w = s _ (λ x. ones_below 32 value (omega arith) (within_at 4 16 c.bank.values x.values i))
read_keeps P (Shadow i) c h k n s = n _ (λ w t. ones_below 32 (get_or c.bank.shadows i 0) (omega arith) (within_at 4 16 c.bank.shadows w.shadows i))
read_keeps P (Trigger r level) c h k n s = h

-- a write keeps what each record keeps that a write can leave: the same (h), another control (k), settings with the bus's mode (g), High Order
-- register (o), Enable with the counters that it resets (e), Mode (m), Clock Select (l), a counter written (w), a software event (f), a Source
-- Address (s), a software reset's (n), a sample more (t)
pub write_keeps : (P : Chip2 → Type 0) (p : Place) (bits lines : ℕ) (c : Chip2) → P c → ((k : Control) → (Fits c.control → Fits k) → P (with_control k c)) → P (configured_all bits c) → P (with_high (bits % 2 ^ 32) c) → P (enabled_all bits c) → P (with_fields (moding bits c.fields) c) → P (with_fields (clocking bits c.fields) c) → ((i : ℕ) → P (with_bank (loaded i (bits % 2 ^ 32) c.bank) c)) → ((i : ℕ) → P (with_bank (fired c.fields i c.bank) c)) → ((i : ℕ) → P (with_sources (set c.sources i (bits % 2 ^ 32)) c)) → P (soft_reset c) → ((r : Bool) → P (take_sample r (line_of lines) bits c)) → P (write_at p bits lines c).chip
unfolding write_at trigger
write_keeps P Beyond bits lines c h k g o e m l w f s n t = h
write_keeps P Nowhere bits lines c h k g o e m l w f s n t = h
write_keeps P Reset bits lines c h k g o e m l w f s n t = n
write_keeps P Csr bits lines c h k g o e m l w f s n t = g
write_keeps P Timestamp bits lines c h k g o e m l w f s n t = h
write_keeps P Filter bits lines c h k g o e m l w f s n t =
    k _ (λ x. record { filter = mod-lt bits (omega arith); wait = x.wait; overrun = x.overrun })
write_keeps P Waits bits lines c h k g o e m l w f s n t = k _ (λ x. record { filter = x.filter; wait = omega arith; overrun = x.overrun })
write_keeps P Overruns bits lines c h k g o e m l w f s n t = k _ (λ x. record { filter = x.filter; wait = x.wait; overrun = omega arith })
write_keeps P HighOrder bits lines c h k g o e m l w f s n t = o
write_keeps P Enable bits lines c h k g o e m l w f s n t = e
write_keeps P Mode bits lines c h k g o e m l w f s n t = m
write_keeps P Select bits lines c h k g o e m l w f s n t = l
write_keeps P (Source i) bits lines c h k g o e m l w f s n t = s i
write_keeps P (Counter i) bits lines c h k g o e m l w f s n t = w i
write_keeps P (Shadow i) bits lines c h k g o e m l w f s n t = f i
write_keeps P (Trigger r level) bits lines c h k g o e m l w f s n t =
    trigger_keeps P r (one_line lines) (fate_of r level c) (line_of lines) bits c h k (t r)

-- the bounds
write_inside : (p : Place) (bits lines : ℕ) (c : Chip2) → inside c ≡ true → inside (write_at p bits lines c).chip ≡ true
write_inside p bits lines c h =
    write_keeps (λ d. inside d ≡ true) p bits lines c h (λ k w. h) h h h h h (λ i. h) (λ i. h) (λ i. h) (reset_inside c.stamp (inside_stamp c h))
    (λ r. take_inside r (line_of lines) bits c h)

pub keeps_inside : (op : Operation) (c : Chip2) → inside c ≡ true → inside (step op c).chip ≡ true
unfolding write read timestamp_ticks node_ticks external_events send send_into send_many
keeps_inside op_reset c h = fresh_inside
keeps_inside (op_write a bits lines) c h =
    guarded_keeps (λ d. inside d ≡ true) (inside c) c (write_at (place_of a) (data_of bits c) lines c) h (write_inside (place_of a) (data_of bits c) lines c h)
keeps_inside (op_read a) c h =
    guarded_keeps (λ d. inside d ≡ true) (inside c) c (read_at (place_of a) c) h
    (read_keeps (λ d. inside d ≡ true) (place_of a) c h (λ k w. h) (λ v w. h) (λ v w. h))
keeps_inside (op_ticks k levels) c h =
    guarded_keeps (λ d. inside d ≡ true) (inside c) c (done 0 (after_ticks k levels c)) h
    (inside_by (after_ticks k levels c) (inside_queue_lem c h) (inside_phase c h) (omega arith))
keeps_inside (op_nodes k levels) c h =
    guarded_keeps (λ d. inside d ≡ true) (inside c) c (done 0 (after_nodes k levels c)) h
    (inside_by (after_nodes k levels c) (inside_queue_lem c h) (phase_below c.phase k) (inside_stamp c h))
keeps_inside (op_events mask) c h = guarded_keeps (λ d. inside d ≡ true) (inside c) c (done 0 (with_bank (signalled c.fields mask c.bank) c)) h h
keeps_inside op_send c h = guarded_keeps (λ d. inside d ≡ true) (inside c) c (send_now c) h (go (eqb c.queue.held 0) refl)
  where
    go : (n : Bool) → eqb c.queue.held 0 ≡ n → inside (cond n (replied NoWord c) (done (next_word (widths Second) c.bank.shadows c.queue) (with_queue (advanced (widths Second) c.queue) c))).chip ≡ true
    go true e = h
    go false e = inside_queued c (advanced (widths Second) c.queue) h (advance_bounds (widths Second) c.queue (eqb-false c.queue.held 0 e) (inside_queue_lem c h))
keeps_inside (op_fill room) c h =
    guarded_keeps (λ d. inside d ≡ true) (inside c) c (done _ (with_queue (send_queue (widths Second) room c.queue) c)) h
    (inside_queued c (send_queue (widths Second) room c.queue) h (send_bounds (widths Second) room c.queue (inside_queue_lem c h)))

-- ---- the lengths and widths

-- of a record with another part
shaped_queue : (c : Chip2) (q : Queue) → Shaped c → length q.places ≡ 8 → Shaped (with_queue q c)
shaped_queue c q s e = record { places = e; sources = s.sources; values = s.values; shadows = s.shadows; control = s.control; enable = s.enable; mode = s.mode; select = s.select; high = s.high }

shaped_bank : (c : Chip2) (b : Bank) → Shaped c → within counter_widths b.values ≡ true → within counter_widths b.shadows ≡ true → Shaped (with_bank b c)
shaped_bank c b s v w = record { places = s.places; sources = s.sources; values = v; shadows = w; control = s.control; enable = s.enable; mode = s.mode; select = s.select; high = s.high }

shaped_control : (c : Chip2) (k : Control) → Shaped c → Fits k → Shaped (with_control k c)
shaped_control c k s w = record { places = s.places; sources = s.sources; values = s.values; shadows = s.shadows; control = w; enable = s.enable; mode = s.mode; select = s.select; high = s.high }

shaped_fields : (c : Chip2) (f : Fields) → Shaped c → f.enable < 2 ^ 64 → f.mode < 2 ^ 64 → f.select < 2 ^ 64 → Shaped (with_fields f c)
shaped_fields c f s e m l = record { places = s.places; sources = s.sources; values = s.values; shadows = s.shadows; control = s.control; enable = e; mode = m; select = l; high = s.high }

shaped_high : (c : Chip2) (n : ℕ) → Shaped c → n < 2 ^ 32 → Shaped (with_high n c)
shaped_high c n s h = record { places = s.places; sources = s.sources; values = s.values; shadows = s.shadows; control = s.control; enable = s.enable; mode = s.mode; select = s.select; high = h }

shaped_sources : (c : Chip2) (i v : ℕ) → Shaped c → v < 2 ^ 32 → Shaped (with_sources (set c.sources i v) c)
shaped_sources c i v s h = record { places = s.places; sources = within_set 4 8 c.sources i v s.sources h; values = s.values; shadows = s.shadows; control = s.control; enable = s.enable; mode = s.mode; select = s.select; high = s.high }

-- of events, of an enabling that resets, of a sample taken
counted_shaped : (mode : ℕ) (own : ℕ → ℕ) (c : Chip2) → Shaped c → Shaped (with_bank (counted mode own c.bank) c)
counted_shaped mode own c s =
    shaped_bank c (counted mode own c.bank) s
    (each_within 4 16 (λ i v. grown v (reaching mode own c.bank.values i)) 0 c.bank.values (λ j v h. grown_below v (reaching mode own c.bank.values j)) s.values)
    s.shadows

restarted_shaped : (bits : ℕ) (c : Chip2) → Shaped c → Shaped (with_bank (restarted bits c.bank) c)
restarted_shaped bits c s =
    shaped_bank c (restarted bits c.bank) s
    (each_within 4 16 (λ i v. cond (restarts (field_at bits i % 4)) 0 v) 0 c.bank.values (λ j v h. either (λ n. n < 256 ^ 4) (restarts (field_at bits j % 4)) 0 v (omega arith) h) s.values)
    s.shadows

take_shaped : (r : Bool) (line bits : ℕ) (c : Chip2) → Shaped c → Shaped (take_sample r line bits c)
take_shaped r line bits c s =
    let k : Chip2 = with_control (taken c.control) c in
    let b : Bank = cond r (copied c.bank) c.bank in
    shaped_queue (with_bank b k) (pushed (sample_now r line bits c) c.queue)
    (shaped_bank k b (shaped_control c (taken c.control) s s.control)
    (either (λ x. within counter_widths x.values ≡ true) r (copied c.bank) c.bank s.values s.values)
    (either (λ x. within counter_widths x.shadows ≡ true) r (copied c.bank) c.bank s.values s.shadows))
    (push_places (sample_now r line bits c) c.queue s.places)

write_shaped : (p : Place) (bits lines : ℕ) (c : Chip2) → Shaped c → Shaped (write_at p bits lines c).chip
write_shaped p bits lines c s =
    write_keeps Shaped p bits lines c s (λ k w. shaped_control c k s (w s.control)) s (shaped_high c (bits % 2 ^ 32) s (omega arith))
    (shaped_fields (with_bank (restarted bits c.bank) c) (enabling bits c.fields) (restarted_shaped bits c s) (written_below 4 16 c.fields.enable bits) s.mode s.select)
    (shaped_fields c (moding bits c.fields) s s.enable (written_below 8 16 c.fields.mode bits) s.select)
    (shaped_fields c (clocking bits c.fields) s s.enable s.mode (written_below 8 16 c.fields.select bits))
    (λ i. shaped_bank c (loaded i (bits % 2 ^ 32) c.bank) s (within_set 4 16 c.bank.values i (bits % 2 ^ 32) s.values (omega arith)) s.shadows)
    (λ i. counted_shaped c.fields.mode (own_software c.fields i) c s)
    (λ i. shaped_sources c i (bits % 2 ^ 32) s (omega arith))
    fresh_shaped
    (λ r. take_shaped r (line_of lines) bits c s)

read_shaped : (p : Place) (c : Chip2) → inside c ≡ true → Shaped c → Shaped (read_at p c).chip
read_shaped p c h s =
    let b : Chip2 = with_bank (copied c.bank) c in
    read_keeps Shaped p c s (λ k w. shaped_control c k s (w s.control)) (λ v w. shaped_high c (v / 2 ^ 32) s (omega (arith, w s (inside_stamp c h))))
    (λ v w. shaped_high b (v / 2 ^ 32) (shaped_bank c (copied c.bank) s s.values s.values) (omega (arith, w s)))

pub keeps_shaped : (op : Operation) (c : Chip2) → Shaped c → Shaped (step op c).chip
unfolding write read timestamp_ticks node_ticks external_events send send_into send_many
keeps_shaped op_reset c s = fresh_shaped
keeps_shaped (op_write a bits lines) c s =
    guarded_keeps Shaped (inside c) c (write_at (place_of a) (data_of bits c) lines c) s (write_shaped (place_of a) (data_of bits c) lines c s)
keeps_shaped (op_read a) c s = go (inside c) refl
  where
    go : (b : Bool) → inside c ≡ b → Shaped (cond b (read_at (place_of a) c) (replied Outside c)).chip
    go true h = read_shaped (place_of a) c h s
    go false h = s
keeps_shaped (op_ticks k levels) c s =
    guarded_keeps Shaped (inside c) c (done 0 (after_ticks k levels c)) s (counted_shaped c.fields.mode (own_ticks c.fields levels (stamp_clocks k)) c s)
keeps_shaped (op_nodes k levels) c s =
    guarded_keeps Shaped (inside c) c (done 0 (after_nodes k levels c)) s (counted_shaped c.fields.mode (own_ticks c.fields levels (node_clocks c.phase k)) c s)
keeps_shaped (op_events mask) c s =
    guarded_keeps Shaped (inside c) c (done 0 (with_bank (signalled c.fields mask c.bank) c)) s (counted_shaped c.fields.mode (own_signals c.fields mask) c s)
keeps_shaped op_send c s =
    guarded_keeps Shaped (inside c) c (send_now c) s
    (either (λ t. Shaped t.chip) (eqb c.queue.held 0) (replied NoWord c) (done (next_word (widths Second) c.bank.shadows c.queue) (with_queue (advanced (widths Second) c.queue) c)) s
    (shaped_queue c (advanced (widths Second) c.queue) s (advance_places (widths Second) c.queue s.places)))
keeps_shaped (op_fill room) c s =
    guarded_keeps Shaped (inside c) c (done _ (with_queue (send_queue (widths Second) room c.queue) c)) s
    (shaped_queue c (send_queue (widths Second) room c.queue) s (send_places (widths Second) room c.queue s.places))

-- so 15 is never replied on the way
pub never_15 : (op : Operation) (c : Chip2) → inside c ≡ true → eqb (step op c).number 15 ≡ false
never_15 op c h = reply_15 op c ∙ ap (λ (b : Bool). checked op && not b) h ∙ and-false (checked op)

-- operations repeated keep the bounds
pub repeat_inside : (k : ℕ) (op : Operation) (c : Chip2) → inside c ≡ true → inside (repeat k op c) ≡ true
unfolding repeat
repeat_inside zero op c h = h
repeat_inside (suc k) op c h = repeat_inside k op (step op c).chip (keeps_inside op c h)

-- and one that leaves the record leaves it every time
pub repeat_same : (k : ℕ) (op : Operation) (c : Chip2) → (step op c).chip ≡ c → repeat k op c ≡ c
unfolding repeat
repeat_same zero op c e = refl
repeat_same (suc k) op c e = ap (repeat k op) e ∙ repeat_same k op c e
