-- What the shadows hold: a counter read with the shadows free copies all sixteen, and nothing but that, a Resource trigger and a reset writes
-- them. By the cases of operations and places. Assumes, where said, a record inside its bounds.
use Prim.Native.Nat.{ℕ, ◌-◌}
use native.Mathlib.Omega.{arith}
use mathlib.Core.Path.{◌≡◌, refl, sym, ap, ◌∙◌}
use mathlib.Core.Bool.{Bool, true, false, cond, ◌&&◌, ◌||◌, false≢true}
use lib.Dec.{eqb, leb}
use lib.ListN.{get_or}
use borrow.Author.Tests.{lt-leb, ne_eqb}
use Rattle.counters.specs.Bank.{copied}
use Rattle.control.specs.Control.{waited}
use Rattle.control.specs.declared.fate.Fate.{Fate}
use Rattle.control.specs.declared.fate.Fate.TheVariants.{Off as is_off, Filtered as is_filtered, Lost as is_lost, Wait as is_told, Taken as is_taken}
use Rattle.control.specs.declared.reply.Reply.TheVariants.{Busy, Outside, Wait}
use Rattle.chip.specs.Chip.{done, external_events, fate_of, inside, line_of, node_ticks, one_line, read, read_at, read_counter, replied, send, send_into, timestamp_ticks, trigger, trigger_by, with_bank, with_control, write, write_at}
use Rattle.chip.specs.Operation.{Operation, op_reset, op_write, op_read, op_ticks, op_nodes, op_events, op_send, op_fill, step}
use Rattle.chip.specs.Place.{between, place_of, register_of}
use Rattle.chip.specs.Rows.{copying, counter_at, resource_held}
use Rattle.chip.specs.Told.{Told}
use Rattle.chip.specs.declared.chip.Chip.{Chip}
use Rattle.chip.specs.declared.place.Place.{Place}
use Rattle.chip.specs.declared.place.Place.TheVariants.{Beyond, Nowhere, Reset, Csr, Timestamp, Filter, Waits, Overruns, Mux, Clear, Enable, Disable, Source, Counter, Trigger}
use Rattle.chip.proofs.AddressLaws.{place_counter, place_test}
use Rattle.chip.proofs.ChipLaws.{either, guard_in}
use Rattle.chip.proofs.RoomLaws.{rows_busy}

-- "A counter read with the shadows free copies all sixteen to the shadows and returns the chosen one": the whole answer and record
pub read_copies : (a : ℕ) (c : Chip) → inside c ≡ true → counter_at a ≡ true → resource_held c ≡ false → step (op_read a) c ≡ record { chip = with_bank (record { values = c.bank.values; shadows = c.bank.values }) c; number = 0; value = get_or c.bank.values (a - 32) 0 }
unfolding read read_at read_counter
read_copies a c h p free =
    sym (guard_in c (read_at (place_of a) c) h)
    ∙ ap (λ (x : Place). read_at x c) (place_counter a p)
    ∙ ap (λ (b : Bool). cond b (cond c.control.readwait (replied Wait (with_control (waited c.control) c)) (replied Busy c)) (done (get_or c.bank.values (a - 32) 0) (with_bank (copied c.bank) c))) (rows_busy c ∙ free)

-- ---- who writes the shadows

-- the same as `copying` of a place that is written, and of one that is read
abbrev copied_at : Bool → Bool → Place → Bool
copied_at w r Beyond = false
copied_at w r Nowhere = false
copied_at w r Reset = w
copied_at w r Csr = false
copied_at w r Timestamp = false
copied_at w r Filter = false
copied_at w r Waits = false
copied_at w r Overruns = false
copied_at w r Mux = false
copied_at w r Clear = false
copied_at w r Enable = false
copied_at w r Disable = false
copied_at w r (Source i) = false
copied_at w r (Counter i) = r
copied_at w r (Trigger resource level) = w && resource

write_at_lem : (a : ℕ) → copied_at true false (place_of a) ≡ (eqb a 0 || between 112 127 a)
unfolding place_of register_of
write_at_lem a =
    place_test (copied_at true false) (λ b. eqb b 0 || between 112 127 b) refl refl
    (λ b h. λ i. ne_eqb b 0 (λ e. omega arith) i || (lt-leb b 127 h i && leb 112 b)) a

read_at_lem : (a : ℕ) → copied_at false true (place_of a) ≡ counter_at a
unfolding place_of register_of
read_at_lem a = place_test (copied_at false true) counter_at refl refl (λ b h. λ i. lt-leb b 47 (omega arith) i && leb 32 b) a

-- what a record's shadows are after an answer
Keeps : Chip → Told → Type 0
Keeps c t = t.chip.bank.shadows ≡ c.bank.shadows

fate_keeps : (f : Fate) (line bits : ℕ) (c : Chip) → Keeps c (trigger_by f false line bits c)
unfolding trigger_by Keeps
fate_keeps is_off line bits c = refl
fate_keeps is_filtered line bits c = refl
fate_keeps is_lost line bits c = refl
fate_keeps is_told line bits c = refl
fate_keeps is_taken line bits c = refl

write_keeps : (p : Place) (bits lines : ℕ) (c : Chip) → copied_at true false p ≡ false → Keeps c (write_at p bits lines c)
unfolding write_at trigger Keeps
write_keeps Beyond bits lines c e = refl
write_keeps Nowhere bits lines c e = refl
write_keeps Reset bits lines c e = absurd (false≢true (sym e))
write_keeps Csr bits lines c e = refl
write_keeps Timestamp bits lines c e = refl
write_keeps Filter bits lines c e = refl
write_keeps Waits bits lines c e = refl
write_keeps Overruns bits lines c e = refl
write_keeps Mux bits lines c e = refl
write_keeps Clear bits lines c e = refl
write_keeps Enable bits lines c e = refl
write_keeps Disable bits lines c e = refl
write_keeps (Source i) bits lines c e = refl
write_keeps (Counter i) bits lines c e = refl
write_keeps (Trigger true level) bits lines c e = absurd (false≢true (sym e))
write_keeps (Trigger false level) bits lines c e =
    either (Keeps c) (one_line lines) _ _ (fate_keeps (fate_of false level c) (line_of lines) bits c) refl

read_keeps : (p : Place) (c : Chip) → copied_at false true p ≡ false → Keeps c (read_at p c)
unfolding read_at Keeps
read_keeps Beyond c e = refl
read_keeps Nowhere c e = refl
read_keeps Reset c e = refl
read_keeps Csr c e = refl
read_keeps Timestamp c e = refl
read_keeps Filter c e = refl
read_keeps Waits c e = refl
read_keeps Overruns c e = refl
read_keeps Mux c e = refl
read_keeps Clear c e = refl
read_keeps Enable c e = refl
read_keeps Disable c e = refl
read_keeps (Source i) c e = refl
read_keeps (Counter i) c e = absurd (false≢true (sym e))
read_keeps (Trigger resource level) c e = refl

guarded_keeps : (c : Chip) (t : Told) → Keeps c t → Keeps c (cond (inside c) t (replied Outside c))
unfolding Keeps
guarded_keeps c t k = either (Keeps c) (inside c) t _ k refl

-- every other operation leaves them as they were, on any record
pub shadows_stay : (op : Operation) (c : Chip) → copying op ≡ false → (step op c).chip.bank.shadows ≡ c.bank.shadows
unfolding write read timestamp_ticks node_ticks external_events send send_into Keeps
shadows_stay (op_reset hundredth) c e = absurd (false≢true (sym e))
shadows_stay (op_write a bits lines) c e = guarded_keeps c _ (write_keeps (place_of a) bits lines c (write_at_lem a ∙ e))
shadows_stay (op_read a) c e = guarded_keeps c _ (read_keeps (place_of a) c (read_at_lem a ∙ e))
shadows_stay (op_ticks k) c e = guarded_keeps c _ refl
shadows_stay (op_nodes k) c e = guarded_keeps c _ refl
shadows_stay (op_events mask) c e = guarded_keeps c _ refl
shadows_stay op_send c e = guarded_keeps c _ (either (Keeps c) (eqb c.queue.held 0) _ _ refl refl)
shadows_stay (op_fill room) c e = guarded_keeps c _ refl
