-- The table's columns "Value" and "Record" for every reply but 0: each arm of the definitions gives what its row says. Assumes nothing.
use Prim.Native.Nat.{ℕ, ◌^◌}
use mathlib.Core.Path.{◌≡◌, refl, sym, ap, subst, ◌∙◌}
use mathlib.Core.Bool.{Bool, true, false, cond, ◌&&◌, false≢true}
use lib.Dec.{leb, eqb}
use borrow.Author.Tests.{lt-leb, ne_eqb}
use Rattle.samples.specs.Layout.{widths}
use Rattle.samples.specs.declared.edition.Edition.TheVariants.{First}
use Rattle.queue.specs.Queue.{advanced, busy, full, next_word}
use Rattle.control.specs.Control.{overran, waited}
use Rattle.control.specs.declared.fate.Fate.{Fate}
use Rattle.control.specs.declared.fate.Fate.TheVariants.{Off as is_off, Filtered as is_filtered, Lost as is_lost, Wait as is_told, Taken as is_taken}
use Rattle.control.specs.declared.reply.Reply.TheVariants.{Lines, NoWord, Wait, Busy, Outside}
use Rattle.chip.specs.Chip.{after_ticks, blocked, done, external_events, fate_of, inside, line_of, node_ticks, one_line, read, read_at, read_counter, replied, send, send_into, send_now, timestamp_ticks, trigger, trigger_by, with_control, with_queue, write, write_at}
use Rattle.chip.specs.Operation.{Operation, op_reset, op_write, op_read, op_ticks, op_nodes, op_events, op_send, op_fill, step}
use Rattle.chip.specs.Place.{between, place_of, register_of}
use Rattle.chip.specs.Rows.{refused, resource_held, resource_trigger}
use Rattle.chip.specs.Told.{Told}
use Rattle.chip.specs.declared.chip.Chip.{Chip}
use Rattle.chip.specs.declared.place.Place.{Place}
use Rattle.chip.specs.declared.place.Place.TheVariants.{Beyond, Nowhere, Reset, Csr, Timestamp, Filter, Waits, Overruns, Mux, Clear, Enable, Disable, Source, Counter, Trigger}
use Rattle.chip.proofs.AddressLaws.{place_test}
use Rattle.chip.proofs.ChipLaws.{by_bounds}
use Rattle.chip.proofs.RoomLaws.{rows_busy}

-- what a row but 0 says of the value and of the next record, by its number; `r` is for a Resource trigger
abbrev pub value_at : ℕ → ℕ
value_at n = cond (eqb n 11) (2 ^ 63) 0

abbrev record_at : Bool → ℕ → Chip → Chip
record_at r n c =
    cond (eqb n 8) (with_control (overran (full c.queue) (blocked r c.queue) c.control) c)
    (cond (eqb n 10) (with_control (waited c.control) c) c)

abbrev pub Unless : Bool → Type 0 → Type 0
Unless true T = Unit
Unless false T = T

abbrev Kept : Bool → Chip → ℕ → ℕ → Chip → Type 0
Kept r c n v d = Unless (eqb n 0) ((v ≡ value_at n) × (d ≡ record_at r n c))

abbrev KeptBy : Bool → Chip → Told → Type 0
KeptBy r c a = Kept r c a.number a.value a.chip

kept_guard : (r b : Bool) (c : Chip) (a : Told) → KeptBy r c a → KeptBy r c (cond b a (replied Outside c))
kept_guard r b c a k = by_bounds (λ t x. KeptBy r c x) b c a k (refl, refl)

kept_trigger : (o r : Bool) (f : Fate) (line bits : ℕ) (c : Chip) → KeptBy r c (cond o (trigger_by f r line bits c) (replied Lines c))
unfolding trigger_by
kept_trigger false r f line bits c = (refl, refl)
kept_trigger true r is_off line bits c = (refl, refl)
kept_trigger true r is_filtered line bits c = (refl, refl)
kept_trigger true r is_lost line bits c = (refl, refl)
kept_trigger true r is_told line bits c = (refl, refl)
kept_trigger true r is_taken line bits c = tt

abbrev resource_at : Place → Bool
resource_at Beyond = false
resource_at Nowhere = false
resource_at Reset = false
resource_at Csr = false
resource_at Timestamp = false
resource_at Filter = false
resource_at Waits = false
resource_at Overruns = false
resource_at Mux = false
resource_at Clear = false
resource_at Enable = false
resource_at Disable = false
resource_at (Source i) = false
resource_at (Counter i) = false
resource_at (Trigger r level) = r

kept_write : (p : Place) (bits lines : ℕ) (c : Chip) → KeptBy (resource_at p) c (write_at p bits lines c)
unfolding write_at trigger
kept_write Beyond bits lines c = (refl, refl)
kept_write Nowhere bits lines c = (refl, refl)
kept_write Reset bits lines c = tt
kept_write Csr bits lines c = tt
kept_write Timestamp bits lines c = (refl, refl)
kept_write Filter bits lines c = tt
kept_write Waits bits lines c = tt
kept_write Overruns bits lines c = tt
kept_write Mux bits lines c = tt
kept_write Clear bits lines c = tt
kept_write Enable bits lines c = tt
kept_write Disable bits lines c = tt
kept_write (Source i) bits lines c = tt
kept_write (Counter i) bits lines c = tt
kept_write (Trigger r level) bits lines c = kept_trigger (one_line lines) r (fate_of r level c) (line_of lines) bits c

kept_count : (r b w : Bool) (c d : Chip) (v : ℕ) → KeptBy r c (cond b (cond w (replied Wait (with_control (waited c.control) c)) (replied Busy c)) (done v d))
kept_count r true true c d v = (refl, refl)
kept_count r true false c d v = (refl, refl)
kept_count r false w c d v = tt

kept_read : (r : Bool) (p : Place) (c : Chip) → KeptBy r c (read_at p c)
unfolding read_at read_counter
kept_read r Beyond c = (refl, refl)
kept_read r Nowhere c = (refl, refl)
kept_read r Reset c = (refl, refl)
kept_read r Csr c = tt
kept_read r Timestamp c = tt
kept_read r Filter c = tt
kept_read r Waits c = tt
kept_read r Overruns c = tt
kept_read r Mux c = tt
kept_read r Clear c = (refl, refl)
kept_read r Enable c = tt
kept_read r Disable c = (refl, refl)
kept_read r (Source i) c = tt
kept_read r (Counter i) c = kept_count r (busy c.queue) c.control.readwait c _ _
kept_read r (Trigger k level) c = (refl, refl)

-- a Resource trigger's addresses
resource_at_lem : (a : ℕ) → resource_at (place_of a) ≡ between 112 127 a
unfolding place_of register_of
resource_at_lem a =
    place_test resource_at (between 112 127) refl refl (λ b h. ap (λ (t : Bool). t && leb 112 b) (lt-leb b 127 h)) a

-- every operation
kept : (op : Operation) (c : Chip) → KeptBy (resource_trigger op) c (step op c)
unfolding write read timestamp_ticks node_ticks external_events send send_into
kept (op_reset hundredth) c = tt
kept (op_write a bits lines) c =
    kept_guard (between 112 127 a) (inside c) c (write_at (place_of a) bits lines c)
    (subst (λ (r : Bool). KeptBy r c (write_at (place_of a) bits lines c)) (resource_at_lem a) (kept_write (place_of a) bits lines c))
kept (op_read a) c = kept_guard false (inside c) c (read_at (place_of a) c) (kept_read false (place_of a) c)
kept (op_ticks k) c = kept_guard false (inside c) c (done 0 (after_ticks k c)) tt
kept (op_nodes k) c = kept_guard false (inside c) c (done 0 _) tt
kept (op_events mask) c = kept_guard false (inside c) c (done 0 _) tt
kept op_send c = kept_guard false (inside c) c (send_now c) (go (eqb c.queue.held 0))
  where
    go : (n : Bool) → KeptBy false c (cond n (replied NoWord c) (done (next_word (widths First) c.bank.shadows c.queue) (with_queue (advanced (widths First) c.queue) c)))
    go true = (refl, refl)
    go false = tt
kept (op_fill room) c = kept_guard false (inside c) c (done _ _) tt

-- ---- the columns

-- a number that is a refusal is none that isn't
pub refused_not : (n m : ℕ) → refused n ≡ true → refused m ≡ false → eqb n m ≡ false
refused_not n m e p = ne_eqb n m (λ q. false≢true (sym p ∙ ap refused (sym q) ∙ e))

kept_refused : (r : Bool) (c : Chip) (n v : ℕ) (d : Chip) → refused n ≡ true → Kept r c n v d → (v ≡ 0) × (d ≡ c)
kept_refused r c n v d e k =
    simp (refused_not n 0 e refl, refused_not n 8 e refl, refused_not n 10 e refl, refused_not n 11 e refl) at k

module _ (op : Operation) (c : Chip) where
  kept_as : (n : ℕ) → (step op c).number ≡ n → Kept (resource_trigger op) c n (step op c).value (step op c).chip
  kept_as n e = subst (λ (m : ℕ). Kept (resource_trigger op) c m (step op c).value (step op c).chip) e (kept op c)

  -- 1 to 5 and 15: value "0", record "same"
  pub refusals : refused (step op c).number ≡ true → ((step op c).value ≡ 0) × ((step op c).chip ≡ c)
  refusals e = kept_refused (resource_trigger op) c (step op c).number (step op c).value (step op c).chip e (kept op c)

  -- 6 and 7: value "0", record "same"
  pub when_off : (step op c).number ≡ 6 → ((step op c).value ≡ 0) × ((step op c).chip ≡ c)
  when_off e = kept_as 6 e

  pub when_filtered : (step op c).number ≡ 7 → ((step op c).value ≡ 0) × ((step op c).chip ≡ c)
  when_filtered e = kept_as 7 e

  -- 8: value "0", record "overrun rules"
  pub when_lost : (step op c).number ≡ 8 → ((step op c).value ≡ 0) × ((step op c).chip ≡ with_control (overran (leb 8 c.queue.held) (resource_trigger op && resource_held c) c.control) c)
  when_lost e =
      let k = kept_as 8 e in
      (k.0, k.1 ∙ ap (λ (b : Bool). with_control (overran (leb 8 c.queue.held) (resource_trigger op && b) c.control) c) (rows_busy c))

  -- 10: value "0", record "Wait Counter + 1"
  pub when_waiting : (step op c).number ≡ 10 → ((step op c).value ≡ 0) × ((step op c).chip ≡ with_control (waited c.control) c)
  when_waiting e = kept_as 10 e

  -- 11: value "2^63", record "same"
  pub when_busy : (step op c).number ≡ 11 → ((step op c).value ≡ 2 ^ 63) × ((step op c).chip ≡ c)
  when_busy e = kept_as 11 e
