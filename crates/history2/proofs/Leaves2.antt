-- What an operation can leave of a ledger's settings, errors and stream: what is so of each of these is so of whatever the operation leaves, and after a list.
-- Said once for all properties P of these and of a yes or no that is followed beside them; all other parts of the ledger have nothing to show. By the ledger's
-- tests of addresses, settings and lines. Assumes nothing.
use Prim.Native.Nat.{ℕ, ◌/◌, ◌%◌, ◌^◌, ◌<◌}
use mathlib.Core.Path.{◌≡◌, refl, sym, ◌∙◌, subst, transport⁻¹}
use mathlib.Core.Bool.{Bool, true, false, cond, false≢true}
use mathlib.Core.List.{List, [], ◌∷◌}
use lib.Dec.{eqb, leb, ltb}
use borrow.Author.Tests.{eqb-true, ltb-true}
use Rattle.samples.specs.declared.sample.Sample.{Sample}
use Rattle.chip.proofs.ChipLaws.{either}
use Rattle.chip2.specs.Operation.{Operation, op_reset, op_write, op_read, op_ticks, op_nodes, op_events, op_send, op_fill}
use Rattle.history.specs.Ledger.{Errors, Fate, Settings, configured, filtering, line_in, lost_cleared, turned, waited_one, waits_cleared, was_filtered, was_lost, was_off, was_taken, was_told}
use Rattle.history.specs.Stream.{any_held}
use Rattle.history2.specs.Ledger2.{Entry, Ledger, after_fate, by_fate, by_range, data_in, entry_of, fate_in, held, ledger_from, read_in, read_low, reset_at, sent_more, tells, triggered, vacant, with_errors, with_settings, with_shadows, with_stream, written, written_low}
use Rattle.history2.specs.Walk2.{after_all, after_one}
use Rattle.history2.proofs.Steps2.{send_leaves}

-- two ledgers with the same settings, errors and stream
pub record Kin (l m : Ledger) : Type 0 where
  pub settings : m.settings ≡ l.settings
  pub narrow : m.narrow ≡ l.narrow
  pub errors : m.errors ≡ l.errors
  pub taken : m.taken ≡ l.taken
  pub sent : m.sent ≡ l.sent

-- what is so of these parts of the one is so of them of the other
pub kin : (P : Settings → Bool → Errors → List Sample → ℕ → Type 0) (l : Ledger) → P l.settings l.narrow l.errors l.taken l.sent → (m : Ledger) → Kin l m → P m.settings m.narrow m.errors m.taken m.sent
kin P l h m k = transport⁻¹ (λ i. P (k.settings i) (k.narrow i) (k.errors i) (k.taken i) (k.sent i)) h

-- a trigger's fate leaves the ledger, other errors, or one sample more
pub fate_leaves : (P : Ledger → Type 0) (l : Ledger) → P l → ((e : Errors) → P (with_errors e l)) → ((ss : List Sample) (sh : List ℕ) (e : Errors) → P (with_stream ss l.sent (with_shadows sh (with_errors e l)))) → (f : Fate) (resource : Bool) (line bits : ℕ) → P (after_fate f resource line bits l)
unfolding after_fate
fate_leaves P l h e s was_off resource line bits = h
fate_leaves P l h e s was_filtered resource line bits = h
fate_leaves P l h e s was_lost resource line bits = e _
fate_leaves P l h e s was_told resource line bits = e _
fate_leaves P l h e s was_taken resource line bits = s _ _ _

module _ (P : Ledger → Bool → Type 0) (l : Ledger) (b : Bool) (h : (m : Ledger) → Kin l m → P m b) where
  -- P of the ledger that an entry leaves, with the yes or no as it was
  abbrev Leaves : Entry → Type 0
  Leaves e = P e.ledger b

  -- what changes none of the parts
  other : {m : Ledger} → m.settings ≡ l.settings → m.narrow ≡ l.narrow → m.errors ≡ l.errors → m.taken ≡ l.taken → m.sent ≡ l.sent → P m b
  other {m} s w e t n = h m (record { settings = s; narrow = w; errors = e; taken = t; sent = n })

  -- what a test leaves, by what it says
  tested : (z : Bool) (x y : Entry) → (z ≡ true → Leaves x) → (z ≡ false → Leaves y) → Leaves (cond z x y)
  tested true x y p q = p refl
  tested false x y p q = q refl

  -- an address leaves the ledger, or what its range of the map does
  range_leaves : (a : ℕ) (trigger shadow counter source register : Entry) → (ltb 127 a ≡ false → leb 96 a ≡ true → Leaves trigger) → Leaves shadow → Leaves counter → Leaves source → Leaves register → Leaves (by_range a l trigger shadow counter source register)
  unfolding by_range
  range_leaves a t d c s r p x q o w =
      tested (ltb 127 a) _ _ (λ e. other refl refl refl refl refl)
      (λ within.
      either Leaves (vacant a) _ _ (other refl refl refl refl refl)
      (tested (leb 96 a) _ _ (p within) (λ e. either Leaves (leb 80 a) _ _ x (either Leaves (leb 64 a) _ _ q (either Leaves (leb 32 a) _ _ o w)))))

  -- a trigger leaves the ledger, or what its fate does where one line is active
  trigger_leaves : (resource : Bool) (level bits lines : ℕ) → (line_in lines < 8 → P (after_fate (fate_in resource level l) resource (line_in lines) bits l) b) → Leaves (triggered resource level bits lines l)
  unfolding triggered
  trigger_leaves resource level bits lines t = go (ltb (line_in lines) 8) refl
    where
      go : (z : Bool) → ltb (line_in lines) 8 ≡ z → Leaves (cond z (by_fate (fate_in resource level l) resource (line_in lines) bits l) (tells 4 0 l))
      go true e = t (ltb-true (line_in lines) 8 e)
      go false e = other refl refl refl refl refl

  -- a read leaves the parts, or one wait more
  pub read_leaves : (a : ℕ) → P (with_errors (waited_one l.errors) l) b → Leaves (read_in a l)
  unfolding read_in read_low
  read_leaves a w =
      range_leaves a _ _ _ _ _ (λ e d. (other refl refl refl refl refl)) (other refl refl refl refl refl) (either Leaves (any_held (held l)) _ _ (either Leaves l.settings.readwait _ _ w (other refl refl refl refl refl)) (other refl refl refl refl refl)) (other refl refl refl refl refl)
      (either Leaves (eqb a 0) _ _ (other refl refl refl refl refl)
      (either Leaves (eqb a 1) _ _ (other refl refl refl refl refl)
      (either Leaves (eqb a 2) _ _ (other refl refl refl refl refl)
      (either Leaves (eqb a 4) _ _ (other refl refl refl refl refl)
      (either Leaves (eqb a 5) _ _ (other refl refl refl refl refl)
      (either Leaves (eqb a 6) _ _ (other refl refl refl refl refl)
      (either Leaves (eqb a 7) _ _ (other refl refl refl refl refl)
      (either Leaves (eqb a 8) _ _ (other refl refl refl refl refl)
      (either Leaves (eqb a 10) _ _ (other refl refl refl refl refl) (other refl refl refl refl refl))))))))))

  -- with the yes or no as it was: no waits (w), no losses (o), another Filter (f) where that is written, what a trigger's fate leaves (t) where there is one
  pub other_leaves : (bits : ℕ) → P (with_errors (waits_cleared l.errors) l) b → P (with_errors (lost_cleared l.errors) l) b → (a lines : ℕ) → eqb a 0 ≡ false → eqb a 1 ≡ false → (eqb a 4 ≡ true → P (with_settings (filtering bits l.settings) l.narrow l) b) → (ltb 127 a ≡ false → leb 96 a ≡ true → line_in lines < 8 → P (after_fate (fate_in (leb 112 a) (a % 16) l) (leb 112 a) (line_in lines) bits l) b) → Leaves (written a bits lines l)
  unfolding written written_low
  other_leaves bits w o a lines n m f t =
      range_leaves a _ _ _ _ _ (λ e d. trigger_leaves (leb 112 a) (a % 16) bits lines (t e d)) (other refl refl refl refl refl) (other refl refl refl refl refl) (other refl refl refl refl refl)
      (tested (eqb a 0) _ _ (λ e. absurd (false≢true (sym n ∙ e)))
      (λ e.
      tested (eqb a 1) _ _ (λ d. absurd (false≢true (sym m ∙ d)))
      (λ d.
      either Leaves (eqb a 2) _ _ (other refl refl refl refl refl)
      (tested (eqb a 4) _ _ f
      (λ k.
      either Leaves (eqb a 5) _ _ w
      (either Leaves (eqb a 6) _ _ o
      (either Leaves (eqb a 7) _ _ (other refl refl refl refl refl)
      (either Leaves (eqb a 8) _ _ (other refl refl refl refl refl)
      (either Leaves (eqb a 10) _ _ (other refl refl refl refl refl) (other refl refl refl refl refl))))))))))

  module _ (bits : ℕ) (f : P (with_settings (filtering bits l.settings) l.narrow l) b) (w : P (with_errors (waits_cleared l.errors) l) b) (o : P (with_errors (lost_cleared l.errors) l) b) (t : (resource : Bool) (level line : ℕ) → line < 8 → P (after_fate (fate_in resource level l) resource line bits l) b) where
    -- a write by its address: at 0 what a reset leaves, at 1 other settings, and else one of these
    pub write_leaves : (zero one : Bool) → P (reset_at l.clock) zero → P (with_settings (configured bits l.settings) (turned (bits / 2 ^ 14 % 4) l.narrow) l) one → (a lines : ℕ) → P (written a bits lines l).ledger (cond (eqb a 0) zero (cond (eqb a 1) one b))
    unfolding written written_low by_range vacant
    write_leaves zero one n k a lines = go (eqb a 0) (eqb a 1) refl refl
      where
        go : (x y : Bool) → eqb a 0 ≡ x → eqb a 1 ≡ y → P (written a bits lines l).ledger (cond x zero (cond y one b))
        go true y e d = subst (λ (i : ℕ). P (written i bits lines l).ledger zero) (sym (eqb-true a 0 e)) n
        go false true e d = subst (λ (i : ℕ). P (written i bits lines l).ledger one) (sym (eqb-true a 1 d)) k
        go false false e d = other_leaves bits w o a lines e d (λ p. f) (λ x y. t (leb 112 a) (a % 16) (line_in lines))

  -- an operation: what a hardware reset and a write leave, or one wait more, or words sent
  pub one_leaves : (reset : Bool) (write : ℕ → ℕ → Bool → Bool) → P (reset_at 0) reset → ((a bits lines : ℕ) → P (written a (data_in bits l) lines l).ledger (write a bits b)) → P (with_errors (waited_one l.errors) l) b → ((room : ℕ) → P (sent_more room l) b) → (op : Operation) → P (entry_of op l).ledger (after_one reset write op b)
  unfolding entry_of after_one
  one_leaves reset write r v w n op_reset = r
  one_leaves reset write r v w n (op_write address bits lines) = v address bits lines
  one_leaves reset write r v w n (op_read address) = read_leaves address w
  one_leaves reset write r v w n (op_ticks k levels) = other refl refl refl refl refl
  one_leaves reset write r v w n (op_nodes k levels) = other refl refl refl refl refl
  one_leaves reset write r v w n (op_events mask) = other refl refl refl refl refl
  one_leaves reset write r v w n op_send = subst (λ (m : Ledger). P m b) (sym (send_leaves l)) (n 1)
  one_leaves reset write r v w n (op_fill room) = n room

-- and a list
pub all_leave : (P : Ledger → Bool → Type 0) (f : Operation → Bool → Bool) → ((op : Operation) (l : Ledger) (b : Bool) → P l b → P (entry_of op l).ledger (f op b)) → (ops : List Operation) (l : Ledger) (b : Bool) → P l b → P (ledger_from l ops) (after_all f b ops)
unfolding ledger_from after_all
all_leave P f one [] l b h = h
all_leave P f one (op ∷ ops) l b h = all_leave P f one ops _ _ (one op l b h)
