-- The settings after a list: the slow clock's choice, sampling, write wait and read wait are what a walk over the list says of them, and where it
-- says that discard was not asked for, nothing is lost. By what each operation leaves of the ledger. Assumes nothing.
use Prim.Native.Nat.{ℕ, ◌+◌, ◌/◌, ◌%◌, ◌^◌, ◌<◌}
use native.Mathlib.Omega.{arith}
use mathlib.Core.Path.{◌≡◌, refl, sym, ap, ◌∙◌, subst}
use mathlib.Core.Bool.{Bool, true, false, cond, ◌||◌}
use mathlib.Core.List.{List, [], ◌∷◌, ◌++◌}
use lib.Dec.{eqb}
use borrow.Author.Tests.{eqb-true}
use Rattle.samples.specs.declared.sample.Sample.{Sample}
use Rattle.chip.specs.Operation.{Operation, op_reset, op_write, op_read, op_ticks, op_nodes, op_events, op_send, op_fill}
use Rattle.chip.proofs.ChipLaws.{either}
use Rattle.history.specs.Ledger.{Fate, Ledger, NoDiscard, Settings, after_all, after_fate, after_one, choice_after, configured, discard_after, discard_of, entry_of, fate_in, filtering, held, is_set, ledger_of, lost_cleared, reset_at, sample_in, setting_after, setting_of, turned, was_lost, was_told, with_errors, with_settings, written}
use Rattle.history.specs.Stream.{Every, Unmarked, is_blocked, is_full}
use Rattle.history.proofs.ControlLaws.{pair_turned}
use Rattle.history.proofs.HeldLaws.{every_more}
use Rattle.history.proofs.Leaves.{all_leave, fate_leaves, one_leaves, write_leaves}
use Rattle.history.proofs.Triggers.{or_left, or_right}

-- ---- what goes by the settings and the choice alone

module _ (R : Settings → Bool → Bool → Type 0) (l : Ledger) (b : Bool) (h : R l.settings l.hundredth b) where
  -- a ledger's settings and choice, with the yes or no that is followed beside them
  abbrev Settled : Ledger → Bool → Type 0
  Settled m c = R m.settings m.hundredth c

  -- of the writes those at 0, 1 and 4 alone touch them
  write_settled : (bits : ℕ) → R (filtering bits l.settings) l.hundredth b → (zero one : Bool) → Settled (reset_at l.clock l.hundredth) zero → R (configured bits l.settings) l.hundredth one → (a lines : ℕ) → Settled (written a bits lines l).ledger (cond (eqb a 0) zero (cond (eqb a 1) one b))
  write_settled bits f =
      write_leaves Settled l b h bits f h h (λ g. h) (λ xs. h)
      (λ resource level line small. fate_leaves (λ m. Settled m b) l h (λ e. h) (λ ss e. h) (fate_in resource level l) resource line bits)

  -- of the operations resets and writes alone
  one_settled : (reset : Bool → Bool) (write : ℕ → ℕ → Bool → Bool) → ((hundredth : Bool) → Settled (reset_at 0 hundredth) (reset hundredth)) → ((a bits lines : ℕ) → Settled (written a bits lines l).ledger (write a bits b)) → (op : Operation) → Settled (entry_of op l).ledger (after_one reset write op b)
  one_settled reset write r w = one_leaves Settled l b h reset write r w h (λ g. h) (λ k g. h) (λ n. h)

pub one_choice : (op : Operation) (l : Ledger) (b : Bool) → l.hundredth ≡ b → (entry_of op l).ledger.hundredth ≡ choice_after op b
one_choice op l b h =
    one_settled (λ s hundredth c. hundredth ≡ c) l b h _ _ (λ hundredth. refl)
    (λ a bits lines. write_settled (λ s hundredth c. hundredth ≡ b) l b h bits h b b h h a lines)
    op

-- a setting f that a reset leaves as it says, that the Filter doesn't touch, and that a pair of CSR bits turns
module _ (f : Settings → Bool) (reset : Bool) (even : ℕ) (start : f (reset_at 0 false).settings ≡ reset) (stays : (bits : ℕ) (s : Settings) → f (filtering bits s) ≡ f s) (turns : (bits : ℕ) (s : Settings) → f (configured bits s) ≡ turned (bits / 2 ^ even % 4) (f s)) where
  one_setting : (op : Operation) (l : Ledger) (b : Bool) → f l.settings ≡ b → f (entry_of op l).ledger.settings ≡ setting_after reset even op b
  one_setting op l b h =
      one_settled (λ s hundredth c. f s ≡ c) l b h _ _ (λ hundredth. start)
      (λ a bits lines.
      write_settled (λ s hundredth c. f s ≡ c) l b h bits (stays bits l.settings ∙ h) _ _ start
      (turns bits l.settings ∙ ap (turned (bits / 2 ^ even % 4)) h ∙ sym (pair_turned even bits b))
      a
      lines)
      op

  pub setting_said : (ops : List Operation) → f (ledger_of ops).settings ≡ setting_of reset even ops
  setting_said ops = all_leave (λ l b. f l.settings ≡ b) (setting_after reset even) one_setting ops (reset_at 0 false) reset start

-- ---- nothing is lost

-- write wait is set, no trigger is counted as lost, flagged or marked, and no sample taken has the lost mark: over these values alone, so that an
-- operation which changes none of them has nothing to show
pub record NoneLost (writewait : Bool) (lost : ℕ) (flagfull flagbusy mark : Bool) (taken : List Sample) : Type 0 where
  pub waits : writewait ≡ true
  pub uncounted : lost ≡ 0
  pub unflagged : (flagfull ≡ false) × (flagbusy ≡ false)
  pub unmarked : mark ≡ false
  pub samples : Every Unmarked taken

-- the same of a ledger
abbrev pub Unlost : Ledger → Type 0
Unlost l = NoneLost l.settings.writewait l.errors.lost l.errors.flagfull l.errors.flagbusy l.errors.mark l.taken

pub reset_unlost : (clock : ℕ) (hundredth : Bool) → Unlost (reset_at clock hundredth)
reset_unlost clock hundredth = record { waits = refl; uncounted = refl; unflagged = (refl, refl); unmarked = refl; samples = tt }

-- the header of a sample with no lost mark
pub header_unmarked : (line : ℕ) (resource mark : Bool) → line < 8 → mark ≡ false → line + cond resource 8 0 + cond mark 16 0 < 16
header_unmarked line resource mark h e = subst (λ (b : Bool). line + cond resource 8 0 + cond b 16 0 < 16) (sym e) (go resource)
  where
    go : (r : Bool) → line + cond r 8 0 + 0 < 16
    go true = omega arith
    go false = omega arith

-- a CSR write without bit 3 leaves write wait set
pub csr_keeps_wait : (bits : ℕ) (wait : Bool) → wait ≡ true → is_set bits 3 ≡ false → turned (bits / 4 % 4) wait ≡ true
csr_keeps_wait bits wait w e =
    sym (pair_turned 2 bits wait)
    ∙ ap (λ (b : Bool). cond b false (cond (is_set bits 2) true wait)) e
    ∙ ap (cond (is_set bits 2) true) w
    ∙ either (λ b. b ≡ true) (is_set bits 2) true true refl refl

module _ (l : Ledger) (u : Unlost l) where
  -- a trigger is not lost: with no room it is told to wait
  fate_unlost : (resource : Bool) (level line bits : ℕ) → line < 8 → Unlost (after_fate (fate_in resource level l) resource line bits l)
  unfolding after_fate
  fate_unlost resource level line bits h =
      either P l.settings.sampling _ _
      (either P (is_set l.settings.filter level) _ _
      (either P (is_full (held l) || is_blocked resource (held l)) _ _
      (subst (λ (b : Bool). P (cond b was_told was_lost)) (sym u.waits) u)
      (record {
        waits = u.waits;
        uncounted = u.uncounted;
        unflagged = u.unflagged;
        unmarked = refl;
        samples = every_more Unmarked l.taken (sample_in resource line bits l) u.samples (header_unmarked line resource l.errors.mark h u.unmarked);
      }))
      u)
      u
    where
      P : Fate → Type 0
      P f = Unlost (after_fate f resource line bits l)

pub one_unlost : (op : Operation) (l : Ledger) (b : Bool) → (b ≡ false → Unlost l) → discard_after op b ≡ false → Unlost (entry_of op l).ledger
one_unlost op l b h =
    one_leaves P l b h _ _ (λ hundredth none. reset_unlost 0 hundredth)
    (λ a bits lines.
    write_leaves P l b h bits h h (cleared h) (λ g. h) (λ xs. h)
    (λ resource level line small none. fate_unlost l (h none) resource level line bits small)
    _ _ (λ none. reset_unlost l.clock l.hundredth) (set bits) a lines)
    h
    (λ g. h)
    (λ k g. h)
    (λ n. h)
    op
  where
    P : Ledger → Bool → Type 0
    P m c = c ≡ false → Unlost m

    cleared : P l b → P (with_errors (lost_cleared l.errors) l) b
    cleared v none =
        let u = v none in
        record { waits = u.waits; uncounted = refl; unflagged = (refl, refl); unmarked = u.unmarked; samples = u.samples }

    set : (bits : ℕ) → P (with_settings (configured bits l.settings) l) (b || is_set bits 3)
    set bits none =
        let u : Unlost l = h (or_left b (is_set bits 3) none) in
        record { waits = csr_keeps_wait bits l.settings.writewait u.waits (or_right b (is_set bits 3) none); uncounted = u.uncounted; unflagged = u.unflagged; unmarked = u.unmarked; samples = u.samples }

-- ---- who asked for discard

-- a list that never did
pub never_asked : (ops : List Operation) → NoDiscard ops → discard_of ops ≡ false
unfolding after_all after_one
never_asked [] h = refl
never_asked (op ∷ ops) h =
    ap (λ (b : Bool). after_all discard_after b ops) (one op refl)
    ∙ never_asked ops (λ before after bits lines e. h (op ∷ before) after bits lines (ap (λ (os : List Operation). op ∷ os) e))
  where
    one : (o : Operation) → op ≡ o → discard_after o false ≡ false
    one (op_reset hundredth) e = refl
    one (op_write a bits lines) e = go (eqb a 0) (eqb a 1) refl
      where
        go : (x y : Bool) → eqb a 1 ≡ y → cond x false (cond y (false || is_set bits 3) false) ≡ false
        go true y d = refl
        go false true d = h [] ops bits lines (ap (λ (o : Operation). o ∷ ops) (e ∙ ap (λ (i : ℕ). op_write i bits lines) (eqb-true a 1 d)))
        go false false d = refl
    one (op_read a) e = refl
    one (op_ticks k) e = refl
    one (op_nodes k) e = refl
    one (op_events mask) e = refl
    one op_send e = refl
    one (op_fill room) e = refl

-- one list behind another
after_both : (f : Operation → Bool → Bool) (before after : List Operation) (b : Bool) → after_all f b (before ++ after) ≡ after_all f (after_all f b before) after
unfolding after_all
after_both f [] after b = refl
after_both f (op ∷ before) after b = after_both f before after (f op b)

-- whatever was asked before either reset
module _ (before after : List Operation) (h : NoDiscard after) where
  pub hard_forgets : (hundredth : Bool) → discard_of (before ++ (op_reset hundredth ∷ after)) ≡ false
  unfolding after_all after_one
  hard_forgets hundredth = after_both discard_after before (op_reset hundredth ∷ after) false ∙ never_asked after h

  pub soft_forgets : (bits lines : ℕ) → discard_of (before ++ (op_write 0 bits lines ∷ after)) ≡ false
  unfolding after_all after_one
  soft_forgets bits lines = after_both discard_after before (op_write 0 bits lines ∷ after) false ∙ never_asked after h
