-- The settings after a list: sampling, write wait, read wait and 32-bit mode are what a walk over the list says of them, and where it says that discard was not
-- asked for, nothing is lost. By what each operation leaves of the ledger, and the low bits of the data, which 32-bit mode leaves alone. Assumes nothing.
use Prim.Native.Nat.{ℕ, suc, ◌+◌, ◌*◌, ◌/◌, ◌%◌, ◌^◌, ◌<◌}
use native.Mathlib.Omega.{arith}
use mathlib.Core.Path.{◌≡◌, refl, sym, ap, ap₂, ◌∙◌, subst}
use mathlib.Core.Bool.{Bool, true, false, cond, ◌||◌}
use mathlib.Core.List.{List}
use Rattle.counters.specs.Bank.{bit}
use Rattle.counters.proofs.BitLaws.{bit_mod}
use Rattle.control.specs.Control.{pair}
use Rattle.chip.proofs.ChipLaws.{either}
use Rattle.chip2.specs.Operation.{Operation}
use Rattle.history.specs.Ledger.{Fate, Settings, configured, filtering, is_set, lost_cleared, turned, was_lost, was_told}
use Rattle.history.specs.Stream.{Unmarked, is_blocked, is_full}
use Rattle.history.proofs.ControlLaws.{pair_turned}
use Rattle.history.proofs.HeldLaws.{every_more}
use Rattle.history.proofs.Triggers.{or_left, or_right}
use Rattle.history.proofs.Walks.{NoneLost, csr_keeps_wait, header_unmarked}
use Rattle.history2.specs.Ledger2.{Ledger, after_fate, data_in, entry_of, fate_in, held, ledger_of, reset_at, sample_in, with_errors, with_settings}
use Rattle.history2.specs.Walk2.{discard_after, setting_after, setting_of}
use Rattle.history2.proofs.Leaves2.{Kin, all_leave, fate_leaves, kin, one_leaves, write_leaves}

-- in 32-bit mode too the low 32 bits are the data's own
pub data_bit : (bits : ℕ) (l : Ledger) (i : ℕ) → i < 32 → bit (data_in bits l) i ≡ bit bits i
data_bit bits l i h = go l.narrow
  where
    go : (b : Bool) → bit (cond b (bits % 2 ^ 32 + 2 ^ 32 * l.high) bits) i ≡ bit bits i
    go true =
        let low : (bits % 2 ^ 32 + 2 ^ 32 * l.high) % 2 ^ 32 ≡ bits % 2 ^ 32 = omega arith in
        sym (bit_mod 32 (bits % 2 ^ 32 + 2 ^ 32 * l.high) i h) ∙ ap (λ (n : ℕ). bit n i) low ∙ bit_mod 32 bits i h
    go false = refl

-- a setting f that a reset leaves as it says, that the Filter doesn't touch, and that a pair of CSR bits turns
module _ (f : Settings → Bool → Bool) (reset : Bool) (even : ℕ) (low : suc even < 32) (start : f (reset_at 0).settings false ≡ reset) (stays : (bits : ℕ) (s : Settings) (w : Bool) → f (filtering bits s) w ≡ f s w) (turns : (bits : ℕ) (s : Settings) (w : Bool) → f (configured bits s) (turned (bits / 2 ^ 14 % 4) w) ≡ turned (bits / 2 ^ even % 4) (f s w)) where
  abbrev setting_in : Ledger → Bool
  setting_in l = f l.settings l.narrow

  one_setting : (op : Operation) (l : Ledger) (b : Bool) → setting_in l ≡ b → setting_in (entry_of op l).ledger ≡ setting_after reset even op b
  one_setting op l b h =
      one_leaves P l b same _ _ start
      (λ a bits lines.
      let d : ℕ = data_in bits l in
      write_leaves P l b same d (stays d l.settings l.narrow ∙ h) h h
      (λ resource level line small. fate_leaves (λ m. P m b) l h (λ e. h) (λ ss sh e. h) (fate_in resource level l) resource line d)
      _ _ start
      (turns d l.settings l.narrow
      ∙ ap (turned (d / 2 ^ even % 4)) h
      ∙ sym (pair_turned even d b)
      ∙ ap₂ (λ (x y : Bool). pair x y b) (data_bit bits l even (omega arith)) (data_bit bits l (suc even) low))
      a
      lines)
      h
      (λ room. h)
      op
    where
      P : Ledger → Bool → Type 0
      P m c = setting_in m ≡ c

      same : (m : Ledger) → Kin l m → P m b
      same = kin (λ s w e ss n. f s w ≡ b) l h

  pub setting_said : (ops : List Operation) → setting_in (ledger_of ops) ≡ setting_of reset even ops
  setting_said ops = all_leave (λ l b. setting_in l ≡ b) (setting_after reset even) one_setting ops (reset_at 0) reset start

-- ---- nothing is lost

-- the first chip's statement, of a ledger
abbrev pub Unlost : Ledger → Type 0
Unlost l = NoneLost l.settings.writewait l.errors.lost l.errors.flagfull l.errors.flagbusy l.errors.mark l.taken

pub reset_unlost : (clock : ℕ) → Unlost (reset_at clock)
reset_unlost clock = record { waits = refl; uncounted = refl; unflagged = (refl, refl); unmarked = refl; samples = tt }

module _ (l : Ledger) (u : Unlost l) where
  -- a trigger is not lost: with no room it is told to wait
  fate_unlost : (resource : Bool) (level line bits : ℕ) → line < 8 → Unlost (after_fate (fate_in resource level l) resource line bits l)
  unfolding after_fate
  fate_unlost resource level line bits h =
      either P l.settings.sampling _ _
      (either P (is_set l.settings.filter level) _ _
      (either P (is_full (held l) || is_blocked resource (held l)) _ _
      (subst (λ (b : Bool). P (cond b was_told was_lost)) (sym u.waits) u)
      (record {
        waits = u.waits;
        uncounted = u.uncounted;
        unflagged = u.unflagged;
        unmarked = refl;
        samples = every_more Unmarked l.taken (sample_in resource line bits l) u.samples (header_unmarked line resource l.errors.mark h u.unmarked);
      }))
      u)
      u
    where
      P : Fate → Type 0
      P f = Unlost (after_fate f resource line bits l)

pub one_unlost : (op : Operation) (l : Ledger) (b : Bool) → (b ≡ false → Unlost l) → discard_after op b ≡ false → Unlost (entry_of op l).ledger
one_unlost op l b h =
    one_leaves P l b same _ _ (λ none. reset_unlost 0)
    (λ a bits lines.
    write_leaves P l b same (data_in bits l) h h (cleared h)
    (λ resource level line small none. fate_unlost l (h none) resource level line (data_in bits l) small)
    _ _ (λ none. reset_unlost l.clock) (set bits) a lines)
    h
    (λ room. h)
    op
  where
    P : Ledger → Bool → Type 0
    P m c = c ≡ false → Unlost m

    same : (m : Ledger) → Kin l m → P m b
    same = kin (λ s w e ss n. b ≡ false → NoneLost s.writewait e.lost e.flagfull e.flagbusy e.mark ss) l h

    cleared : P l b → P (with_errors (lost_cleared l.errors) l) b
    cleared v none =
        let u = v none in
        record { waits = u.waits; uncounted = refl; unflagged = (refl, refl); unmarked = u.unmarked; samples = u.samples }

    set : (bits : ℕ) → let d = data_in bits l in P (with_settings (configured d l.settings) (turned (d / 2 ^ 14 % 4) l.narrow) l) (b || is_set bits 3)
    set bits none =
        let u : Unlost l = h (or_left b (is_set bits 3) none) in
        record {
          waits = csr_keeps_wait (data_in bits l) l.settings.writewait u.waits (data_bit bits l 3 (omega arith) ∙ or_right b (is_set bits 3) none);
          uncounted = u.uncounted;
          unflagged = u.unflagged;
          unmarked = u.unmarked;
          samples = u.samples;
        }
