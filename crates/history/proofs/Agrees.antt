-- The relation between a ledger and a chip's record: every part of the record is a function of the ledger, but for the queue, which holds
-- what the ledger says is held, and the shadows, which matter only to that. Assumes nothing.
use Prim.Native.Nat.{ℕ, ◌%◌, ◌^◌}
use native.Mathlib.Nat.{mod-lt}
use mathlib.Core.Path.{◌≡◌, ap₂, subst}
use mathlib.Core.Bool.{Bool, true, cond, ◌&&◌}
use mathlib.Core.List.{List, map}
use lib.ListN.{length, get_or}
use lib.Pow.{pow_pos}
use borrow.Author.Tests.{lt-ltb}
use Rattle.counters.specs.Due.{divisor_of}
use Rattle.counters.specs.declared.switches.Switches.{Switches}
use Rattle.counters.proofs.TickLaws.{divisor_some}
use Rattle.samples.specs.declared.edition.Edition.TheVariants.{First}
use Rattle.queue.specs.declared.queue.Queue.{Queue}
use Rattle.control.specs.declared.control.Control.{Control}
use Rattle.chip.specs.Chip.{guarded, inside}
use Rattle.chip.specs.Told.{Told}
use Rattle.chip.specs.declared.chip.Chip.{Chip}
use Rattle.chip.proofs.ChipLaws.{guard_in}
use Rattle.history.specs.Ledger.{Entry, Ledger, packed, sent_more, tells}
use Rattle.history.specs.Stream.{words_of_all}
use Rattle.history.proofs.ControlLaws.{control_by}
use Rattle.history.proofs.CountLaws.{value_of}
use Rattle.history.proofs.HeldLaws.{Sixteen}
use Rattle.history.proofs.HoldsLaws.{Holds, holds_inside}

abbrev pub control_of : Ledger → Control
control_of l = control_by l.settings l.errors

-- three registers, and the slow clock as the ledger has it
abbrev pub switches_with : ℕ → ℕ → ℕ → Ledger → Switches
switches_with enabled low high l =
    record { enabled = enabled; low = low; high = high; phase = l.ticks % divisor_of l.hundredth; hundredth = l.hundredth }

-- bit i of each register is counter i's
abbrev pub switches_of : Ledger → Switches
switches_of l = switches_with (packed (λ k. k.on) l.counters) (packed (λ k. k.low) l.counters) (packed (λ k. k.high) l.counters) l

-- the record that a ledger leaves, with a queue and shadows
abbrev pub chip_for : Ledger → Queue → List ℕ → Chip
chip_for l q sh =
    record {
      stamp = l.clock % 2 ^ 56;
      queue = q;
      bank = record { values = map value_of l.counters; shadows = sh };
      sources = l.sources;
      control = control_of l;
      switches = switches_of l;
    }

-- what is known of the queue and the shadows
pub record Good (l : Ledger) (q : Queue) (sh : List ℕ) : Type 0 where
  pub holds : Holds First l.taken l.sent sh q
  pub sixteen : Sixteen l.taken
  pub counters : length l.counters ≡ 16

pub record Agrees (l : Ledger) (c : Chip) : Type 0 where
  pub queue : Queue
  pub shadows : List ℕ
  pub is : c ≡ chip_for l queue shadows
  pub good : Good l queue shadows

-- what the chip tells is the ledger's number and value, and leaves a record for the ledger after it
pub record Kept (e : Entry) (t : Told) : Type 0 where
  pub agrees : Agrees e.ledger t.chip
  pub number : t.number ≡ e.number
  pub value : t.value ≡ e.value

-- a single send, by whether nothing is left
abbrev pub send_entry : Ledger → Bool → Entry
send_entry l none = cond none (tells 5 0 l) (tells 0 (get_or (words_of_all First l.taken) l.sent 0) (sent_more 1 l))

-- such a record is inside its bounds, so no operation replies 15
pub for_inside : (l : Ledger) (q : Queue) (sh : List ℕ) → Good l q sh → inside (chip_for l q sh) ≡ true
for_inside l q sh g =
    ap₂ (λ (a b : Bool). a && b) (holds_inside First l.taken l.sent sh q g.holds)
    (ap₂ (λ (a b : Bool). a && b) (lt-ltb (l.ticks % divisor_of l.hundredth) (divisor_of l.hundredth) (mod-lt l.ticks (divisor_some l.hundredth)))
    (lt-ltb (l.clock % 2 ^ 56) (2 ^ 56) (mod-lt l.clock (pow_pos 56))))

pub kept_guarded : (l : Ledger) (q : Queue) (sh : List ℕ) (e : Entry) (t : Told) → Good l q sh → Kept e t → Kept e (guarded (chip_for l q sh) t)
kept_guarded l q sh e t g k = subst (Kept e) (guard_in (chip_for l q sh) t (for_inside l q sh g)) k
