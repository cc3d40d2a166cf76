-- Demand 3, for every list of operations from a fresh chip, and its settings after it. The proof is one relation between ledger and record (`Agrees`),
-- kept by every operation (`Steps`), and a fold; for parts 7 to 9 also what each operation leaves of the ledger (`Walks`). Assumes nothing of the
-- list, but for part 9: that it hasn't asked for discard.
use Prim.Native.Nat.{ℕ, ◌+◌, ◌%◌, ◌^◌, ◌≤◌, ◌<◌}
use native.Mathlib.Omega.{arith}
use mathlib.Core.Path.{◌≡◌, refl, sym, ap, ap₂, ◌∙◌}
use mathlib.Core.Bool.{Bool, true, false, cond}
use mathlib.Core.List.{List, [], ◌∷◌, ◌++◌}
use lib.Dec.{eqb, leb}
use lib.ListN.{length, take, drop, get_or, take-append-drop, replicate}
use lib.Seq.{take_all}
use borrow.Author.Tests.{lt-ltb}
use Rattle.samples.specs.declared.edition.Edition.TheVariants.{First}
use Rattle.queue.specs.Queue.{empty_queue}
use Rattle.control.specs.declared.control.Control.{Control}
use Rattle.chip.specs.Chip.{fresh, inside}
use Rattle.chip.specs.Operation.{Operation, op_write, step}
use Rattle.chip.specs.Shape.{Shaped}
use Rattle.chip.specs.declared.chip.Chip.{Chip}
use Rattle.chip.proofs.Bounds.{fresh_shaped, keeps_shaped}
use Rattle.chip.proofs.Bounds.{never_15 as inside-never-15}
use Rattle.chip.proofs.Replies.{waiting_never_8}
use Rattle.history.specs.Ledger.{Entry, Fate, Ledger, by_fate, choice_after, choice_of, discard_after, discard_of, fate_in, fate_number, ledger_from, ledger_of, line_in, no_counter, read_wait_of, reset_at, sampling_of, tells, entry_of, triggered, wait_of, written}
use Rattle.history.specs.Run.{chip_of, come_within, run_from, sent_from, sent_of, to_come}
use Rattle.history.specs.Stream.{Every, Unmarked, total_of, words_of_all}
use Rattle.history.proofs.Addresses.{range_trigger}
use Rattle.history.proofs.Agrees.{Agrees, control_of, for_inside}
use Rattle.history.proofs.ControlLaws.{lowest_turned}
use Rattle.history.proofs.CountLaws.{value_at_lem, wrapped}
use Rattle.history.proofs.HeldLaws.{words_left, words_total}
use Rattle.history.proofs.HoldsLaws.{holds_left}
use Rattle.history.proofs.Leaves.{all_leave}
use Rattle.history.proofs.Steps.{agrees_step, reset_good, reset_record}
use Rattle.history.proofs.StreamLaws.{come_words, stream_step}
use Rattle.history.proofs.Walks.{Unlost, one_choice, one_unlost, reset_unlost, setting_said}

-- ---- the fold

fresh_agrees : Agrees (reset_at 0 false) fresh
fresh_agrees = record { queue = empty_queue; shadows = replicate 16 0; is = reset_record 0 false; good = reset_good 0 false }

pub run_agrees : (ops : List Operation) (l : Ledger) (c : Chip) → Agrees l c → Agrees (ledger_from l ops) (run_from c ops)
unfolding ledger_from run_from
run_agrees [] l c a = a
run_agrees (op ∷ ops) l c a = run_agrees ops (entry_of op l).ledger (step op c).chip (agrees_step op l c a).agrees

pub agrees : (ops : List Operation) → Agrees (ledger_of ops) (chip_of ops)
agrees ops = run_agrees ops (reset_at 0 false) fresh fresh_agrees

run_stream : (ops : List Operation) (l : Ledger) (c : Chip) (ws : List ℕ) → Agrees l c → ws ≡ take l.sent (words_of_all First l.taken) → sent_from c ws ops ≡ take (ledger_from l ops).sent (words_of_all First (ledger_from l ops).taken)
unfolding ledger_from sent_from
run_stream [] l c ws a e = e
run_stream (op ∷ ops) l c ws a e = run_stream ops (entry_of op l).ledger (step op c).chip _ (agrees_step op l c a).agrees (stream_step l c a op ws e)

-- settings, error counters and marks
of_control : {A : Type 0} (ops : List Operation) (f : Control → A) → f (chip_of ops).control ≡ f (control_of (ledger_of ops))
of_control ops f = ap (λ (c : Chip). f c.control) (agrees ops).is

-- ---- 1. Replies

-- every operation's whole reply is what the list before it says
pub reply_said : (ops : List Operation) (op : Operation) → ((step op (chip_of ops)).number ≡ (entry_of op (ledger_of ops)).number) × ((step op (chip_of ops)).value ≡ (entry_of op (ledger_of ops)).value)
reply_said ops op = let k = agrees_step op (ledger_of ops) (chip_of ops) (agrees ops) in (k.number, k.value)

-- so each unrefused trigger's reply is that of its fate: from 112 on it is a Resource trigger, and its level is the address modulo 16
pub fate_said : (l : Ledger) (c : Chip) → Agrees l c → (address bits lines : ℕ) → 96 ≤ address → address ≤ 127 → line_in lines < 8 → (step (op_write address bits lines) c).number ≡ fate_number (fate_in (leb 112 address) (address % 16) l)
unfolding entry_of written triggered
fate_said l c a address bits lines p h e =
    let r : Bool = leb 112 address in
    let f : Fate = fate_in r (address % 16) l in
    (agrees_step (op_write address bits lines) l c a).number
    ∙ ap (λ (x : Entry). x.number) (range_trigger address l _ _ _ _ p h)
    ∙ ap (λ (b : Bool). (cond b (by_fate f r (line_in lines) bits l) (tells 4 0 l)).number) (lt-ltb (line_in lines) 8 e)

pub trigger_fate : (ops : List Operation) (address bits lines : ℕ) → 96 ≤ address → address ≤ 127 → line_in lines < 8 → (step (op_write address bits lines) (chip_of ops)).number ≡ fate_number (fate_in (leb 112 address) (address % 16) (ledger_of ops))
trigger_fate ops = fate_said (ledger_of ops) (chip_of ops) (agrees ops)

-- ---- 2. The words sent since the last reset, then the words still to come, are the words of the samples taken since then

-- at most 640 words are ever left
left_few : (ops : List Operation) → length (drop (ledger_of ops).sent (words_of_all First (ledger_of ops).taken)) ≤ 640
left_few ops =
    let l : Ledger = ledger_of ops in
    let a : Agrees l (chip_of ops) = agrees ops in
    omega
    (arith, words_left First l.taken l.sent a.good.sixteen, holds_left First l.taken l.sent a.shadows a.queue a.good.holds)

pub to_come_lem : (ops : List Operation) → to_come (chip_of ops) ≡ drop (ledger_of ops).sent (words_of_all First (ledger_of ops).taken)
to_come_lem ops = come_words 640 (ledger_of ops) (chip_of ops) (agrees ops) ∙ take_all 640 (drop (ledger_of ops).sent (words_of_all First (ledger_of ops).taken)) (left_few ops)

-- more tries than 640 find no more words: reply 5 has come by then
pub come_enough : (ops : List Operation) (more : ℕ) → come_within (640 + more) (chip_of ops) ≡ to_come (chip_of ops)
come_enough ops more =
    come_words (640 + more) (ledger_of ops) (chip_of ops) (agrees ops)
    ∙ take_all (640 + more) (drop (ledger_of ops).sent (words_of_all First (ledger_of ops).taken)) (omega (arith, left_few ops))
    ∙ sym (to_come_lem ops)

-- the first of these are sent
pub sent_words_lem : (ops : List Operation) → sent_of ops ≡ take (ledger_of ops).sent (words_of_all First (ledger_of ops).taken)
unfolding words_of_all
sent_words_lem ops = run_stream ops (reset_at 0 false) fresh [] fresh_agrees refl

pub word_sum : (ops : List Operation) → sent_of ops ++ to_come (chip_of ops) ≡ words_of_all First (ledger_of ops).taken
word_sum ops =
    ap₂ (λ (x y : List ℕ). x ++ y) (sent_words_lem ops) (to_come_lem ops)
    ∙ take-append-drop (ledger_of ops).sent (words_of_all First (ledger_of ops).taken)

-- ---- 3. So their number is 16 for each Trace and 80 for each Resource sample taken

pub word_count : (ops : List Operation) → length (sent_of ops ++ to_come (chip_of ops)) ≡ total_of First (ledger_of ops).taken
word_count ops = ap length (word_sum ops) ∙ words_total First (ledger_of ops).taken (agrees ops).good.sixteen

-- ---- 4. The Overrun Counter is the lost triggers since its last clearing, modulo 2^32

pub overrun_counts : (ops : List Operation) → (chip_of ops).control.overrun ≡ (ledger_of ops).errors.lost % 2 ^ 32
overrun_counts ops = of_control ops (λ k. k.overrun)

-- ---- 5. Each counter is the events due to it since its last clearing, modulo 2^32

pub counter_counts : (ops : List Operation) (i : ℕ) → get_or (chip_of ops).bank.values i 0 ≡ (get_or (ledger_of ops).counters i no_counter).events % 2 ^ 32
counter_counts ops i = ap (λ (c : Chip). get_or c.bank.values i 0) (agrees ops).is ∙ value_at_lem (ledger_of ops).counters i

-- ---- 6. The Wait Counter likewise, and the Timestamp modulo 2^56

pub wait_counts : (ops : List Operation) → (chip_of ops).control.wait ≡ (ledger_of ops).errors.waits % 2 ^ 32
wait_counts ops = of_control ops (λ k. k.wait)

pub timestamp_counts : (ops : List Operation) → (chip_of ops).stamp ≡ (ledger_of ops).clock % 2 ^ 56
timestamp_counts ops = ap (λ (c : Chip). c.stamp) (agrees ops).is

-- ---- 7. The slow clock has the speed that the last hardware reset of the list chose, and the tenth where there is none; so has the ledger

pub ledger_choice : (ops : List Operation) → (ledger_of ops).hundredth ≡ choice_of ops
ledger_choice ops = all_leave (λ l b. l.hundredth ≡ b) choice_after one_choice ops (reset_at 0 false) false refl

pub choice_said : (ops : List Operation) → (chip_of ops).switches.hundredth ≡ choice_of ops
choice_said ops = ap (λ (c : Chip). c.switches.hundredth) (agrees ops).is ∙ ledger_choice ops

-- ---- 8. Sampling, write wait and read wait are what the list's resets and their pairs of CSR bits say

pub sampling_said : (ops : List Operation) → (chip_of ops).control.sampling ≡ sampling_of ops
sampling_said ops =
    of_control ops (λ k. k.sampling)
    ∙ setting_said (λ s. s.sampling) false 0 refl (λ bits s. refl) (λ bits s. sym (lowest_turned bits s.sampling)) ops

pub wait_said : (ops : List Operation) → (chip_of ops).control.writewait ≡ wait_of ops
wait_said ops =
    of_control ops (λ k. k.writewait) ∙ setting_said (λ s. s.writewait) true 2 refl (λ bits s. refl) (λ bits s. refl) ops

pub read_wait_said : (ops : List Operation) → (chip_of ops).control.readwait ≡ read_wait_of ops
read_wait_said ops =
    of_control ops (λ k. k.readwait) ∙ setting_said (λ s. s.readwait) false 4 refl (λ bits s. refl) (λ bits s. refl) ops

-- ---- 9. On a list that hasn't asked for discard since its last reset, write wait is set and no trigger is lost next; since then, or since a write at
-- 6 that clears them, none is counted or flagged; there is no lost mark, and no sample taken has it

module _ (ops : List Operation) (e : discard_of ops ≡ false) where
  unlost : Unlost (ledger_of ops)
  unlost = all_leave (λ l b. b ≡ false → Unlost l) discard_after one_unlost ops (reset_at 0 false) false (λ none. reset_unlost 0 false) e

  pub waits_unless_asked : (chip_of ops).control.writewait ≡ true
  waits_unless_asked = of_control ops (λ k. k.writewait) ∙ unlost.waits

  pub never_8 : (op : Operation) → eqb (step op (chip_of ops)).number 8 ≡ false
  never_8 op = waiting_never_8 op (chip_of ops) waits_unless_asked

  pub nothing_lost : let k = (chip_of ops).control in (k.overrun ≡ 0) × ((k.flagfull ≡ false) × ((k.flagbusy ≡ false) × (k.lost ≡ false)))
  nothing_lost =
      (overrun_counts ops ∙ ap wrapped unlost.uncounted, (of_control ops (λ k. k.flagfull) ∙ unlost.unflagged.0, (of_control ops (λ k. k.flagbusy) ∙ unlost.unflagged.1, of_control ops (λ k. k.lost) ∙ unlost.unmarked)))

  pub none_marked : Every Unmarked (ledger_of ops).taken
  none_marked = unlost.samples

-- ---- 10. The chip never answers 15

pub always_inside : (ops : List Operation) → inside (chip_of ops) ≡ true
always_inside ops =
    let a : Agrees (ledger_of ops) (chip_of ops) = agrees ops in
    ap inside a.is ∙ for_inside (ledger_of ops) a.queue a.shadows a.good

pub never_15 : (ops : List Operation) (op : Operation) → eqb (step op (chip_of ops)).number 15 ≡ false
never_15 ops op = inside-never-15 op (chip_of ops) (always_inside ops)

-- ---- 11. And its lists have the lengths and widths that their types give

pub always_shaped : (ops : List Operation) → Shaped (chip_of ops)
unfolding run_from
always_shaped ops = go ops fresh fresh_shaped
  where
    go : (os : List Operation) (c : Chip) → Shaped c → Shaped (run_from c os)
    go [] c s = s
    go (op ∷ os) c s = go os (step op c).chip (keeps_shaped op c s)
