-- Demand 3 for the MultiKron II, for every list of operations from a fresh chip, and its settings after it. The proof is one relation between ledger and record
-- (`Agrees`), kept by every operation (`Steps2`), and a fold; for parts 8 and 9 also what each operation leaves of the ledger (`Walks2`). Assumes nothing of
-- the list, but for part 9: that it hasn't asked for discard.
use Prim.Native.Nat.{ℕ, suc, ◌+◌, ◌*◌, ◌%◌, ◌^◌, ◌≤◌, ◌<◌}
use native.Mathlib.Nat.{mod-eq_of_lt}
use native.Mathlib.Omega.{arith}
use mathlib.Core.Path.{◌≡◌, refl, sym, ap, ap₂, ◌∙◌, subst}
use mathlib.Core.Bool.{Bool, true, false, cond}
use mathlib.Core.List.{List, [], ◌∷◌, ◌++◌}
use lib.Dec.{eqb, leb}
use lib.ListN.{length, take, drop, get_or, take-append-drop}
use lib.Seq.{take_all}
use borrow.Author.Tests.{lt-ltb}
use Rattle.samples.specs.declared.edition.Edition.TheVariants.{Second}
use Rattle.counters2.specs.Fields.{field_at}
use Rattle.queue.specs.Queue.{empty_queue}
use Rattle.control.specs.declared.control.Control.{Control}
use Rattle.chip2.specs.Chip2.{fresh, inside}
use Rattle.chip2.specs.Operation.{Operation, op_write, step}
use Rattle.chip2.specs.Shape.{Shaped}
use Rattle.chip2.specs.declared.chip2.Chip2.{Chip2}
use Rattle.chip2.specs.Left.{Leavable}
use Rattle.chip2.proofs.Left.{fresh_left, keeps_left}
use Rattle.chip2.proofs.Bounds.{fresh_shaped, keeps_shaped}
use Rattle.chip2.proofs.Bounds.{never_15 as inside-never-15}
use Rattle.chip2.proofs.Replies.{waiting_never_8}
use Rattle.history.specs.Ledger.{Fate, fate_number, line_in}
use Rattle.history.specs.Stream.{Every, Unmarked, total_of, words_of_all}
use Rattle.history.proofs.ControlLaws.{lowest_turned}
use Rattle.history.proofs.CountLaws.{wrapped}
use Rattle.history.proofs.HeldLaws.{words_left, words_total}
use Rattle.history.proofs.HoldsLaws.{holds_left}
use Rattle.history2.specs.Counts2.{Count, Holding, apart, flat, high_of, is_joined, joined, low_of, no_count}
use Rattle.history2.specs.Ledger2.{Entry, Ledger, by_fate, data_in, entry_of, fate_in, ledger_from, ledger_of, reset_at, tells, triggered, written}
use Rattle.history2.specs.Run2.{chip_of, come_within, run_from, sent_from, sent_of, to_come}
use Rattle.history2.specs.Walk2.{discard_after, discard_of, narrow_of, read_wait_of, sampling_of, wait_of}
use Rattle.history2.proofs.Addresses2.{range_trigger}
use Rattle.history2.proofs.Agrees2.{Agrees, chip_for, control_of, for_inside}
use Rattle.history2.proofs.CountLaws2.{flat_high, flat_low, packed_field}
use Rattle.history2.proofs.DueLaws2.{fields_of}
use Rattle.history2.proofs.Leaves2.{all_leave}
use Rattle.history2.proofs.Steps2.{agrees_step}
use Rattle.history2.proofs.StreamLaws2.{come_words, stream_step}
use Rattle.history2.proofs.Walks2.{Unlost, one_unlost, reset_unlost, setting_said}
use Rattle.history2.proofs.Writes2.{reset_good, reset_record}

-- ---- the fold

fresh_agrees : Agrees (reset_at 0) fresh
fresh_agrees = record { queue = empty_queue; is = reset_record 0; good = reset_good 0 }

pub run_agrees : (ops : List Operation) (l : Ledger) (c : Chip2) → Agrees l c → Agrees (ledger_from l ops) (run_from c ops)
unfolding ledger_from run_from
run_agrees [] l c a = a
run_agrees (op ∷ ops) l c a = run_agrees ops (entry_of op l).ledger (step op c).chip (agrees_step op l c a).agrees

pub agrees : (ops : List Operation) → Agrees (ledger_of ops) (chip_of ops)
agrees ops = run_agrees ops (reset_at 0) fresh fresh_agrees

run_stream : (ops : List Operation) (l : Ledger) (c : Chip2) (ws : List ℕ) → Agrees l c → ws ≡ take l.sent (words_of_all Second l.taken) → sent_from c ws ops ≡ take (ledger_from l ops).sent (words_of_all Second (ledger_from l ops).taken)
unfolding ledger_from sent_from
run_stream [] l c ws a e = e
run_stream (op ∷ ops) l c ws a e = run_stream ops (entry_of op l).ledger (step op c).chip _ (agrees_step op l c a).agrees (stream_step l c a op ws e)

-- a part of the record that is not in the queue
part : {A : Type 0} (ops : List Operation) (f : Chip2 → A) → f (chip_of ops) ≡ f (chip_for (ledger_of ops) (agrees ops).queue)
part ops f = ap f (agrees ops).is

-- settings, error counters and marks
of_control : {A : Type 0} (ops : List Operation) (f : Control → A) → f (chip_of ops).control ≡ f (control_of (ledger_of ops))
of_control ops f = part ops (λ c. f c.control)

-- ---- 1. Replies

-- every operation's whole reply is what the list before it says
pub answer_said : (ops : List Operation) (op : Operation) → ((step op (chip_of ops)).number ≡ (entry_of op (ledger_of ops)).number) × ((step op (chip_of ops)).value ≡ (entry_of op (ledger_of ops)).value)
answer_said ops op = let k = agrees_step op (ledger_of ops) (chip_of ops) (agrees ops) in (k.number, k.value)

-- so each unrefused trigger's reply is that of its fate: from 112 on it is a Resource trigger, and its level is the address modulo 16
pub fate_said : (l : Ledger) (c : Chip2) → Agrees l c → (address bits lines : ℕ) → 96 ≤ address → address ≤ 127 → line_in lines < 8 → (step (op_write address bits lines) c).number ≡ fate_number (fate_in (leb 112 address) (address % 16) l)
unfolding entry_of written triggered
fate_said l c a address bits lines p h e =
    let r : Bool = leb 112 address in
    let f : Fate = fate_in r (address % 16) l in
    (agrees_step (op_write address bits lines) l c a).number
    ∙ ap (λ (x : Entry). x.number) (range_trigger address l _ _ _ _ _ p h)
    ∙ ap (λ (b : Bool). (cond b (by_fate f r (line_in lines) (data_in bits l) l) (tells 4 0 l)).number) (lt-ltb (line_in lines) 8 e)

pub trigger_fate : (ops : List Operation) (address bits lines : ℕ) → 96 ≤ address → address ≤ 127 → line_in lines < 8 → (step (op_write address bits lines) (chip_of ops)).number ≡ fate_number (fate_in (leb 112 address) (address % 16) (ledger_of ops))
trigger_fate ops = fate_said (ledger_of ops) (chip_of ops) (agrees ops)

-- ---- 2. The words sent since the last reset, then the words still to come, are the words of the samples taken since then

-- at most 8 * 84 = 672 words are ever left
left_few : (ops : List Operation) → length (drop (ledger_of ops).sent (words_of_all Second (ledger_of ops).taken)) ≤ 672
left_few ops =
    let l : Ledger = ledger_of ops in
    let a : Agrees l (chip_of ops) = agrees ops in
    omega
    (arith, words_left Second l.taken l.sent a.good.sixteen, holds_left Second l.taken l.sent l.shadows a.queue a.good.holds)

pub to_come_lem : (ops : List Operation) → to_come (chip_of ops) ≡ drop (ledger_of ops).sent (words_of_all Second (ledger_of ops).taken)
to_come_lem ops = come_words 672 (ledger_of ops) (chip_of ops) (agrees ops) ∙ take_all 672 (drop (ledger_of ops).sent (words_of_all Second (ledger_of ops).taken)) (left_few ops)

-- more tries than 672 find no more words: reply 5 has come by then
pub come_enough : (ops : List Operation) (more : ℕ) → come_within (672 + more) (chip_of ops) ≡ to_come (chip_of ops)
come_enough ops more =
    come_words (672 + more) (ledger_of ops) (chip_of ops) (agrees ops)
    ∙ take_all (672 + more) (drop (ledger_of ops).sent (words_of_all Second (ledger_of ops).taken)) (omega (arith, left_few ops))
    ∙ sym (to_come_lem ops)

-- the first of these are sent
pub sent_words_lem : (ops : List Operation) → sent_of ops ≡ take (ledger_of ops).sent (words_of_all Second (ledger_of ops).taken)
unfolding words_of_all
sent_words_lem ops = run_stream ops (reset_at 0) fresh [] fresh_agrees refl

pub word_sum : (ops : List Operation) → sent_of ops ++ to_come (chip_of ops) ≡ words_of_all Second (ledger_of ops).taken
word_sum ops =
    ap₂ (λ (x y : List ℕ). x ++ y) (sent_words_lem ops) (to_come_lem ops)
    ∙ take-append-drop (ledger_of ops).sent (words_of_all Second (ledger_of ops).taken)

-- ---- 3. So their number is 20 for each Trace and 84 for each Resource sample taken

pub word_count : (ops : List Operation) → length (sent_of ops ++ to_come (chip_of ops)) ≡ total_of Second (ledger_of ops).taken
word_count ops = ap length (word_sum ops) ∙ words_total Second (ledger_of ops).taken (agrees ops).good.sixteen

-- ---- 4. The Overrun Counter is the lost triggers since its last clearing, modulo 2^32; the Wait Counter likewise, and the Timestamp modulo 2^56

pub overrun_counts : (ops : List Operation) → (chip_of ops).control.overrun ≡ (ledger_of ops).errors.lost % 2 ^ 32
overrun_counts ops = of_control ops (λ k. k.overrun)

pub wait_counts : (ops : List Operation) → (chip_of ops).control.wait ≡ (ledger_of ops).errors.waits % 2 ^ 32
wait_counts ops = of_control ops (λ k. k.wait)

pub timestamp_counts : (ops : List Operation) → (chip_of ops).stamp ≡ (ledger_of ops).clock % 2 ^ 56
timestamp_counts ops = part ops (λ c. c.stamp)

-- ---- 5. A counter is its last written number plus the events due since, modulo 2^32, and a pair as one number modulo 2^64

pub counter_counts : (ops : List Operation) (j : ℕ) → let vs = (chip_of ops).bank.values in Holding (get_or (ledger_of ops).counts j no_count) (get_or vs (2 * j) 0) (get_or vs (suc (2 * j)) 0)
counter_counts ops j =
    let cs : List Count = (ledger_of ops).counts in
    let c : Count = get_or cs j no_count in
    subst (λ (vs : List ℕ). Holding c (get_or vs (2 * j) 0) (get_or vs (suc (2 * j)) 0)) (sym (part ops (λ x. x.bank.values)))
    (subst (λ (n : ℕ). Holding c n (get_or (flat cs) (suc (2 * j)) 0)) (sym (flat_low cs j))
    (subst (λ (n : ℕ). Holding c (low_of c) n) (sym (flat_high cs j)) (go c)))
  where
    go : (c : Count) → Holding c (low_of c) (high_of c)
    go (apart a b) = (refl, refl)
    go (joined t) = omega arith

-- it is a pair exactly where bit 3 of the even counter's field of the Mode register is set
pub pairing_said : (ops : List Operation) (j : ℕ) → j < 8 → is_joined (get_or (ledger_of ops).counts j no_count) ≡ leb 8 (field_at (chip_of ops).fields.mode (2 * j))
pairing_said ops j h =
    let l : Ledger = ledger_of ops in
    let p = (agrees ops).good.paired in
    p.same j h
    ∙ ap (leb 8)
    (sym
    (ap (λ (n : ℕ). field_at n (2 * j)) (part ops (λ c. c.fields.mode))
    ∙ packed_field (λ k. k.mode) l.controls (2 * j) (rw p.sixteen (omega arith))
    ∙ mod-eq_of_lt (p.small (2 * j) (omega arith))))

-- ---- 6. The three registers hold the fields that the list says; the shadows what was last copied, and the High Order register what it says

pub fields_said : (ops : List Operation) → (chip_of ops).fields ≡ fields_of (ledger_of ops).controls
fields_said ops = part ops (λ c. c.fields)

pub shadows_said : (ops : List Operation) → (chip_of ops).bank.shadows ≡ (ledger_of ops).shadows
shadows_said ops = part ops (λ c. c.bank.shadows)

pub high_said : (ops : List Operation) → (chip_of ops).high ≡ (ledger_of ops).high
high_said ops = part ops (λ c. c.high)

-- ---- 7. Filter, Source Addresses and the node clock's phase too

pub filter_said : (ops : List Operation) → (chip_of ops).control.filter ≡ (ledger_of ops).settings.filter
filter_said ops = of_control ops (λ k. k.filter)

pub sources_said : (ops : List Operation) → (chip_of ops).sources ≡ (ledger_of ops).sources
sources_said ops = part ops (λ c. c.sources)

pub phase_said : (ops : List Operation) → (chip_of ops).phase ≡ (ledger_of ops).nodes % 100
phase_said ops = part ops (λ c. c.phase)

-- ---- 8. Sampling, write wait, read wait and 32-bit mode are what the list's resets and their pairs of CSR bits say

pub sampling_said : (ops : List Operation) → (chip_of ops).control.sampling ≡ sampling_of ops
sampling_said ops =
    of_control ops (λ k. k.sampling)
    ∙ setting_said (λ s w. s.sampling) false 0 (omega arith) refl (λ bits s w. refl) (λ bits s w. sym (lowest_turned bits s.sampling)) ops

pub wait_said : (ops : List Operation) → (chip_of ops).control.writewait ≡ wait_of ops
wait_said ops =
    of_control ops (λ k. k.writewait) ∙ setting_said (λ s w. s.writewait) true 2 (omega arith) refl (λ bits s w. refl) (λ bits s w. refl) ops

pub read_wait_said : (ops : List Operation) → (chip_of ops).control.readwait ≡ read_wait_of ops
read_wait_said ops =
    of_control ops (λ k. k.readwait) ∙ setting_said (λ s w. s.readwait) false 4 (omega arith) refl (λ bits s w. refl) (λ bits s w. refl) ops

pub narrow_said : (ops : List Operation) → (chip_of ops).narrow ≡ narrow_of ops
narrow_said ops = part ops (λ c. c.narrow) ∙ setting_said (λ s w. w) false 14 (omega arith) refl (λ bits s w. refl) (λ bits s w. refl) ops

-- ---- 9. On a list that hasn't asked for discard since its last reset, write wait is set and no trigger is lost next; since then, or since a write at 6 that clears
-- them, none is counted or flagged; there is no lost mark, and no sample taken has it

module _ (ops : List Operation) (e : discard_of ops ≡ false) where
  unlost : Unlost (ledger_of ops)
  unlost = all_leave (λ l b. b ≡ false → Unlost l) discard_after one_unlost ops (reset_at 0) false (λ none. reset_unlost 0) e

  pub waits_unless_asked : (chip_of ops).control.writewait ≡ true
  waits_unless_asked = of_control ops (λ k. k.writewait) ∙ unlost.waits

  pub never_8 : (op : Operation) → eqb (step op (chip_of ops)).number 8 ≡ false
  never_8 op = waiting_never_8 op (chip_of ops) waits_unless_asked

  pub nothing_lost : let k = (chip_of ops).control in (k.overrun ≡ 0) × ((k.flagfull ≡ false) × ((k.flagbusy ≡ false) × (k.lost ≡ false)))
  nothing_lost =
      (overrun_counts ops ∙ ap wrapped unlost.uncounted, (of_control ops (λ k. k.flagfull) ∙ unlost.unflagged.0, (of_control ops (λ k. k.flagbusy) ∙ unlost.unflagged.1, of_control ops (λ k. k.lost) ∙ unlost.unmarked)))

  pub none_marked : Every Unmarked (ledger_of ops).taken
  none_marked = unlost.samples

-- ---- 10. The chip never answers 15

pub always_inside : (ops : List Operation) → inside (chip_of ops) ≡ true
always_inside ops =
    let a : Agrees (ledger_of ops) (chip_of ops) = agrees ops in
    ap inside a.is ∙ for_inside (ledger_of ops) a.queue a.good

pub never_15 : (ops : List Operation) (op : Operation) → eqb (step op (chip_of ops)).number 15 ≡ false
never_15 ops op = inside-never-15 op (chip_of ops) (always_inside ops)

-- ---- 11. And its lists have the lengths and widths that their types give

pub always_shaped : (ops : List Operation) → Shaped (chip_of ops)
unfolding run_from
always_shaped ops = go ops fresh fresh_shaped
  where
    go : (os : List Operation) (c : Chip2) → Shaped c → Shaped (run_from c os)
    go [] c s = s
    go (op ∷ os) c s = go os (step op c).chip (keeps_shaped op c s)

-- ---- Nor do Enable, Mode and Clock Select ever hold a field that no operation can leave

pub always_left : (ops : List Operation) → Leavable (chip_of ops).fields
unfolding run_from
always_left ops = go ops fresh fresh_left
  where
    go : (os : List Operation) (c : Chip2) → Leavable c.fields → Leavable (run_from c os).fields
    go [] c h = h
    go (op ∷ os) c h = go os (step op c).chip (keeps_left op c h)
