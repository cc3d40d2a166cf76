-- Wish 8: a trigger that is told to wait is taken after 80 words, or 192, or once nothing is left to send; so single sends alone end the wait. By what
-- each operation in between leaves of the ledger, and the law on room. Assumes of the list in between what `Between` says, and nothing of the one before.
use Prim.Native.Nat.{ℕ, zero, suc, ◌+◌, ◌-◌, ◌%◌, ◌≤◌, ◌<◌, min}
use native.Mathlib.Nat.{add-zero, le_trans, suc-ne-zero}
use native.Mathlib.Omega.{arith}
use mathlib.Core.Path.{◌≡◌, refl, sym, ap, ap₂, ◌∙◌, subst}
use mathlib.Core.Bool.{Bool, true, false, cond, not, ◌||◌, false≢true}
use mathlib.Core.List.{List, [], ◌∷◌, ◌++◌}
use lib.Dec.{eqb, leb}
use lib.ListN.{length, drop, get_or, replicate}
use lib.Seq.{length-take-le}
use borrow.Author.Tests.{eqb-true, eqb-false, eq-eqb, le-leb, lt-leb}
use Rattle.samples.specs.declared.edition.Edition.TheVariants.{First}
use Rattle.chip.specs.Operation.{Operation, op_reset, op_write, op_read, op_ticks, op_nodes, op_events, op_send, op_fill, step}
use Rattle.chip.specs.Place.{place_of, register_of}
use Rattle.chip.specs.declared.chip.Chip.{Chip}
use Rattle.chip.proofs.AddressLaws.{place_test}
use Rattle.chip.proofs.Refusals.{when_waiting}
use Rattle.history.specs.Ledger.{Fate, Ledger, after_fate, after_one, entry_of, fate_in, fate_number, is_set, ledger_from, ledger_of, left, line_in, reset_at, sent_more, was_taken, was_told, with_stream}
use Rattle.history.specs.Run.{chip_of, run_from, sent_of}
use Rattle.history.specs.Stream.{total_of, words_of_all}
use Rattle.history.specs.Waiting.{Between, EndsBySends, Fits, barred, enough, leaves_alone, matters_to, may_come, sent_by, waited_more, words_in}
use Rattle.history.proofs.Agrees.{Agrees}
use Rattle.history.proofs.HeldLaws.{words_total}
use Rattle.history.proofs.Leaves.{other_leaves, read_leaves}
use Rattle.history.proofs.RoomLaws.{Armed, FirstNot, empty_room, first_not, lacks_left, lacks_in, needed, not_barred, quiet_write, sends_room, told_why, words_room}
use Rattle.history.proofs.Fits.{always_fits, lacks}
use Rattle.history.proofs.Steps.{agrees_step, send_leaves, send_number}
use Rattle.history.proofs.Theorems.{agrees, fate_said, run_agrees, sent_words_lem}
use Rattle.history.proofs.Triggers.{fate_by, or_true}

-- ---- a trigger that waits

-- with the settings for it, it is told to wait or taken, by room
armed_fate : (resource : Bool) (level : ℕ) (l : Ledger) → Armed level l.settings → fate_in resource level l ≡ cond (lacks resource l) was_told was_taken
armed_fate resource level l a = λ i. fate_by (a.0 i) (a.1.0 i) (lacks resource l) (a.1.1 i)

-- the same settings and samples, and so many words more sent
abbrev Quiet : Ledger → Ledger → ℕ → Type 0
Quiet l m k = (m.settings ≡ l.settings) × ((m.taken ≡ l.taken) × (m.sent ≡ l.sent + k))

-- the trigger itself may be asked again
pub may_ask : (address bits lines : ℕ) → may_come address (op_write address bits lines) ≡ true
unfolding after_one
may_ask a bits lines = ap (λ (b : Bool). b || not (barred a)) (eq-eqb a a refl)

-- the words that a single send counts
send_counts : (l : Ledger) (c : Chip) → Agrees l c → cond (eqb (step op_send c).number 0) 1 0 ≡ min 1 (left l)
send_counts l c a = ap (λ (n : ℕ). cond (eqb n 0) 1 0) (send_number l c a) ∙ go (eqb (left l) 0) refl
  where
    go : (b : Bool) → eqb (left l) 0 ≡ b → cond (eqb (cond b 5 0) 0) 1 0 ≡ min 1 (left l)
    go true e = omega (arith, eqb-true (left l) 0 e)
    go false e = let f : left l ≡ 0 → ⊥ = eqb-false (left l) 0 e in omega arith

-- the trigger at an address, on a ledger and a chip that agree, with the settings under which it waits or is taken
module _ (address : ℕ) (from : 96 ≤ address) (upto : address ≤ 127) (l : Ledger) (c : Chip) (agree : Agrees l c) (armed : Armed (address % 16) l.settings) where
  none : Quiet l l 0
  none = (refl, (refl, sym (add-zero l.sent)))

  -- asked again, and not taken, it changes neither settings nor samples nor words sent
  asked_quiet : (bits lines : ℕ) → line_in lines < 8 → eqb (step (op_write address bits lines) c).number 0 ≡ false → Quiet l (after_fate (fate_in (leb 112 address) (address % 16) l) (leb 112 address) (line_in lines) bits l) 0
  unfolding after_fate
  asked_quiet bits lines one un = go (lacks r l) (armed_fate r (address % 16) l armed)
    where
      r : Bool
      r = leb 112 address

      go : (b : Bool) → fate_in r (address % 16) l ≡ cond b was_told was_taken → Quiet l (after_fate (fate_in r (address % 16) l) r (line_in lines) bits l) 0
      go true e = subst (λ (f : Fate). Quiet l (after_fate f r (line_in lines) bits l) 0) (sym e) (refl, (refl, sym (add-zero l.sent)))
      go false e = absurd (false≢true (sym un ∙ eq-eqb _ 0 (fate_said l c agree address bits lines from upto one ∙ ap fate_number e)))

  one_quiet : (op : Operation) → may_come address op ≡ true → ((bits lines : ℕ) → op ≡ op_write address bits lines → eqb (step (op_write address bits lines) c).number 0 ≡ false) → Quiet l (entry_of op l).ledger (sent_by op c)
  unfolding after_one entry_of sent_by
  one_quiet (op_reset hundredth) may un = absurd (false≢true may)
  one_quiet (op_write a bits lines) may un =
      let not-these = quiet_write address a from may in
      other_leaves (λ m b. Quiet l m 0) l false none bits none none (λ g. none) (λ xs. none) a lines not-these.0 not-these.1.0
      (λ e. absurd (false≢true (sym not-these.1.1.0 ∙ e)))
      (λ x y one.
      let is : a ≡ address = not-these.1.1.1 x y in
      subst (λ (i : ℕ). Quiet l (after_fate (fate_in (leb 112 i) (i % 16) l) (leb 112 i) (line_in lines) bits l) 0) (sym is)
      (asked_quiet bits lines one (un bits lines (ap (λ (i : ℕ). op_write i bits lines) is))))
  one_quiet (op_read a) may un = read_leaves (λ m b. Quiet l m 0) l false none a none
  one_quiet (op_ticks k) may un = none
  one_quiet (op_nodes k) may un = none
  one_quiet (op_events mask) may un = none
  one_quiet op_send may un =
      subst (λ (m : Ledger). Quiet l m (cond (eqb (step op_send c).number 0) 1 0)) (sym (send_leaves l))
      (refl, (refl, ap (λ (x : ℕ). l.sent + x) (sym (send_counts l c agree))))
  one_quiet (op_fill room) may un = (refl, (refl, ap (λ (x : ℕ). l.sent + x) (sym (agrees_step (op_fill room) l c agree).value)))

-- and a list of such operations
all_quiet : (address : ℕ) → 96 ≤ address → address ≤ 127 → (ops : List Operation) (l : Ledger) (c : Chip) → Agrees l c → Armed (address % 16) l.settings → Between address c ops → Quiet l (ledger_from l ops) (words_in c ops)
unfolding ledger_from words_in run_from
all_quiet address from upto [] l c a armed h = (refl, (refl, sym (add-zero l.sent)))
all_quiet address from upto (op ∷ ops) l c a armed h =
    let x = one_quiet address from upto l c a armed op (h.quiet [] ops op refl) (λ bits lines e. h.untaken [] ops bits lines (ap (λ (o : Operation). o ∷ ops) e)) in
    let y =
    all_quiet address from upto ops (entry_of op l).ledger (step op c).chip (agrees_step op l c a).agrees (subst (Armed (address % 16)) (sym x.0) armed)
    (record {
      quiet = λ first rest o e. h.quiet (op ∷ first) rest o (ap (λ (os : List Operation). op ∷ os) e);
      untaken = λ first rest bits lines e. h.untaken (op ∷ first) rest bits lines (ap (λ (os : List Operation). op ∷ os) e);
    }) in
    (y.0 ∙ x.0, (y.1.0 ∙ x.1.0, omega (arith, x.1.1, y.1.1)))

-- ---- room on the ledger

-- "80 words", "192 words": the law's
enough_needed : (resource : Bool) → needed First resource ≤ enough resource
enough_needed true = omega arith
enough_needed false = omega arith

-- with the same samples and so many words more
later_room : (resource : Bool) (l m : Ledger) (k : ℕ) → Quiet l m k → lacks resource m ≡ lacks_in First resource l.taken (l.sent + k)
later_room resource l m k since = ap₂ (lacks_in First resource) since.1.0 since.1.1

-- ---- lists of operations

-- one list behind another
ledger_both : (before after : List Operation) (l : Ledger) → ledger_from l (before ++ after) ≡ ledger_from (ledger_from l before) after
unfolding ledger_from
ledger_both [] after l = refl
ledger_both (op ∷ before) after l = ledger_both before after (entry_of op l).ledger

-- the words that the chip sent since the last reset are as many as the ledger says
sent_length : (ops : List Operation) → length (sent_of ops) ≡ (ledger_of ops).sent
sent_length ops =
    let l : Ledger = ledger_of ops in
    ap length (sent_words_lem ops)
    ∙ length-take-le l.sent (words_of_all First l.taken) (subst (λ (n : ℕ). l.sent ≤ n) (sym (words_total First l.taken (agrees ops).good.sixteen)) (always_fits ops).1.1)

-- j single sends are as one of j words
sends_leave : (j : ℕ) (l : Ledger) → ledger_from l (replicate j op_send) ≡ sent_more j l
unfolding ledger_from
sends_leave zero l = let none : l.sent ≡ l.sent + min 0 (left l) = omega arith in ap (λ (n : ℕ). with_stream l.taken n l) none
sends_leave (suc j) l =
    let all : l.sent + min 1 (left l) + min j (total_of First l.taken - (l.sent + min 1 (left l))) ≡ l.sent + min (suc j) (left l) = omega arith in
    ap (λ (m : Ledger). ledger_from m (replicate j op_send)) (send_leaves l) ∙ sends_leave j (sent_more 1 l) ∙ ap (λ (n : ℕ). with_stream l.taken n l) all

sends_agree : (j : ℕ) (l : Ledger) (c : Chip) → Agrees l c → Agrees (sent_more j l) (run_from c (replicate j op_send))
sends_agree j l c a = subst (λ (m : Ledger). Agrees m (run_from c (replicate j op_send))) (sends_leave j l) (run_agrees (replicate j op_send) l c a)

-- ---- what may come in between, and what asking again does

-- a write may come where the chip finds nothing at its address that matters to a trigger, or the trigger itself; of the others all but a reset
pub may_said : (address : ℕ) (op : Operation) → may_come address op ≡ leaves_alone address op
unfolding after_one place_of register_of
may_said address (op_reset hundredth) = refl
may_said address (op_write a bits lines) =
    ap (λ (b : Bool). eqb a address || not b) (sym (place_test matters_to barred refl refl (λ x beyond. not_barred x (λ z. omega arith) (λ z. omega arith) (λ z. omega arith) (λ p q. omega arith)) a))
may_said address (op_read a) = refl
may_said address (op_ticks k) = refl
may_said address (op_nodes k) = refl
may_said address (op_events mask) = refl
may_said address op_send = refl
may_said address (op_fill room) = refl

-- and so in plain words: any write may come but at 0, 1, 4 and from 96 to 127, and any read, ticks, events and sends
pub may_write : (address a bits lines : ℕ) → (a ≡ 0 → ⊥) → (a ≡ 1 → ⊥) → (a ≡ 4 → ⊥) → (96 ≤ a → a ≤ 127 → ⊥) → may_come address (op_write a bits lines) ≡ true
unfolding after_one
may_write address a bits lines n0 n1 n4 outside =
    ap (λ (b : Bool). eqb a address || not b) (not_barred a n0 n1 n4 outside) ∙ or_true (eqb a address)

pub may_others : (address : ℕ) → ((a : ℕ) → may_come address (op_read a) ≡ true) × (((k : ℕ) → may_come address (op_ticks k) ≡ true) × (((k : ℕ) → may_come address (op_nodes k) ≡ true) × (((mask : ℕ) → may_come address (op_events mask) ≡ true) × ((may_come address op_send ≡ true) × ((room : ℕ) → may_come address (op_fill room) ≡ true)))))
unfolding after_one
may_others address = (λ a. refl, (λ k. refl, (λ k. refl, (λ mask. refl, (refl, λ room. refl)))))

-- what came in between, one operation after the other: it may come, and where it is the trigger asked again, it is not taken
nothing_stands : (first rest : List Operation) (op : Operation) → ◌≡◌ {A = List Operation} [] (first ++ (op ∷ rest)) → ⊥
nothing_stands [] rest op e = suc-ne-zero _ (sym (ap length e))
nothing_stands (x ∷ first) rest op e = suc-ne-zero _ (sym (ap length e))

pub between_none : (address : ℕ) (c : Chip) → Between address c []
between_none address c =
    record { quiet = λ first rest op e. absurd (nothing_stands first rest op e); untaken = λ first rest bits lines e. absurd (nothing_stands first rest _ e) }

pub between_next : (address : ℕ) (c : Chip) (op : Operation) (ops : List Operation) → may_come address op ≡ true → ((bits lines : ℕ) → op ≡ op_write address bits lines → eqb (step op c).number 0 ≡ false) → Between address (step op c).chip ops → Between address c (op ∷ ops)
unfolding run_from
between_next address c op ops may un h = record { quiet = quiet; untaken = untaken }
  where
    quiet : (first rest : List Operation) (o : Operation) → op ∷ ops ≡ first ++ (o ∷ rest) → may_come address o ≡ true
    quiet [] rest o e = subst (λ (x : Operation). may_come address x ≡ true) (ap (λ (os : List Operation). get_or os 0 op) e) may
    quiet (x ∷ first) rest o e = h.quiet first rest o (ap (drop 1) e)

    untaken : (first rest : List Operation) (bits lines : ℕ) → op ∷ ops ≡ first ++ (op_write address bits lines ∷ rest) → eqb (step (op_write address bits lines) (run_from c first)).number 0 ≡ false
    untaken [] rest bits lines e =
        let is : op ≡ op_write address bits lines = ap (λ (os : List Operation). get_or os 0 op) e in
        subst (λ (x : Operation). eqb (step x c).number 0 ≡ false) is (un bits lines is)
    untaken (x ∷ first) rest bits lines e =
        subst (λ (y : Operation). eqb (step (op_write address bits lines) (run_from (step y c).chip first)).number 0 ≡ false) (ap (λ (os : List Operation). get_or os 0 op) e)
        (h.untaken first rest bits lines (ap (drop 1) e))

-- answered 10, whatever asked changed nothing but the Wait Counter
pub asked_again : (op : Operation) (c : Chip) → (step op c).number ≡ 10 → (step op c).chip ≡ waited_more c
asked_again op c e = (when_waiting op c e).1

-- the sends that end a wait are always as many
pub ends_once : (trigger : Operation) (c : Chip) (x y : EndsBySends trigger c) → x.sends ≡ y.sends
ends_once trigger c x y =
    let a : x.sends < y.sends → ⊥ = λ h. clash (sym x.taken ∙ y.waits x.sends h) in
    let b : y.sends < x.sends → ⊥ = λ h. clash (sym y.taken ∙ x.waits y.sends h) in
    omega arith
  where
    clash : ◌≡◌ {A = ℕ} 0 10 → ⊥
    clash e = omega arith

-- ---- the wish

-- after any list, let a trigger at one of the trigger addresses, with one active line and any data, be told to wait; then let anything come that may,
-- and no asking be taken
module _ (before : List Operation) (address : ℕ) (from : 96 ≤ address) (upto : address ≤ 127) (bits lines : ℕ) (one : line_in lines < 8) (told : (step (op_write address bits lines) (chip_of before)).number ≡ 10) (between : List Operation) (h : Between address (step (op_write address bits lines) (chip_of before)).chip between) where
  abbrev trigger : Operation
  trigger = op_write address bits lines

  -- the chip that the first asking left, and the one after what came in between
  abbrev asked : Chip
  asked = (step trigger (chip_of before)).chip

  abbrev now : Chip
  now = run_from asked between

  abbrev resource : Bool
  resource = leb 112 address

  later : Ledger
  later = ledger_from (entry_of trigger (ledger_of before)).ledger between

  later_agrees : Agrees later now
  unfolding later
  later_agrees = run_agrees between _ asked (agrees_step trigger (ledger_of before) (chip_of before) (agrees before)).agrees

  later_is : ledger_of (before ++ (trigger ∷ between)) ≡ later
  unfolding later ledger_from
  later_is = ledger_both before (trigger ∷ between) (reset_at 0 false)

  first_armed : Armed (address % 16) (ledger_of before).settings
  first_armed =
      let s = (ledger_of before).settings in
      let why = told_why s.sampling (is_set s.filter (address % 16)) (lacks resource (ledger_of before)) s.writewait (sym (fate_said (ledger_of before) (chip_of before) (agrees before) address bits lines from upto one) ∙ told) in
      (why.0, (why.1.0, why.1.1.0))

  since : Quiet (ledger_of before) later (words_in asked between)
  unfolding later sent_by
  since =
      let x =
      one_quiet address from upto (ledger_of before) (chip_of before) (agrees before) first_armed trigger (may_ask address bits lines)
      (λ bits' lines' e. subst (λ (o : Operation). eqb (step o (chip_of before)).number 0 ≡ false) e (ap (λ (n : ℕ). eqb n 0) told)) in
      let y =
      all_quiet address from upto between (entry_of trigger (ledger_of before)).ledger asked (agrees_step trigger (ledger_of before) (chip_of before) (agrees before)).agrees (subst (Armed (address % 16)) (sym x.0) first_armed) h in
      (y.0 ∙ x.0, (y.1.0 ∙ x.1.0, omega (arith, x.1.1, y.1.1)))

  armed : Armed (address % 16) later.settings
  armed = subst (Armed (address % 16)) (sym since.0) first_armed

  -- 10 or 0, by room
  answer : Bool → ℕ
  answer b = fate_number (cond b was_told was_taken)

  by_room : (l : Ledger) (c : Chip) → Agrees l c → Armed (address % 16) l.settings → (bits lines : ℕ) → line_in lines < 8 → (step (op_write address bits lines) c).number ≡ answer (lacks resource l)
  unfolding answer
  by_room l c a s bits' lines' one' = fate_said l c a address bits' lines' from upto one' ∙ ap fate_number (armed_fate resource (address % 16) l s)

  has_room : lacks resource later ≡ false → (bits lines : ℕ) → line_in lines < 8 → (step (op_write address bits lines) now).number ≡ 0
  unfolding answer
  has_room room bits' lines' one' = by_room later now later_agrees armed bits' lines' one' ∙ ap answer room

  words_end : enough resource ≤ words_in asked between → (bits lines : ℕ) → line_in lines < 8 → (step (op_write address bits lines) now).number ≡ 0
  words_end few =
      has_room
      (later_room resource (ledger_of before) later (words_in asked between) since
      ∙ words_room First resource (ledger_of before).taken (ledger_of before).sent (words_in asked between) (always_fits before) (le_trans (enough_needed resource) few))

  -- "A Trace trigger is taken at the latest after 80 words have been sent": asked by any one line, with any data
  pub trace_ends : address ≤ 111 → 80 ≤ words_in asked between → (bits lines : ℕ) → line_in lines < 8 → (step (op_write address bits lines) now).number ≡ 0
  trace_ends kind few = words_end (subst (λ (b : Bool). enough b ≤ words_in asked between) (sym (lt-leb 112 address (omega arith))) (omega arith))

  -- "a Resource trigger after 192 words"
  pub resource_ends : 112 ≤ address → 192 ≤ words_in asked between → (bits lines : ℕ) → line_in lines < 8 → (step (op_write address bits lines) now).number ≡ 0
  resource_ends kind few = words_end (subst (λ (b : Bool). enough b ≤ words_in asked between) (sym (le-leb 112 address kind)) (omega arith))

  -- "or once nothing is left to send", of either
  pub empty_ends : (step op_send now).number ≡ 5 → (bits lines : ℕ) → line_in lines < 8 → (step (op_write address bits lines) now).number ≡ 0
  empty_ends e = has_room (empty_room First resource later.taken later.sent (five (eqb (left later) 0) refl (sym (send_number later now later_agrees) ∙ e)))
    where
      five : (b : Bool) → eqb (left later) 0 ≡ b → ◌≡◌ {A = ℕ} (cond b 5 0) 5 → left later ≡ 0
      five true t n = eqb-true (left later) 0 t
      five false t n = absurd (omega arith)

  -- asked at any time it waits or is taken: it is neither off nor filtered nor lost
  pub waits_or_taken : (bits lines : ℕ) → line_in lines < 8 → let n = (step (op_write address bits lines) now).number in (eqb n 10 || eqb n 0) ≡ true
  unfolding answer
  waits_or_taken bits' lines' one' = ap (λ (n : ℕ). eqb n 10 || eqb n 0) (by_room later now later_agrees armed bits' lines' one') ∙ go (lacks resource later)
    where
      go : (b : Bool) → (eqb (answer b) 10 || eqb (answer b) 0) ≡ true
      go true = refl
      go false = refl

  -- the words are counted a second time, by the chip's whole stream
  pub words_counted : length (sent_of (before ++ (trigger ∷ between))) ≡ length (sent_of before) + words_in asked between
  words_counted =
      sent_length (before ++ (trigger ∷ between)) ∙ ap (λ (l : Ledger). l.sent) later_is ∙ since.1.1 ∙ ap (λ (n : ℕ). n + words_in asked between) (sym (sent_length before))

  -- ---- single sends alone

  -- where it is told to wait there is a word to send, and so there is after that asking
  pub word_to_send : (bits lines : ℕ) → line_in lines < 8 → (step (op_write address bits lines) now).number ≡ 10 → ((step op_send now).number ≡ 0) × ((step op_send (step (op_write address bits lines) now).chip).number ≡ 0)
  unfolding answer sent_by
  word_to_send bits' lines' one' e =
      let full : lacks resource later ≡ true = ten (lacks resource later) (sym (by_room later now later_agrees armed bits' lines' one') ∙ e) in
      let again : Operation = op_write address bits' lines' in
      let x =
      one_quiet address from upto later now later_agrees armed again (may_ask address bits' lines')
      (λ b l is. subst (λ (o : Operation). eqb (step o now).number 0 ≡ false) is (ap (λ (n : ℕ). eqb n 0) e)) in
      (send_done later now later_agrees full, send_done (entry_of again later).ledger (step again now).chip (agrees_step again later now later_agrees).agrees (later_room resource later (entry_of again later).ledger 0 x ∙ ap (lacks_in First resource later.taken) (add-zero later.sent) ∙ full))
    where
      ten : (b : Bool) → answer b ≡ 10 → b ≡ true
      ten true n = refl
      ten false n = absurd (omega arith)

      send_done : (l : Ledger) (c : Chip) → Agrees l c → lacks resource l ≡ true → (step op_send c).number ≡ 0
      send_done l c a t = send_number l c a ∙ ap (λ (b : Bool). cond b 5 0) (lacks_left First resource l.taken l.sent t)

  -- how many single sends make room
  until : FirstNot (λ j. lacks resource (sent_more j later)) (enough resource)
  until =
      first_not (enough resource) _
      (sends_room First resource later.taken later.sent (enough resource) (enough_needed resource) (subst (λ (l : Ledger). Fits First 8 1 l.taken l.sent) later_is (always_fits (before ++ (trigger ∷ between)))))

  -- from any time on single sends alone end the wait
  pub sends_end : (bits lines : ℕ) → line_in lines < 8 → EndsBySends (op_write address bits lines) now
  unfolding answer
  sends_end bits' lines' one' =
      record {
        sends = until.at;
        waits = λ j h. asking j ∙ ap answer (until.before j h);
        sending = λ j h. send_number (sent_more j later) _ (after j) ∙ ap (λ (b : Bool). cond b 5 0) (lacks_left First resource (sent_more j later).taken (sent_more j later).sent (until.before j h));
        taken = asking until.at ∙ ap answer until.here;
      }
    where
      after : (j : ℕ) → Agrees (sent_more j later) (run_from now (replicate j op_send))
      after j = sends_agree j later now later_agrees

      asking : (j : ℕ) → (step (op_write address bits' lines') (run_from now (replicate j op_send))).number ≡ answer (lacks resource (sent_more j later))
      asking j = by_room (sent_more j later) _ (after j) armed bits' lines' one'

  -- 80 of them at most for a Trace trigger, 192 for a Resource trigger
  pub trace_sends : (bits lines : ℕ) (one : line_in lines < 8) → address ≤ 111 → (sends_end bits lines one).sends ≤ 80
  unfolding sends_end
  trace_sends bits' lines' one' kind = subst (λ (b : Bool). until.at ≤ enough b) (lt-leb 112 address (omega arith)) until.upto

  pub resource_sends : (bits lines : ℕ) (one : line_in lines < 8) → 112 ≤ address → (sends_end bits lines one).sends ≤ 192
  unfolding sends_end
  resource_sends bits' lines' one' kind = subst (λ (b : Bool). until.at ≤ enough b) (le-leb 112 address kind) until.upto
