-- Wish 8 for the MultiKron II: a trigger that is told to wait is taken after 84 words, or 224, or once nothing is left to send; so single sends alone end the
-- wait. By what each operation in between leaves of the ledger (`Quiet2`), and the law on room. Assumes of the list in between what `Between` says, and nothing of
-- the one before.
use Prim.Native.Nat.{ℕ, ◌+◌, ◌%◌, ◌≤◌, ◌<◌}
use native.Mathlib.Nat.{add-zero, le_trans}
use native.Mathlib.Omega.{arith}
use mathlib.Core.Path.{◌≡◌, refl, sym, ap, ◌∙◌, subst}
use mathlib.Core.Bool.{Bool, true, false, cond, ◌||◌}
use mathlib.Core.List.{List, ◌∷◌, ◌++◌}
use lib.Dec.{eqb, leb}
use lib.ListN.{length, replicate}
use borrow.Author.Tests.{eqb-true, le-leb, lt-leb}
use Rattle.samples.specs.declared.edition.Edition.TheVariants.{Second}
use Rattle.chip2.specs.Operation.{Operation, op_write, op_send, step}
use Rattle.chip2.specs.declared.chip2.Chip2.{Chip2}
use Rattle.history.specs.Ledger.{fate_number, is_set, line_in, was_taken, was_told}
use Rattle.history.specs.Waiting.{Fits}
use Rattle.history.proofs.RoomLaws.{Armed, FirstNot, empty_room, first_not, lacks_left, lacks_in, sends_room, told_why, words_room}
use Rattle.history2.specs.Ledger2.{Ledger, entry_of, ledger_from, ledger_of, left, reset_at, sent_more}
use Rattle.history2.specs.Run2.{chip_of, run_from, sent_of}
use Rattle.history2.specs.Waiting2.{Between, EndsBySends, enough, sent_by, words_in}
use Rattle.history2.proofs.Agrees2.{Agrees}
use Rattle.history2.proofs.Between2.{may_ask}
use Rattle.history2.proofs.Fits2.{always_fits, lacks}
use Rattle.history2.proofs.Quiet2.{Quiet, all_quiet, armed_fate, enough_needed, later_room, ledger_both, one_quiet, sends_agree, sent_length}
use Rattle.history2.proofs.Steps2.{agrees_step, send_number}
use Rattle.history2.proofs.Theorems2.{agrees, fate_said, run_agrees}

-- ---- the wish

-- after any list, let a trigger at one of the trigger addresses, with one active line and any data, be told to wait; then let anything come that may,
-- and no asking be taken
module _ (before : List Operation) (address : ℕ) (from : 96 ≤ address) (upto : address ≤ 127) (bits lines : ℕ) (one : line_in lines < 8) (told : (step (op_write address bits lines) (chip_of before)).number ≡ 10) (between : List Operation) (h : Between address (step (op_write address bits lines) (chip_of before)).chip between) where
  abbrev trigger : Operation
  trigger = op_write address bits lines

  -- the chip that the first asking left, and the one after what came in between
  abbrev asked : Chip2
  asked = (step trigger (chip_of before)).chip

  abbrev now : Chip2
  now = run_from asked between

  abbrev resource : Bool
  resource = leb 112 address

  later : Ledger
  later = ledger_from (entry_of trigger (ledger_of before)).ledger between

  later_agrees : Agrees later now
  unfolding later
  later_agrees = run_agrees between _ asked (agrees_step trigger (ledger_of before) (chip_of before) (agrees before)).agrees

  later_is : ledger_of (before ++ (trigger ∷ between)) ≡ later
  unfolding later ledger_from
  later_is = ledger_both before (trigger ∷ between) (reset_at 0)

  first_armed : Armed (address % 16) (ledger_of before).settings
  first_armed =
      let s = (ledger_of before).settings in
      let why = told_why s.sampling (is_set s.filter (address % 16)) (lacks resource (ledger_of before)) s.writewait (sym (fate_said (ledger_of before) (chip_of before) (agrees before) address bits lines from upto one) ∙ told) in
      (why.0, (why.1.0, why.1.1.0))

  since : Quiet (ledger_of before) later (words_in asked between)
  unfolding later sent_by
  since =
      let x =
      one_quiet address from upto (ledger_of before) (chip_of before) (agrees before) first_armed trigger (may_ask address bits lines)
      (λ bits' lines' e. subst (λ (o : Operation). eqb (step o (chip_of before)).number 0 ≡ false) e (ap (λ (n : ℕ). eqb n 0) told)) in
      let y =
      all_quiet address from upto between (entry_of trigger (ledger_of before)).ledger asked (agrees_step trigger (ledger_of before) (chip_of before) (agrees before)).agrees (subst (Armed (address % 16)) (sym x.0) first_armed) h in
      (y.0 ∙ x.0, (y.1.0 ∙ x.1.0, omega (arith, x.1.1, y.1.1)))

  armed : Armed (address % 16) later.settings
  armed = subst (Armed (address % 16)) (sym since.0) first_armed

  -- 10 or 0, by room
  answer : Bool → ℕ
  answer b = fate_number (cond b was_told was_taken)

  by_room : (l : Ledger) (c : Chip2) → Agrees l c → Armed (address % 16) l.settings → (bits lines : ℕ) → line_in lines < 8 → (step (op_write address bits lines) c).number ≡ answer (lacks resource l)
  unfolding answer
  by_room l c a s bits' lines' one' = fate_said l c a address bits' lines' from upto one' ∙ ap fate_number (armed_fate resource (address % 16) l s)

  has_room : lacks resource later ≡ false → (bits lines : ℕ) → line_in lines < 8 → (step (op_write address bits lines) now).number ≡ 0
  unfolding answer
  has_room room bits' lines' one' = by_room later now later_agrees armed bits' lines' one' ∙ ap answer room

  words_end : enough resource ≤ words_in asked between → (bits lines : ℕ) → line_in lines < 8 → (step (op_write address bits lines) now).number ≡ 0
  words_end few =
      has_room
      (later_room resource (ledger_of before) later (words_in asked between) since
      ∙ words_room Second resource (ledger_of before).taken (ledger_of before).sent (words_in asked between) (always_fits before) (le_trans (enough_needed resource) few))

  -- "A Trace trigger is taken at the latest after" 84 "words have been sent": asked by any one line, with any data
  pub trace_ends : address ≤ 111 → 84 ≤ words_in asked between → (bits lines : ℕ) → line_in lines < 8 → (step (op_write address bits lines) now).number ≡ 0
  trace_ends kind few = words_end (subst (λ (b : Bool). enough b ≤ words_in asked between) (sym (lt-leb 112 address (omega arith))) (omega arith))

  -- "a Resource trigger after" 224 "words"
  pub resource_ends : 112 ≤ address → 224 ≤ words_in asked between → (bits lines : ℕ) → line_in lines < 8 → (step (op_write address bits lines) now).number ≡ 0
  resource_ends kind few = words_end (subst (λ (b : Bool). enough b ≤ words_in asked between) (sym (le-leb 112 address kind)) (omega arith))

  -- "or once nothing is left to send", of either
  pub empty_ends : (step op_send now).number ≡ 5 → (bits lines : ℕ) → line_in lines < 8 → (step (op_write address bits lines) now).number ≡ 0
  empty_ends e = has_room (empty_room Second resource later.taken later.sent (five (eqb (left later) 0) refl (sym (send_number later now later_agrees) ∙ e)))
    where
      five : (b : Bool) → eqb (left later) 0 ≡ b → ◌≡◌ {A = ℕ} (cond b 5 0) 5 → left later ≡ 0
      five true t n = eqb-true (left later) 0 t
      five false t n = absurd (omega arith)

  -- asked at any time it waits or is taken: it is neither off nor filtered nor lost
  pub waits_or_taken : (bits lines : ℕ) → line_in lines < 8 → let n = (step (op_write address bits lines) now).number in (eqb n 10 || eqb n 0) ≡ true
  unfolding answer
  waits_or_taken bits' lines' one' = ap (λ (n : ℕ). eqb n 10 || eqb n 0) (by_room later now later_agrees armed bits' lines' one') ∙ go (lacks resource later)
    where
      go : (b : Bool) → (eqb (answer b) 10 || eqb (answer b) 0) ≡ true
      go true = refl
      go false = refl

  -- the words are counted a second time, by the chip's whole stream
  pub words_counted : length (sent_of (before ++ (trigger ∷ between))) ≡ length (sent_of before) + words_in asked between
  words_counted =
      sent_length (before ++ (trigger ∷ between)) ∙ ap (λ (l : Ledger). l.sent) later_is ∙ since.1.1 ∙ ap (λ (n : ℕ). n + words_in asked between) (sym (sent_length before))

  -- ---- single sends alone

  -- where it is told to wait there is a word to send, and so there is after that asking
  pub word_to_send : (bits lines : ℕ) → line_in lines < 8 → (step (op_write address bits lines) now).number ≡ 10 → ((step op_send now).number ≡ 0) × ((step op_send (step (op_write address bits lines) now).chip).number ≡ 0)
  unfolding answer sent_by
  word_to_send bits' lines' one' e =
      let full : lacks resource later ≡ true = ten (lacks resource later) (sym (by_room later now later_agrees armed bits' lines' one') ∙ e) in
      let again : Operation = op_write address bits' lines' in
      let x =
      one_quiet address from upto later now later_agrees armed again (may_ask address bits' lines')
      (λ b l is. subst (λ (o : Operation). eqb (step o now).number 0 ≡ false) is (ap (λ (n : ℕ). eqb n 0) e)) in
      (send_done later now later_agrees full, send_done (entry_of again later).ledger (step again now).chip (agrees_step again later now later_agrees).agrees (later_room resource later (entry_of again later).ledger 0 x ∙ ap (lacks_in Second resource later.taken) (add-zero later.sent) ∙ full))
    where
      ten : (b : Bool) → answer b ≡ 10 → b ≡ true
      ten true n = refl
      ten false n = absurd (omega arith)

      send_done : (l : Ledger) (c : Chip2) → Agrees l c → lacks resource l ≡ true → (step op_send c).number ≡ 0
      send_done l c a t = send_number l c a ∙ ap (λ (b : Bool). cond b 5 0) (lacks_left Second resource l.taken l.sent t)

  -- how many single sends make room
  until : FirstNot (λ j. lacks resource (sent_more j later)) (enough resource)
  until =
      first_not (enough resource) _
      (sends_room Second resource later.taken later.sent (enough resource) (enough_needed resource) (subst (λ (l : Ledger). Fits Second 8 1 l.taken l.sent) later_is (always_fits (before ++ (trigger ∷ between)))))

  -- from any time on single sends alone end the wait
  pub sends_end : (bits lines : ℕ) → line_in lines < 8 → EndsBySends (op_write address bits lines) now
  unfolding answer
  sends_end bits' lines' one' =
      record {
        sends = until.at;
        waits = λ j h. asking j ∙ ap answer (until.before j h);
        sending = λ j h. send_number (sent_more j later) _ (after j) ∙ ap (λ (b : Bool). cond b 5 0) (lacks_left Second resource (sent_more j later).taken (sent_more j later).sent (until.before j h));
        taken = asking until.at ∙ ap answer until.here;
      }
    where
      after : (j : ℕ) → Agrees (sent_more j later) (run_from now (replicate j op_send))
      after j = sends_agree j later now later_agrees

      asking : (j : ℕ) → (step (op_write address bits' lines') (run_from now (replicate j op_send))).number ≡ answer (lacks resource (sent_more j later))
      asking j = by_room (sent_more j later) _ (after j) armed bits' lines' one'

  -- 84 of them at most for a Trace trigger, 224 for a Resource trigger
  pub trace_sends : (bits lines : ℕ) (one : line_in lines < 8) → address ≤ 111 → (sends_end bits lines one).sends ≤ 84
  unfolding sends_end
  trace_sends bits' lines' one' kind = subst (λ (b : Bool). until.at ≤ enough b) (lt-leb 112 address (omega arith)) until.upto

  pub resource_sends : (bits lines : ℕ) (one : line_in lines < 8) → 112 ≤ address → (sends_end bits lines one).sends ≤ 224
  unfolding sends_end
  resource_sends bits' lines' one' kind = subst (λ (b : Bool). until.at ≤ enough b) (le-leb 112 address kind) until.upto
