-- While a trigger of the MultiKron II waits, what may come in between leaves settings and samples, and sends so many words more; so many words make room. By what
-- each operation leaves of the ledger, and the laws on room over the edition. Assumes of the list in between what `Between` says.
use Prim.Native.Nat.{ℕ, zero, suc, ◌+◌, ◌-◌, ◌%◌, ◌≤◌, ◌<◌, min}
use native.Mathlib.Nat.{add-zero}
use native.Mathlib.Omega.{arith}
use mathlib.Core.Path.{◌≡◌, refl, sym, ap, ap₂, ◌∙◌, subst}
use mathlib.Core.Bool.{Bool, true, false, cond, false≢true}
use mathlib.Core.List.{List, [], ◌∷◌, ◌++◌}
use lib.Dec.{eqb, leb}
use lib.ListN.{length, replicate}
use lib.Seq.{length-take-le}
use borrow.Author.Tests.{eqb-true, eqb-false, eq-eqb}
use Rattle.samples.specs.declared.edition.Edition.TheVariants.{Second}
use Rattle.chip2.specs.Operation.{Operation, op_reset, op_write, op_read, op_ticks, op_nodes, op_events, op_send, op_fill, step}
use Rattle.chip2.specs.declared.chip2.Chip2.{Chip2}
use Rattle.history.specs.Ledger.{Fate, fate_number, line_in, was_taken, was_told}
use Rattle.history.specs.Stream.{total_of, unsent_of, words_of_all}
use Rattle.history.specs.Waiting.{count_of, lacks_at, slowest}
use Rattle.history.proofs.HeldLaws.{words_total}
use Rattle.history.proofs.RoomLaws.{Armed, lacks_in, needed, quiet_write}
use Rattle.history.proofs.Triggers.{fate_by}
use Rattle.history2.specs.Ledger2.{Ledger, after_fate, data_in, entry_of, fate_in, ledger_from, ledger_of, left, sent_more, with_stream}
use Rattle.history2.specs.Run2.{run_from, sent_of}
use Rattle.history2.specs.Waiting2.{Between, enough, may_come, sent_by, words_in}
use Rattle.history2.specs.Walk2.{after_one}
use Rattle.history2.proofs.Agrees2.{Agrees}
use Rattle.history2.proofs.Fits2.{always_fits, lacks}
use Rattle.history2.proofs.Leaves2.{Kin, kin, other_leaves, read_leaves}
use Rattle.history2.proofs.Steps2.{agrees_step, send_leaves, send_number}
use Rattle.history2.proofs.Theorems2.{agrees, fate_said, run_agrees, sent_words_lem}

-- ---- a trigger that waits

-- with the settings for it, it is told to wait or taken, by room
pub armed_fate : (resource : Bool) (level : ℕ) (l : Ledger) → Armed level l.settings → fate_in resource level l ≡ cond (lacks resource l) was_told was_taken
armed_fate resource level l a = λ i. fate_by (a.0 i) (a.1.0 i) (lacks resource l) (a.1.1 i)

-- the same settings and samples, and so many words more sent
abbrev pub Quiet : Ledger → Ledger → ℕ → Type 0
Quiet l m k = (m.settings ≡ l.settings) × ((m.taken ≡ l.taken) × (m.sent ≡ l.sent + k))

-- the words that a single send counts
send_counts : (l : Ledger) (c : Chip2) → Agrees l c → cond (eqb (step op_send c).number 0) 1 0 ≡ min 1 (left l)
send_counts l c a = ap (λ (n : ℕ). cond (eqb n 0) 1 0) (send_number l c a) ∙ go (eqb (left l) 0) refl
  where
    go : (b : Bool) → eqb (left l) 0 ≡ b → cond (eqb (cond b 5 0) 0) 1 0 ≡ min 1 (left l)
    go true e = omega (arith, eqb-true (left l) 0 e)
    go false e = let f : left l ≡ 0 → ⊥ = eqb-false (left l) 0 e in omega arith

-- the trigger at an address, on a ledger and a chip that agree, with the settings under which it waits or is taken
module _ (address : ℕ) (from : 96 ≤ address) (upto : address ≤ 127) (l : Ledger) (c : Chip2) (agree : Agrees l c) (armed : Armed (address % 16) l.settings) where
  none : Quiet l l 0
  none = (refl, (refl, sym (add-zero l.sent)))

  same : (m : Ledger) → Kin l m → Quiet l m 0
  same = kin (λ s w e ss n. (s ≡ l.settings) × ((ss ≡ l.taken) × (n ≡ l.sent + 0))) l none

  -- asked again, and not taken, it changes neither settings nor samples nor words sent
  asked_quiet : (bits lines : ℕ) → line_in lines < 8 → eqb (step (op_write address bits lines) c).number 0 ≡ false → Quiet l (after_fate (fate_in (leb 112 address) (address % 16) l) (leb 112 address) (line_in lines) (data_in bits l) l) 0
  unfolding after_fate
  asked_quiet bits lines one un = go (lacks r l) (armed_fate r (address % 16) l armed)
    where
      r : Bool
      r = leb 112 address

      go : (b : Bool) → fate_in r (address % 16) l ≡ cond b was_told was_taken → Quiet l (after_fate (fate_in r (address % 16) l) r (line_in lines) (data_in bits l) l) 0
      go true e = subst (λ (f : Fate). Quiet l (after_fate f r (line_in lines) (data_in bits l) l) 0) (sym e) (refl, (refl, sym (add-zero l.sent)))
      go false e = absurd (false≢true (sym un ∙ eq-eqb _ 0 (fate_said l c agree address bits lines from upto one ∙ ap fate_number e)))

  pub one_quiet : (op : Operation) → may_come address op ≡ true → ((bits lines : ℕ) → op ≡ op_write address bits lines → eqb (step (op_write address bits lines) c).number 0 ≡ false) → Quiet l (entry_of op l).ledger (sent_by op c)
  unfolding after_one entry_of sent_by
  one_quiet op_reset may un = absurd (false≢true may)
  one_quiet (op_write a bits lines) may un =
      let not-these = quiet_write address a from may in
      other_leaves (λ m b. Quiet l m 0) l false same (data_in bits l) none none a lines not-these.0 not-these.1.0
      (λ e. absurd (false≢true (sym not-these.1.1.0 ∙ e)))
      (λ x y one.
      let is : a ≡ address = not-these.1.1.1 x y in
      subst (λ (i : ℕ). Quiet l (after_fate (fate_in (leb 112 i) (i % 16) l) (leb 112 i) (line_in lines) (data_in bits l) l) 0) (sym is)
      (asked_quiet bits lines one (un bits lines (ap (λ (i : ℕ). op_write i bits lines) is))))
  one_quiet (op_read a) may un = read_leaves (λ m b. Quiet l m 0) l false same a none
  one_quiet (op_ticks k levels) may un = none
  one_quiet (op_nodes k levels) may un = none
  one_quiet (op_events mask) may un = none
  one_quiet op_send may un =
      subst (λ (m : Ledger). Quiet l m (cond (eqb (step op_send c).number 0) 1 0)) (sym (send_leaves l))
      (refl, (refl, ap (λ (x : ℕ). l.sent + x) (sym (send_counts l c agree))))
  one_quiet (op_fill room) may un = (refl, (refl, ap (λ (x : ℕ). l.sent + x) (sym (agrees_step (op_fill room) l c agree).value)))

-- and a list of such operations
pub all_quiet : (address : ℕ) → 96 ≤ address → address ≤ 127 → (ops : List Operation) (l : Ledger) (c : Chip2) → Agrees l c → Armed (address % 16) l.settings → Between address c ops → Quiet l (ledger_from l ops) (words_in c ops)
unfolding ledger_from words_in run_from
all_quiet address from upto [] l c a armed h = (refl, (refl, sym (add-zero l.sent)))
all_quiet address from upto (op ∷ ops) l c a armed h =
    let x = one_quiet address from upto l c a armed op (h.quiet [] ops op refl) (λ bits lines e. h.untaken [] ops bits lines (ap (λ (o : Operation). o ∷ ops) e)) in
    let y =
    all_quiet address from upto ops (entry_of op l).ledger (step op c).chip (agrees_step op l c a).agrees (subst (Armed (address % 16)) (sym x.0) armed)
    (record {
      quiet = λ first rest o e. h.quiet (op ∷ first) rest o (ap (λ (os : List Operation). op ∷ os) e);
      untaken = λ first rest bits lines e. h.untaken (op ∷ first) rest bits lines (ap (λ (os : List Operation). op ∷ os) e);
    }) in
    (y.0 ∙ x.0, (y.1.0 ∙ x.1.0, omega (arith, x.1.1, y.1.1)))

-- ---- room on the ledger

-- 84 and 224 words: the law's
pub enough_needed : (resource : Bool) → needed Second resource ≤ enough resource
enough_needed true = omega arith
enough_needed false = omega arith

-- and the least, computed: with samples of 20 and 84 words, one word fewer is not enough
pub enough_least : (resource : Bool) → lacks_at (λ k. k) 8 1 resource (unsent_of (λ k. cond k 84 20) (slowest 8 1 resource) (enough resource - 1)) ≡ true
unfolding count_of unsent_of
enough_least true = refl
enough_least false = refl

-- with the same samples and so many words more
pub later_room : (resource : Bool) (l m : Ledger) (k : ℕ) → Quiet l m k → lacks resource m ≡ lacks_in Second resource l.taken (l.sent + k)
later_room resource l m k since = ap₂ (lacks_in Second resource) since.1.0 since.1.1

-- ---- lists of operations

-- one list behind another
pub ledger_both : (before after : List Operation) (l : Ledger) → ledger_from l (before ++ after) ≡ ledger_from (ledger_from l before) after
unfolding ledger_from
ledger_both [] after l = refl
ledger_both (op ∷ before) after l = ledger_both before after (entry_of op l).ledger

-- the words that the chip sent since the last reset are as many as the ledger says
pub sent_length : (ops : List Operation) → length (sent_of ops) ≡ (ledger_of ops).sent
sent_length ops =
    let l : Ledger = ledger_of ops in
    ap length (sent_words_lem ops)
    ∙ length-take-le l.sent (words_of_all Second l.taken) (subst (λ (n : ℕ). l.sent ≤ n) (sym (words_total Second l.taken (agrees ops).good.sixteen)) (always_fits ops).1.1)

-- j single sends are as one of j words
sends_leave : (j : ℕ) (l : Ledger) → ledger_from l (replicate j op_send) ≡ sent_more j l
unfolding ledger_from
sends_leave zero l = let none : l.sent ≡ l.sent + min 0 (left l) = omega arith in ap (λ (n : ℕ). with_stream l.taken n l) none
sends_leave (suc j) l =
    let all : l.sent + min 1 (left l) + min j (total_of Second l.taken - (l.sent + min 1 (left l))) ≡ l.sent + min (suc j) (left l) = omega arith in
    ap (λ (m : Ledger). ledger_from m (replicate j op_send)) (send_leaves l) ∙ sends_leave j (sent_more 1 l) ∙ ap (λ (n : ℕ). with_stream l.taken n l) all

pub sends_agree : (j : ℕ) (l : Ledger) (c : Chip2) → Agrees l c → Agrees (sent_more j l) (run_from c (replicate j op_send))
sends_agree j l c a = subst (λ (m : Ledger). Agrees m (run_from c (replicate j op_send))) (sends_leave j l) (run_agrees (replicate j op_send) l c a)
