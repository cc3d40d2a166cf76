-- Every operation on the MultiKron II keeps the relation between ledger and record, and replies what the ledger says. Assumes nothing.
use Prim.Native.Nat.{ℕ, ◌+◌, ◌^◌, ◌<◌, min}
use native.Mathlib.Nat.{mod-add-mod}
use native.Mathlib.Omega.{arith}
use mathlib.Core.Path.{◌≡◌, refl, sym, ap, subst, ◌∙◌}
use mathlib.Core.Bool.{Bool, true, false, cond}
use lib.Dec.{eqb}
use lib.ListN.{get_or}
use borrow.Author.Tests.{eq-eqb, ne_eqb, eqb-true, eqb-false}
use Rattle.samples.specs.Layout.{widths}
use Rattle.samples.specs.declared.edition.Edition.TheVariants.{Second}
use Rattle.queue.specs.Queue.{advanced, empty_queue, next_word, send_many, send_queue}
use Rattle.queue.specs.declared.queue.Queue.{Queue}
use Rattle.control.specs.declared.reply.Reply.TheVariants.{NoWord}
use Rattle.counters.specs.declared.bank.Bank.{Bank}
use Rattle.chip2.specs.Chip2.{after_nodes, after_ticks, done, external_events, node_ticks, read, replied, send, send_into, send_now, timestamp_ticks, with_bank, with_phase, with_queue, with_stamp, write}
use Rattle.chip2.specs.Operation.{Operation, op_reset, op_write, op_read, op_ticks, op_nodes, op_events, op_send, op_fill, step}
use Rattle.chip2.specs.Told.{Told}
use Rattle.chip2.specs.declared.chip2.Chip2.{Chip2}
use Rattle.history.specs.Stream.{total_of, words_of_all}
use Rattle.history.proofs.HoldsLaws.{Holds, holds_advanced, holds_none, holds_some, many, many_count, next_is}
use Rattle.history2.specs.Counts2.{Control2, due_external, due_ticks, stamp_ticks}
use Rattle.history2.specs.Counts2.{node_ticks as Ledger·nodeTicks}
use Rattle.history2.specs.Ledger2.{Entry, Ledger, data_in, entry_of, happened, left, sent_more, tells, with_clocks, with_stream}
use Rattle.history2.proofs.Agrees2.{Agrees, Good, Kept, chip_for, kept, kept_guarded}
use Rattle.history2.proofs.Counters2.{counted_paired, external_happened, node_happened, stamp_happened}
use Rattle.history2.proofs.Reads2.{read_kept}
use Rattle.history2.proofs.Writes2.{reset_good, reset_record, write_kept}

-- a single send, by whether nothing is left
abbrev pub send_entry : Ledger → Bool → Entry
send_entry l none = cond none (tells 5 0 l) (tells 0 (get_or (words_of_all Second l.taken) l.sent 0) (sent_more 1 l))

module _ (l : Ledger) (q : Queue) (g : Good l q) where
  -- ---- ticks and events

  -- events that are due by a rule leave what is known
  happened_good : (due : ℕ → Control2 → ℕ) → Good (happened due l) q
  happened_good due = record { holds = g.holds; sixteen = g.sixteen; paired = counted_paired l.controls l.counts g.paired due }

  ticks_kept : (k levels : ℕ) → Kept (tells 0 0 (with_clocks (l.clock + k) l.nodes (happened (due_ticks (stamp_ticks k) levels) l))) (done 0 (after_ticks k levels (chip_for l q)))
  ticks_kept k levels =
      kept 0 0 _ q _ (happened_good (due_ticks (stamp_ticks k) levels))
      (λ i. with_stamp (mod-add-mod l.clock (2 ^ 56) k i) (with_bank (stamp_happened l.controls l.counts g.paired l.shadows k levels i) (chip_for l q)))
      refl refl

  nodes_kept : (k levels : ℕ) → Kept (tells 0 0 (with_clocks l.clock (l.nodes + k) (happened (due_ticks (Ledger·nodeTicks l.nodes k) levels) l))) (done 0 (after_nodes k levels (chip_for l q)))
  nodes_kept k levels =
      kept 0 0 _ q _ (happened_good (due_ticks (Ledger·nodeTicks l.nodes k) levels))
      (λ i. with_phase (mod-add-mod l.nodes 100 k i) (with_bank (node_happened l.controls l.counts g.paired l.shadows l.nodes k levels i) (chip_for l q)))
      refl refl

  events_kept : (mask : ℕ) → Kept (tells 0 0 (happened (due_external mask) l)) (external_events mask (chip_for l q))
  unfolding external_events
  events_kept mask =
      kept_guarded l q _ _ g
      (kept 0 0 _ q _ (happened_good (due_external mask))
      (ap (λ (b : Bank). with_bank b (chip_for l q)) (external_happened l.controls l.counts g.paired l.shadows mask))
      refl refl)

  -- ---- sends

  -- another queue that holds what is left after more words
  sent_kept : (m v : ℕ) (q' : Queue) (a : Told) → Holds Second l.taken (l.sent + m) l.shadows q' → a.chip ≡ with_queue q' (chip_for l q) → a.number ≡ 0 → a.value ≡ v → Kept (tells 0 v (with_stream l.taken (l.sent + m) l)) a
  sent_kept m v q' a h e p r = kept 0 v _ q' a (record { holds = h; sixteen = g.sixteen; paired = g.paired }) e p r

  -- a single send
  send_kept : Kept (send_entry l (eqb (left l) 0)) (send_now (chip_for l q))
  send_kept = go (eqb q.held 0) refl
    where
      go : (b : Bool) → eqb q.held 0 ≡ b → Kept (send_entry l (eqb (left l) 0)) (cond b (replied NoWord (chip_for l q)) (done (next_word (widths Second) l.shadows q) (with_queue (advanced (widths Second) q) (chip_for l q))))
      go true e =
          let none : left l ≡ 0 = holds_none Second l.taken l.sent l.shadows q g.holds (eqb-true q.held 0 e) in
          subst (λ (b : Bool). Kept (send_entry l b) (replied NoWord (chip_for l q))) (sym (eq-eqb (left l) 0 none)) (kept 5 0 l q _ g refl refl refl)
      go false e =
          let f : q.held ≡ 0 → ⊥ = eqb-false q.held 0 e in
          let some : l.sent < total_of Second l.taken = holds_some Second l.taken l.sent l.shadows q g.holds f in
          let now : l.sent + 1 ≡ l.sent + min 1 (left l) = omega arith in
          subst (λ (b : Bool). Kept (send_entry l b) (done (next_word (widths Second) l.shadows q) (with_queue (advanced (widths Second) q) (chip_for l q)))) (sym (ne_eqb (left l) 0 (λ z. omega arith)))
          (sent_kept (min 1 (left l)) _ (advanced (widths Second) q) _
          (subst (λ (n : ℕ). Holds Second l.taken n l.shadows (advanced (widths Second) q)) now (holds_advanced Second l.taken l.sent l.shadows q g.holds g.sixteen f))
          refl
          refl
          (next_is Second l.taken l.sent l.shadows q g.holds g.sixteen f))

  -- a buffer send
  fill_kept : (room : ℕ) → Kept (tells 0 (min room (left l)) (sent_more room l)) (done (send_many (widths Second) room l.shadows q).count (with_queue (send_many (widths Second) room l.shadows q).queue (chip_for l q)))
  unfolding send_many
  fill_kept room =
      sent_kept (min room (left l)) (min room (left l)) (send_queue (widths Second) room q) _
      (many Second l.taken g.sixteen l.shadows room l.sent q g.holds).1
      refl
      refl
      (many_count Second l.taken g.sixteen l.shadows room l.sent q g.holds)

-- every operation on a record that a ledger leaves
step_kept : (op : Operation) (l : Ledger) (q : Queue) → Good l q → Kept (entry_of op l) (step op (chip_for l q))
unfolding entry_of write read timestamp_ticks node_ticks send send_into
step_kept op_reset l q g = kept 0 0 _ empty_queue _ (reset_good 0) (reset_record 0) refl refl
step_kept (op_write address bits lines) l q g = kept_guarded l q _ _ g (write_kept l q g (data_in bits l) lines address)
step_kept (op_read address) l q g = kept_guarded l q _ _ g (read_kept l q g address)
step_kept (op_ticks k levels) l q g = kept_guarded l q _ _ g (ticks_kept l q g k levels)
step_kept (op_nodes k levels) l q g = kept_guarded l q _ _ g (nodes_kept l q g k levels)
step_kept (op_events mask) l q g = events_kept l q g mask
step_kept op_send l q g = kept_guarded l q _ _ g (send_kept l q g)
step_kept (op_fill room) l q g = kept_guarded l q _ _ g (fill_kept l q g room)

pub agrees_step : (op : Operation) (l : Ledger) (c : Chip2) → Agrees l c → Kept (entry_of op l) (step op c)
agrees_step op l c a = subst (λ (x : Chip2). Kept (entry_of op l) (step op x)) (sym a.is) (step_kept op l a.queue a.good)

-- ---- a single send, on the ledger and by its answer

pub send_leaves : (l : Ledger) → (entry_of op_send l).ledger ≡ sent_more 1 l
unfolding entry_of
send_leaves l = go (eqb (left l) 0) refl
  where
    go : (b : Bool) → eqb (left l) 0 ≡ b → (send_entry l b).ledger ≡ sent_more 1 l
    go true e =
        let none : l.sent ≡ l.sent + min 1 (left l) = omega (arith, eqb-true (left l) 0 e) in
        ap (λ (n : ℕ). with_stream l.taken n l) none
    go false e = refl

pub send_number : (l : Ledger) (c : Chip2) → Agrees l c → (step op_send c).number ≡ cond (eqb (left l) 0) 5 0
unfolding entry_of
send_number l c a = (agrees_step op_send l c a).number ∙ go (eqb (left l) 0)
  where
    go : (b : Bool) → (send_entry l b).number ≡ cond b 5 0
    go true = refl
    go false = refl

pub send_value : (l : Ledger) (c : Chip2) → Agrees l c → eqb (left l) 0 ≡ false → (step op_send c).value ≡ get_or (words_of_all Second l.taken) l.sent 0
unfolding entry_of
send_value l c a e = (agrees_step op_send l c a).value ∙ ap (λ (b : Bool). (send_entry l b).value) e
