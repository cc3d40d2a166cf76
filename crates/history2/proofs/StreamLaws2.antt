-- The words that the MultiKron II gave, and those it will give, are those of the ledger's samples. By the laws of the stream over the edition. Assumes nothing.
use Prim.Native.Nat.{ℕ, zero, suc, ◌+◌, ◌≤◌, min}
use mathlib.Core.Path.{◌≡◌, refl, sym, ap, ap₂, ◌∙◌, subst}
use mathlib.Core.Bool.{Bool, true, false, cond, false≢true}
use mathlib.Core.List.{List, [], ◌∷◌, ◌++◌}
use lib.Dec.{eqb}
use lib.ListN.{length, take, drop, replicate}
use lib.Seq.{take-append-le}
use borrow.Author.Tests.{eqb-true}
use Rattle.samples.specs.Layout.{sample_words, widths}
use Rattle.samples.specs.declared.edition.Edition.TheVariants.{Second}
use Rattle.queue.specs.Queue.{send_buffer}
use Rattle.queue.specs.declared.queue.Queue.{Queue}
use Rattle.chip.proofs.ChipLaws.{either as chip·either}
use Rattle.chip2.specs.Chip2.{sent_buffer}
use Rattle.chip2.specs.Operation.{Operation, op_reset, op_write, op_read, op_ticks, op_nodes, op_events, op_send, op_fill, step}
use Rattle.chip2.specs.declared.chip2.Chip2.{Chip2}
use Rattle.history.specs.Ledger.{Fate, was_filtered, was_lost, was_off, was_taken, was_told}
use Rattle.history.specs.Stream.{words_of_all}
use Rattle.history.proofs.HeldLaws.{words_more, words_total}
use Rattle.history.proofs.SendLaws.{fill_adds, send_adds, send_comes}
use Rattle.history2.specs.Ledger2.{Ledger, after_fate, by_range, data_in, entry_of, fate_in, left, read_in, sample_in, vacant, written, written_low}
use Rattle.history2.specs.Run2.{come_within, stream_after}
use Rattle.history2.proofs.Agrees2.{Agrees, for_inside}
use Rattle.history2.proofs.Leaves2.{Kin, kin, read_leaves, write_leaves}
use Rattle.history2.proofs.Steps2.{agrees_step, send_leaves, send_number, send_value}

-- ---- the words sent so far

-- a ledger that has the same ones
abbrev Stays : Ledger → Ledger → Type 0
Stays l m = take m.sent (words_of_all Second m.taken) ≡ take l.sent (words_of_all Second l.taken)

-- what a fate leaves of the stream
fate_stream : (f : Fate) (r : Bool) (line bits : ℕ) (l : Ledger) → l.sent ≤ length (words_of_all Second l.taken) → Stays l (after_fate f r line bits l)
unfolding after_fate
fate_stream was_off r line bits l h = refl
fate_stream was_filtered r line bits l h = refl
fate_stream was_lost r line bits l h = refl
fate_stream was_told r line bits l h = refl
fate_stream was_taken r line bits l h =
    ap (take l.sent) (words_more Second l.taken (sample_in r line bits l)) ∙ take-append-le l.sent (words_of_all Second l.taken) (sample_words (widths Second) (sample_in r line bits l)) h

-- only the write at address 0 is a software reset
write_stream : (a bits lines : ℕ) (l : Ledger) → eqb a 0 ≡ false → l.sent ≤ length (words_of_all Second l.taken) → Stays l (written a bits lines l).ledger
write_stream a bits lines l e h =
    write_leaves (λ m reset. reset ≡ false → Stays l m) l false (λ m k n. stays m k) bits (λ n. refl) (λ n. refl) (λ n. refl)
    (λ r level line small n. fate_stream (fate_in r level l) r line bits l h)
    true false (λ n. absurd (false≢true (sym n))) (λ n. refl) a lines
    (rw e (chip·either (λ b. b ≡ false) (eqb a 1) false false refl refl))
  where
    stays : (m : Ledger) → Kin l m → Stays l m
    stays = kin (λ s w x ss n. take n (words_of_all Second ss) ≡ take l.sent (words_of_all Second l.taken)) l refl

read_stream : (a : ℕ) (l : Ledger) → Stays l (read_in a l).ledger
read_stream a l =
    read_leaves (λ m b. Stays l m) l false (kin (λ s w x ss n. take n (words_of_all Second ss) ≡ take l.sent (words_of_all Second l.taken)) l refl) a refl

module _ (l : Ledger) (c : Chip2) (a : Agrees l c) where
  sent_within : l.sent ≤ length (words_of_all Second l.taken)
  sent_within = subst (λ (n : ℕ). l.sent ≤ n) (sym (words_total Second l.taken a.good.sixteen)) a.good.holds.enough

  -- a single send adds the next word, if one is left
  send_words_lem : take l.sent (words_of_all Second l.taken) ++ cond (eqb (step op_send c).number 0) ((step op_send c).value ∷ []) [] ≡ take (entry_of op_send l).ledger.sent (words_of_all Second (entry_of op_send l).ledger.taken)
  send_words_lem =
      send_adds Second l.taken a.good.sixteen l.sent (step op_send c).number (step op_send c).value (send_number l c a) (send_value l c a)
      ∙ ap (λ (m : Ledger). take m.sent (words_of_all Second m.taken)) (sym (send_leaves l))

  fill_words : (room : ℕ) → take l.sent (words_of_all Second l.taken) ++ take (step (op_fill room) c).value (sent_buffer c (replicate room 0)) ≡ take (l.sent + min room (left l)) (words_of_all Second l.taken)
  unfolding entry_of sent_buffer
  fill_words room =
      let q : Queue = a.queue in
      ap₂ (λ (n : ℕ) (b : List ℕ). take l.sent (words_of_all Second l.taken) ++ take n b) (agrees_step (op_fill room) l c a).value
      (ap (λ (d : Chip2). sent_buffer d (replicate room 0)) a.is
      ∙ ap (λ (b : Bool). cond b (send_buffer (widths Second) l.shadows q (replicate room 0)) (replicate room 0)) (for_inside l q a.good))
      ∙ fill_adds Second l.taken a.good.sixteen l.sent l.shadows q a.good.holds room

  pub stream_step : (op : Operation) (ws : List ℕ) → ws ≡ take l.sent (words_of_all Second l.taken) → stream_after op c ws ≡ take (entry_of op l).ledger.sent (words_of_all Second (entry_of op l).ledger.taken)
  unfolding stream_after entry_of words_of_all written by_range vacant written_low
  stream_step op_reset ws e = refl
  stream_step (op_write address bits lines) ws e = go (eqb address 0) refl
    where
      go : (b : Bool) → eqb address 0 ≡ b → cond b [] ws ≡ take (written address (data_in bits l) lines l).ledger.sent (words_of_all Second (written address (data_in bits l) lines l).ledger.taken)
      go true t = ap (λ (x : ℕ). take (written x (data_in bits l) lines l).ledger.sent (words_of_all Second (written x (data_in bits l) lines l).ledger.taken)) (sym (eqb-true address 0 t))
      go false t = e ∙ sym (write_stream address (data_in bits l) lines l t sent_within)
  stream_step (op_read address) ws e = e ∙ sym (read_stream address l)
  stream_step (op_ticks k levels) ws e = e
  stream_step (op_nodes k levels) ws e = e
  stream_step (op_events mask) ws e = e
  stream_step op_send ws e = ap (λ (x : List ℕ). x ++ cond (eqb (step op_send c).number 0) ((step op_send c).value ∷ []) []) e ∙ send_words_lem
  stream_step (op_fill room) ws e = ap (λ (x : List ℕ). x ++ take (step (op_fill room) c).value (sent_buffer c (replicate room 0))) e ∙ fill_words room

-- ---- the words still to come

-- n tries give the first n of the words that are left
pub come_words : (n : ℕ) (l : Ledger) (c : Chip2) → Agrees l c → come_within n c ≡ take n (drop l.sent (words_of_all Second l.taken))
unfolding come_within
come_words zero l c a = refl
come_words (suc n) l c a =
    send_comes Second l.taken a.good.sixteen l.sent (step op_send c).number (step op_send c).value (send_number l c a) (send_value l c a) n _
    (come_words n (entry_of op_send l).ledger (step op_send c).chip (agrees_step op_send l c a).agrees
    ∙ ap (λ (m : Ledger). take n (drop m.sent (words_of_all Second m.taken))) (send_leaves l))
