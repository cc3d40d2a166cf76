-- Laws of a buffer send: a record asks for at most a thousand places, no more words are sent than there are places, and they don't depend on
-- what stood in the buffer. Assumes nothing.
use Prim.Native.Nat.{ℕ, ◌≤◌}
use native.Mathlib.Omega.{arith}
use mathlib.Core.Path.{◌≡◌, refl, sym, ap, ◌∙◌, subst}
use mathlib.Core.Bool.{Bool, true, false, cond}
use mathlib.Core.List.{List, [], ◌++◌}
use lib.Dec.{eqb, leb}
use lib.ListN.{drop, get_or, length, replicate, take, length-replicate}
use lib.Seq.{take_at}
use borrow.Author.Tests.{leb-true}
use Rattle.std.proofs.Common.{Option, None, Some}
use Rattle.samples.specs.Layout.{widths}
use Rattle.samples.specs.declared.edition.Edition.TheVariants.{Second}
use Rattle.queue.specs.Queue.{send_buffer, send_many, send_words}
use Rattle.queue.proofs.CountLaws.{words_most}
use Rattle.control.specs.declared.reply.Reply.TheVariants.{Outside}
use Rattle.chip2.specs.Chip2.{done, inside, replied, send_into, sent_buffer, with_queue}
use Rattle.chip2.specs.declared.chip2.Chip2.{Chip2}
use Rattle.script2.specs.Record.{by_kind, operation_of, zeroed}
use Rattle.script2.specs.declared.operation.Operation.{Operation}
use Rattle.script2.specs.declared.operation.Operation.TheVariants.{Reset, Write, Read, Ticks, Nodes, Events, Send, Fill}

-- how many places an operation asks for
abbrev places : Option Operation → ℕ
places None = 0
places (Some Reset) = 0
places (Some (Write address bits lines)) = 0
places (Some (Read address)) = 0
places (Some (Ticks k levels)) = 0
places (Some (Nodes k levels)) = 0
places (Some (Events mask)) = 0
places (Some Send) = 0
places (Some (Fill n)) = n

either : (b : Bool) (o p : Option Operation) → places o ≤ 1000 → places p ≤ 1000 → places (cond b o p) ≤ 1000
either true o p h k = h
either false o p h k = k

kind_places : (kind address lines levels bits : ℕ) → places (by_kind kind address lines levels bits) ≤ 1000
unfolding by_kind
kind_places kind address lines levels bits =
    either (eqb kind 0) _ _ (omega arith)
    (either (eqb kind 1) _ _ (omega arith)
    (either (eqb kind 2) _ _ (omega arith)
    (either (eqb kind 3) _ _ (either (leb bits 4294967295) _ _ (omega arith) (omega arith))
    (either (eqb kind 4) _ _ (either (leb bits 4294967295) _ _ (omega arith) (omega arith))
    (either (eqb kind 5) _ _ (either (leb bits 65535) _ _ (omega arith) (omega arith))
    (either (eqb kind 6) _ _ (omega arith)
    (either (eqb kind 7) _ _ (fits (leb bits 1000) refl) (omega arith))))))))
  where
    fits : (b : Bool) → leb bits 1000 ≡ b → places (cond b (Some (Fill bits)) None) ≤ 1000
    fits true e = leb-true bits 1000 e
    fits false e = omega arith

pub few_places : (bytes : List ℕ) {n : ℕ} → operation_of bytes ≡ Some (Fill n) → n ≤ 1000
unfolding operation_of
few_places bytes e =
    subst (λ (o : Option Operation). places o ≤ 1000) e
    (either (eqb (length bytes) 16) _ _ (either (zeroed bytes) _ _ (kind_places (get_or bytes 0 0) (get_or bytes 1 0) (get_or bytes 2 0) _ _) (omega arith)) (omega arith))

module _ (c : Chip2) where
  -- inside the bounds or not
  abbrev sent : ℕ → List ℕ
  sent room = send_words (widths Second) room c.bank.shadows c.queue

  pub few_sent : (room : ℕ) → (send_into room c).value ≤ room
  unfolding send_into send_many
  few_sent room = go (inside c)
    where
      go : (b : Bool) → (cond b (done (length (sent room)) (with_queue (send_many (widths Second) room c.bank.shadows c.queue).queue c)) (replied Outside c)).value ≤ room
      go true = words_most (widths Second) c.bank.shadows room c.queue
      go false = omega arith

  same_words : (buffer : List ℕ) (room : ℕ) → length buffer ≡ room → take (send_into room c).value (sent_buffer c buffer) ≡ cond (inside c) (sent room) []
  unfolding send_buffer send_into send_many sent_buffer
  same_words buffer room e = go (inside c)
    where
      go : (b : Bool) → take (cond b (done (length (sent room)) (with_queue (send_many (widths Second) room c.bank.shadows c.queue).queue c)) (replied Outside c)).value (cond b (send_buffer (widths Second) c.bank.shadows c.queue buffer) buffer) ≡ cond b (sent room) []
      go true = ap (λ (n : ℕ). take (length (sent room)) (sent n ++ drop (length (sent n)) buffer)) e ∙ take_at (sent room) (drop (length (sent room)) buffer) (length (sent room)) refl
      go false = refl

  -- whatever stood in the buffer
  pub any_buffer : (buffer : List ℕ) (room : ℕ) → length buffer ≡ room → take (send_into room c).value (sent_buffer c buffer) ≡ take (send_into room c).value (sent_buffer c (replicate room 0))
  any_buffer buffer room e = same_words buffer room e ∙ sym (same_words (replicate room 0) room (length-replicate room 0))
