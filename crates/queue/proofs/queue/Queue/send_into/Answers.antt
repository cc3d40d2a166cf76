-- `queue::queue::Queue::send_into` meets its contract: after i turns the buffer holds the first i words that single sends give, for the
-- table that is lent is the table of parity bits. Assumes nothing.
use borrow.Author.Rules.{rules}
use borrow.Author.Tests.{eqb-false, eqb-true}
use Prim.Native.Nat.{ℕ, ◌-◌}
use native.Mathlib.Numerals.{add-one}
use mathlib.Core.Path.{◌≡◌, refl, sym, ap, ◌∙◌}
use mathlib.Core.List.{List}
use native.Mathlib.Omega.{arith}
use lib.ListN.{length}
use Rattle.samples.specs.Layout.{widths}
use Rattle.queue.specs.Queue.{send_queue, send_words}
use Rattle.queue.specs.Table.{next_word_by}
use Rattle.queue.specs.declared.queue.SentMany.{SentMany}
use Rattle.queue.proofs.SendLaws.{filled_turn, filled_end, send_none}
use Rattle.queue.proofs.TableLaws.{next_word_by_lem}
use Rattle.queue.proofs.queue.Queue.send_into.Goals as goal

pub loop-i-init : goal.loop-i-init
unfolding send_words send_queue
loop-i-init c = (search rules, refl, refl, refl, refl)

pub returns-then-is_empty : goal.returns-then-is_empty
returns-then-is_empty c =
    let a = c.args in
    let l = c.loop-i in
    let end = filled_end (widths a.edition) a.shadows a.self a.out.now l.out l.queue l.i l.invariant (send_none (widths a.edition) (length a.out.now - l.i) a.shadows l.queue (eqb-true l.queue.held 0 (sym c.is_empty.ensures ∙ c.if-is_empty.true))) in
    record { value = end.0; out_after = end.1 }

pub loop-i-preserved : goal.loop-i-preserved
loop-i-preserved c =
    let a = c.args in
    let l = c.loop-i in
    let table = c.parities-table in
    let word = c.next_word.ensures ∙ ap (λ (t : List ℕ). next_word_by t (widths a.edition) a.shadows l.queue) table.ensures ∙ next_word_by_lem (widths a.edition) a.shadows l.queue in
    rw add-one
    (filled_turn (widths a.edition) a.shadows a.self a.out.now l.out l.queue l.i l.invariant c.next_word.result c.advanced-queue.result (omega arith) (eqb-false l.queue.held 0 (sym c.is_empty.ensures ∙ c.if-is_empty.false)) word c.advanced-queue.ensures)

pub returns : goal.returns
unfolding send_words send_queue
returns c =
    let a = c.args in
    let l = c.loop-i in
    let all : l.i ≡ length l.out = omega arith in
    let none : length a.out.now - l.i ≡ 0 = omega arith in
    let end = filled_end (widths a.edition) a.shadows a.self a.out.now l.out l.queue l.i l.invariant
    (ap (λ (n : ℕ). send_words (widths a.edition) n a.shadows l.queue) none, ap (λ (n : ℕ). send_queue (widths a.edition) n l.queue) none) in
    record { value = ap {B = SentMany} (λ (n : ℕ). record { queue = l.queue; count = n }) (sym all) ∙ end.0; out_after = end.1 }
