-- `queue::queue::Queue::next_word` meets its contract: the word at a place is its byte's by the table, marked where it is the last.
-- Assumes nothing.
use borrow.Author.Rules.{rules}
use native.Mathlib.Omega.{arith}
use native.Mathlib.Numerals.{add-one}
use mathlib.Core.Path.{◌≡◌, sym, ap₂, ◌∙◌}
use lib.Dec.{eqb}
use lib.ListN.{length, get_or-eq_default}
use Rattle.words.specs.Table.{word_by, words_by}
use Rattle.samples.specs.Layout.{sample_bytes, widths}
use Rattle.samples.proofs.SampleLaws.{sample_with_length, sample_with_word}
use Rattle.queue.specs.Queue.{first_held, held_sample}
use Rattle.queue.proofs.QueueLaws.{held_sixteen}
use Rattle.queue.proofs.queue.Queue.next_word.Goals as goal

pub returns-then-sent-count : goal.returns-then-sent-count
returns-then-sent-count c =
    let a = c.args in
    let t = a.table.now in
    let h = first_held a.self in
    let sixteen : length a.shadows ≡ 16 = search rules in
    let size = c.word_count-count.ensures in
    c.word_by.ensures
    ∙ ap₂ (word_by t) (ap₂ eqb (add-one a.self.sent) size) c.held_byte.ensures
    ∙ sym (sample_with_word (widths a.edition) (held_sample a.shadows h) (held_sixteen a.shadows h sixteen) (word_by t) a.self.sent (omega arith))

pub returns : goal.returns
returns c =
    let a = c.args in
    let t = a.table.now in
    let h = first_held a.self in
    let sixteen : length a.shadows ≡ 16 = search rules in
    let long = sample_with_length (widths a.edition) (held_sample a.shadows h) (held_sixteen a.shadows h sixteen) (word_by t) in
    sym (get_or-eq_default (words_by t (sample_bytes (widths a.edition) (held_sample a.shadows h))) 0 {n = a.self.sent} (rw long (omega arith)))
