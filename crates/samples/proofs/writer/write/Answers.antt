-- `samples::writer::write` meets its contract: each return is one case of the answer and of the buffer. Assumes nothing.
use borrow.Author.Rules.{rules}
use mathlib.Core.Path.{sym, ◌∙◌}
use Rattle.samples.specs.Layout.{widths}
use Rattle.samples.proofs.WriteLaws.{wrote, wrote_short, wrote_unfit}
use Rattle.samples.proofs.writer.write.Goals as goal

pub returns-then-not-can_write : goal.returns-then-not-can_write
returns-then-not-can_write c =
    let p = wrote_unfit (widths c.args.edition) c.args.sample c.args.out.now (sym c.can_write.ensures ∙ c.if-not-can_write.true) in
    record { result_value = p.0; out_after = p.1 }

pub returns-then-out-count : goal.returns-then-out-count
returns-then-out-count c =
    let fit = sym c.can_write.ensures ∙ c.if-not-can_write.false in
    let p = wrote_short (widths c.args.edition) c.args.sample c.args.out.now c.word_count-count.result c.word_count-count.ensures fit (search rules) in
    record { result_value = p.0; out_after = p.1 }

pub returns : goal.returns
returns c =
    let fit = sym c.can_write.ensures ∙ c.if-not-can_write.false in
    let p = wrote (widths c.args.edition) c.args.sample c.args.out.now c.word_count-count.result c.word_count-count.ensures fit (search rules) in
    record { result_value = p.0; out_after = c.fill.ensures ∙ p.1 }
