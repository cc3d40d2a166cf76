-- `samples::sample::sample_byte` meets its contract: the four fields come first, the counters after them. Assumes nothing.
use borrow.Author.Rules.{rules}
use native.Mathlib.Omega.{arith}
use mathlib.Core.Path.{sym, ◌∙◌}
use Rattle.samples.specs.Layout.{widths}
use Rattle.samples.proofs.SampleLaws.{sample_before, sample_after, sample_trace}
use Rattle.samples.proofs.sample.sample_byte.Goals as goal

pub returns-then-place-first_counter : goal.returns-then-place-first_counter
returns-then-place-first_counter c =
    let a = c.args in
    c.field_byte.ensures ∙ sym (sample_before (widths a.edition) a.sample a.place (omega (arith, c.trace_bytes-first_counter.ensures)))

pub returns-then-is_resource : goal.returns-then-is_resource
returns-then-is_resource c =
    let a = c.args in
    c.counter_byte.ensures
    ∙ sym
    (sample_after (widths a.edition) a.sample a.place c.trace_bytes-first_counter.result c.trace_bytes-first_counter.ensures (search rules)
    (sym c.is_resource.ensures ∙ c.if-is_resource.true))

pub returns : goal.returns
returns c =
    let a = c.args in
    sym
    (sample_trace (widths a.edition) a.sample a.place (omega (arith, c.trace_bytes-first_counter.ensures))
    (sym c.is_resource.ensures ∙ c.if-is_resource.false))
