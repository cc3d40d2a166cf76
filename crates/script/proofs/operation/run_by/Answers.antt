-- `script::operation::run_by` meets its contract: each arm is one case of the definition. Assumes nothing.
use mathlib.Core.Path.{sym, ap, ◌∙◌}
use Rattle.std.proofs.Common.{Option, Some}
use Rattle.script.specs.Record.{outcome_of, run_of}
use Rattle.script.specs.Table.{run_by}
use Rattle.script.specs.declared.operation.Operation.{Operation}
use Rattle.script.proofs.operation.run_by.Goals as goal

pub returns-in_default : goal.returns-in_default
unfolding run_by run_of
returns-in_default c = ap (λ (o : Option Operation). run_by c.args.table.now o c.args.chip) (sym c.in_default.is)

pub returns-in-Reset : goal.returns-in-Reset
unfolding run_by run_of
returns-in-Reset c =
    let a = c.args in
    c.numbered.ensures ∙ ap outcome_of c.hardware_reset.ensures ∙ ap (λ (o : Option Operation). run_by a.table.now o a.chip) (sym (c.in-Some.is ∙ ap Some c.in-Reset.is))

pub returns-in-Write : goal.returns-in-Write
unfolding run_by run_of
returns-in-Write c =
    let a = c.args in
    c.numbered-in-Write.ensures ∙ ap outcome_of c.write.ensures ∙ ap (λ (o : Option Operation). run_by a.table.now o a.chip) (sym (c.in-Some.is ∙ ap Some c.in-Write.is))

pub returns-in-Read : goal.returns-in-Read
unfolding run_by run_of
returns-in-Read c =
    let a = c.args in
    c.numbered-in-Read.ensures ∙ ap outcome_of c.read.ensures ∙ ap (λ (o : Option Operation). run_by a.table.now o a.chip) (sym (c.in-Some.is ∙ ap Some c.in-Read.is))

pub returns-in-Ticks : goal.returns-in-Ticks
unfolding run_by run_of
returns-in-Ticks c =
    let a = c.args in
    c.numbered-in-Ticks.ensures ∙ ap outcome_of c.timestamp_ticks.ensures ∙ ap (λ (o : Option Operation). run_by a.table.now o a.chip) (sym (c.in-Some.is ∙ ap Some c.in-Ticks.is))

pub returns-in-Nodes : goal.returns-in-Nodes
unfolding run_by run_of
returns-in-Nodes c =
    let a = c.args in
    c.numbered-in-Nodes.ensures ∙ ap outcome_of c.node_ticks.ensures ∙ ap (λ (o : Option Operation). run_by a.table.now o a.chip) (sym (c.in-Some.is ∙ ap Some c.in-Nodes.is))

pub returns-in-Events : goal.returns-in-Events
unfolding run_by run_of
returns-in-Events c =
    let a = c.args in
    c.numbered-in-Events.ensures ∙ ap outcome_of c.external_events.ensures ∙ ap (λ (o : Option Operation). run_by a.table.now o a.chip) (sym (c.in-Some.is ∙ ap Some c.in-Events.is))

pub returns-in-Send : goal.returns-in-Send
unfolding run_by run_of
returns-in-Send c =
    let a = c.args in
    c.numbered-in-Send.ensures ∙ ap outcome_of c.send_by.ensures ∙ ap (λ (o : Option Operation). run_by a.table.now o a.chip) (sym (c.in-Some.is ∙ ap Some c.in-Send.is))
