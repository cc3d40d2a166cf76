-- `script::operation::by_kind` meets its contract: each arm is one test of the definition. Assumes nothing.
use borrow.Author.Rules.{rules}
use mathlib.Core.Path.{sym, ap, ◌∙◌}
use Prim.Native.Nat.{ℕ}
use borrow.Author.Tests.{ne_eqb}
use Rattle.script.specs.Record.{by_kind}
use Rattle.script.specs.declared.operation.Operation.TheVariants.{Ticks, Nodes, Events}
use Rattle.script.proofs.RecordLaws.{fitting_got, fitting_lost}
use Rattle.script.proofs.operation.by_kind.Goals as goal

pub returns-in-0 : goal.returns-in-0
unfolding by_kind
returns-in-0 c =
    let a = c.args in
    c.reset.ensures ∙ ap (λ (k : ℕ). by_kind k a.address a.lines a.bits) (sym c.in-0.is)

pub returns-in-1 : goal.returns-in-1
unfolding by_kind
returns-in-1 c =
    let a = c.args in
    ap (λ (k : ℕ). by_kind k a.address a.lines a.bits) (sym c.in-1.is)

pub returns-in-2 : goal.returns-in-2
unfolding by_kind
returns-in-2 c =
    let a = c.args in
    ap (λ (k : ℕ). by_kind k a.address a.lines a.bits) (sym c.in-2.is)

pub returns-in-6 : goal.returns-in-6
unfolding by_kind
returns-in-6 c =
    let a = c.args in
    ap (λ (k : ℕ). by_kind k a.address a.lines a.bits) (sym c.in-6.is)

pub returns-in_ok-ok-in-3 : goal.returns-in_ok-ok-in-3
unfolding by_kind
returns-in_ok-ok-in-3 c =
    let a = c.args in
    fitting_got 32 Ticks a.bits c.try_from.result c.try_from.ensures (sym c.ok.ensures.value ∙ c.in_ok-ok-in-3.was) ∙ ap (λ (k : ℕ). by_kind k a.address a.lines a.bits) (sym c.in-3.is)

pub returns-in_err-ok-in-3 : goal.returns-in_err-ok-in-3
unfolding by_kind
returns-in_err-ok-in-3 c =
    let a = c.args in
    c.from_residual.ensures ∙ fitting_lost 32 Ticks a.bits c.try_from.result c.try_from.ensures (sym c.ok.ensures.value ∙ c.in_err-ok-in-3.was) ∙ ap (λ (k : ℕ). by_kind k a.address a.lines a.bits) (sym c.in-3.is)

pub returns-in_ok-ok-in-4 : goal.returns-in_ok-ok-in-4
unfolding by_kind
returns-in_ok-ok-in-4 c =
    let a = c.args in
    fitting_got 32 Nodes a.bits c.try_from-in-4.result c.try_from-in-4.ensures (sym c.ok-in-4.ensures.value ∙ c.in_ok-ok-in-4.was) ∙ ap (λ (k : ℕ). by_kind k a.address a.lines a.bits) (sym c.in-4.is)

pub returns-in_err-ok-in-4 : goal.returns-in_err-ok-in-4
unfolding by_kind
returns-in_err-ok-in-4 c =
    let a = c.args in
    c.from_residual-in_err-ok-in-4.ensures ∙ fitting_lost 32 Nodes a.bits c.try_from-in-4.result c.try_from-in-4.ensures (sym c.ok-in-4.ensures.value ∙ c.in_err-ok-in-4.was) ∙ ap (λ (k : ℕ). by_kind k a.address a.lines a.bits) (sym c.in-4.is)

pub returns-in_ok-ok-in-5 : goal.returns-in_ok-ok-in-5
unfolding by_kind
returns-in_ok-ok-in-5 c =
    let a = c.args in
    fitting_got 16 Events a.bits c.try_from-in-5.result c.try_from-in-5.ensures (sym c.ok-in-5.ensures.value ∙ c.in_ok-ok-in-5.was) ∙ ap (λ (k : ℕ). by_kind k a.address a.lines a.bits) (sym c.in-5.is)

pub returns-in_err-ok-in-5 : goal.returns-in_err-ok-in-5
unfolding by_kind
returns-in_err-ok-in-5 c =
    let a = c.args in
    c.from_residual-in_err-ok-in-5.ensures ∙ fitting_lost 16 Events a.bits c.try_from-in-5.result c.try_from-in-5.ensures (sym c.ok-in-5.ensures.value ∙ c.in_err-ok-in-5.was) ∙ ap (λ (k : ℕ). by_kind k a.address a.lines a.bits) (sym c.in-5.is)

pub returns-in_default : goal.returns-in_default
unfolding by_kind
returns-in_default c =
    let kind = c.args.kind in
    simp (ne_eqb kind 0 (search rules), ne_eqb kind 1 (search rules), ne_eqb kind 2 (search rules), ne_eqb kind 3 (search rules), ne_eqb kind 4 (search rules), ne_eqb kind 5 (search rules), ne_eqb kind 6 (search rules))
