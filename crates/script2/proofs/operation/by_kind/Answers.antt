-- `script2::operation::by_kind` meets its contract: each arm is one test of the definition. Assumes nothing.
use borrow.Author.Rules.{rules}
use Prim.Native.Nat.{ℕ}
use mathlib.Core.Path.{sym, ap, ◌∙◌}
use borrow.Author.Tests.{ne_eqb}
use Rattle.script2.specs.Record.{by_kind}
use Rattle.script2.specs.declared.operation.Operation.TheVariants.{Ticks, Nodes, Events, Fill}
use Rattle.script2.proofs.RecordLaws.{beyond, up_to_got, up_to_lem, up_to_lost}
use Rattle.script2.proofs.operation.by_kind.Goals as goal

pub returns-in-0 : goal.returns-in-0
unfolding by_kind
returns-in-0 c =
    let a = c.args in
    ap (λ (k : ℕ). by_kind k a.address a.lines a.levels a.bits) (sym c.in-0.is)

pub returns-in-1 : goal.returns-in-1
unfolding by_kind
returns-in-1 c =
    let a = c.args in
    ap (λ (k : ℕ). by_kind k a.address a.lines a.levels a.bits) (sym c.in-1.is)

pub returns-in-2 : goal.returns-in-2
unfolding by_kind
returns-in-2 c =
    let a = c.args in
    ap (λ (k : ℕ). by_kind k a.address a.lines a.levels a.bits) (sym c.in-2.is)

pub returns-in-6 : goal.returns-in-6
unfolding by_kind
returns-in-6 c =
    let a = c.args in
    ap (λ (k : ℕ). by_kind k a.address a.lines a.levels a.bits) (sym c.in-6.is)

pub returns-in-7 : goal.returns-in-7
unfolding by_kind
returns-in-7 c =
    let a = c.args in
    up_to_lem 1000 Fill a.bits (search rules) ∙ ap (λ (k : ℕ). by_kind k a.address a.lines a.levels a.bits) (sym c.in-7.is)

pub returns-in_default : goal.returns-in_default
unfolding by_kind
returns-in_default c =
    let a = c.args in
    beyond 1000 Fill a.bits (search rules) ∙ ap (λ (k : ℕ). by_kind k a.address a.lines a.levels a.bits) (sym c.in-7.is)

pub returns-in_err-ok-in-3 : goal.returns-in_err-ok-in-3
unfolding by_kind
returns-in_err-ok-in-3 c =
    let a = c.args in
    c.from_residual.ensures ∙ up_to_lost 4294967295 (λ n. Ticks n a.levels) a.bits c.try_from.result c.try_from.ensures (sym c.ok.ensures.value ∙ c.in_err-ok-in-3.was) ∙ ap (λ (k : ℕ). by_kind k a.address a.lines a.levels a.bits) (sym c.in-3.is)

pub returns-in_ok-ok-in-3 : goal.returns-in_ok-ok-in-3
unfolding by_kind
returns-in_ok-ok-in-3 c =
    let a = c.args in
    up_to_got 4294967295 (λ n. Ticks n a.levels) a.bits c.try_from.result c.try_from.ensures (sym c.ok.ensures.value ∙ c.in_ok-ok-in-3.was) ∙ ap (λ (k : ℕ). by_kind k a.address a.lines a.levels a.bits) (sym c.in-3.is)

pub returns-in_err-ok-in-4 : goal.returns-in_err-ok-in-4
unfolding by_kind
returns-in_err-ok-in-4 c =
    let a = c.args in
    c.from_residual-in_err-ok-in-4.ensures ∙ up_to_lost 4294967295 (λ n. Nodes n a.levels) a.bits c.try_from-in-4.result c.try_from-in-4.ensures (sym c.ok-in-4.ensures.value ∙ c.in_err-ok-in-4.was) ∙ ap (λ (k : ℕ). by_kind k a.address a.lines a.levels a.bits) (sym c.in-4.is)

pub returns-in_ok-ok-in-4 : goal.returns-in_ok-ok-in-4
unfolding by_kind
returns-in_ok-ok-in-4 c =
    let a = c.args in
    up_to_got 4294967295 (λ n. Nodes n a.levels) a.bits c.try_from-in-4.result c.try_from-in-4.ensures (sym c.ok-in-4.ensures.value ∙ c.in_ok-ok-in-4.was) ∙ ap (λ (k : ℕ). by_kind k a.address a.lines a.levels a.bits) (sym c.in-4.is)

pub returns-in_err-ok-in-5 : goal.returns-in_err-ok-in-5
unfolding by_kind
returns-in_err-ok-in-5 c =
    let a = c.args in
    c.from_residual-in_err-ok-in-5.ensures ∙ up_to_lost 65535 Events a.bits c.try_from-in-5.result c.try_from-in-5.ensures (sym c.ok-in-5.ensures.value ∙ c.in_err-ok-in-5.was) ∙ ap (λ (k : ℕ). by_kind k a.address a.lines a.levels a.bits) (sym c.in-5.is)

pub returns-in_ok-ok-in-5 : goal.returns-in_ok-ok-in-5
unfolding by_kind
returns-in_ok-ok-in-5 c =
    let a = c.args in
    up_to_got 65535 Events a.bits c.try_from-in-5.result c.try_from-in-5.ensures (sym c.ok-in-5.ensures.value ∙ c.in_ok-ok-in-5.was) ∙ ap (λ (k : ℕ). by_kind k a.address a.lines a.levels a.bits) (sym c.in-5.is)

pub returns-in_default-2 : goal.returns-in_default-2
unfolding by_kind
returns-in_default-2 c =
    let kind = c.args.kind in
    simp (ne_eqb kind 0 (search rules), ne_eqb kind 1 (search rules), ne_eqb kind 2 (search rules), ne_eqb kind 3 (search rules), ne_eqb kind 4 (search rules), ne_eqb kind 5 (search rules), ne_eqb kind 6 (search rules), ne_eqb kind 7 (search rules))
