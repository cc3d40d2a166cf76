-- `chip::line::Line::of` meets its contract: a count of ones that is one is one active line, whose number is below 8. Assumes nothing.
use borrow.Author.Rules.{rules}
use borrow.Author.Tests.{eq-eqb, ne_eqb}
use mathlib.Core.Path.{refl, sym, ◌∙◌}
use lib.Count.{ones_in}
use Rattle.words.proofs.WordLaws.{ones_in_lem}
use Rattle.chip.proofs.LineLaws.{line_below}
use Rattle.chip.proofs.line.Line.of.Goals as goal

pub invariant_of-result : goal.invariant_of-result
invariant_of-result c =
    let lines = c.args.lines in
    record { below = line_below lines (eq-eqb (ones_in 8 lines) 1 (sym (ones_in_lem 8 lines (search rules)) ∙ c.if-lines-eq1.true)) }

pub returns-then-lines-eq1 : goal.returns-then-lines-eq1
returns-then-lines-eq1 c =
    let lines = c.args.lines in
    (eq-eqb (ones_in 8 lines) 1 (sym (ones_in_lem 8 lines (search rules)) ∙ c.if-lines-eq1.true), refl)

pub returns : goal.returns
returns c =
    let lines = c.args.lines in
    ne_eqb (ones_in 8 lines) 1 (λ q. c.if-lines-eq1.false (ones_in_lem 8 lines (search rules) ∙ q))
