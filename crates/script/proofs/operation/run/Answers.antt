-- `script::operation::run` meets its contract: a record's step by the table of parity bits is its step. Assumes nothing.
use mathlib.Core.Path.{ap, ◌∙◌}
use mathlib.Core.List.{List}
use Prim.Native.Nat.{ℕ}
use Rattle.script.specs.Table.{run_by}
use Rattle.script.proofs.TableLaws.{run_by_lem}
use Rattle.script.proofs.operation.run.Goals as goal

pub returns : goal.returns
returns c =
    let a = c.args in
    c.run_by.ensures
    ∙ ap (λ (t : List ℕ). run_by t a.operation a.chip) c.parities-table.ensures
    ∙ run_by_lem a.operation a.chip
