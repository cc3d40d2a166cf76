-- `words::parity::parity` meets its contract: the table's entry is the byte's parity bit. Assumes nothing.
use borrow.Author.Rules.{rules}
use mathlib.Core.Path.{ap, ◌∙◌}
use mathlib.Core.List.{List}
use Prim.Native.Nat.{ℕ}
use Rattle.words.specs.Table.{parity_by}
use Rattle.words.proofs.TableLaws.{parity_by_lem}
use Rattle.words.proofs.parity.parity.Goals as goal

pub returns : goal.returns
returns c =
    let a = c.args in
    c.parity_by.ensures
    ∙ ap (λ (t : List ℕ). parity_by t a.byte) c.parities-table.ensures
    ∙ parity_by_lem a.byte (search rules)
