-- `words::table::Parities::odd_ones` meets its contract: by the table bit 8 is the byte's parity bit exactly where the ones are odd. Assumes
-- nothing.
use mathlib.Core.Path.{ap, ◌∙◌}
use mathlib.Core.List.{List}
use Prim.Native.Nat.{ℕ}
use Rattle.words.specs.Table.{odd_by}
use Rattle.words.proofs.TableLaws.{odd_by_lem}
use Rattle.words.proofs.table.Parities.odd_ones.Goals as goal

pub returns : goal.returns
returns c =
    c.odd_ones_by.ensures ∙ ap (λ (t : List ℕ). odd_by t c.args.word) c.args.self.now.all_right ∙ odd_by_lem c.args.word
