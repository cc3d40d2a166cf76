-- `words::table::Parities::word` meets its contract: by the table the word is the byte's own. Assumes nothing.
use borrow.Author.Rules.{rules}
use mathlib.Core.Path.{ap, ◌∙◌}
use mathlib.Core.List.{List}
use Prim.Native.Nat.{ℕ}
use Rattle.words.specs.Table.{word_by}
use Rattle.words.proofs.TableLaws.{word_by_lem}
use Rattle.words.proofs.table.Parities.word.Goals as goal

pub returns : goal.returns
returns c =
    c.word_by.ensures ∙ ap (λ (t : List ℕ). word_by t c.args.last c.args.byte) c.args.self.now.all_right ∙ word_by_lem c.args.last c.args.byte (search rules)
