-- `words::word::word_by` meets its contract: the bit that is looked up is 0 or 1, and the mark adds bit 9. Assumes nothing.
use native.Mathlib.Omega.{arith}
use mathlib.Core.Path.{ap}
use Rattle.words.specs.Table.{word_by}
use Rattle.words.specs.Word.{mark_bit}
use Rattle.words.proofs.word.word_by.Goals as goal

pub returns-then-last : goal.returns-then-last
unfolding word_by
returns-then-last c = omega (arith, ap mark_bit c.if-last.true)

pub returns-else-last : goal.returns-else-last
unfolding word_by
returns-else-last c = omega (arith, ap mark_bit c.if-last.false)
