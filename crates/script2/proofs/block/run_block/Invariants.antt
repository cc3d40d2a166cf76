-- `script2::block::run_block`: after i records the chip and the text are those of the first i (`Ran`), and the room for words is as it was.
use mathlib.Core.Path.{◌≡◌}
use lib.ListN.{length}
use Rattle.script2.specs.Run.{second}
use Rattle.turns.proofs.BlockLaws.{Ran}
use Rattle.script2.proofs.block.run_block.Given as goal

abbrev pub invariant-loop-i : goal.invariant-loop-i
invariant-loop-i l = (length l.words ≡ 1000) × Ran second l.input l.initial.out l.initial.state l.i l.state l.at l.out
