-- `script::block::run_block`: after i records the chip and the text are those of the first i (`Ran`).
use Rattle.script.specs.Run.{bench}
use Rattle.turns.proofs.BlockLaws.{Ran}
use Rattle.script.proofs.block.run_block.Given as goal

abbrev pub invariant-loop-i : goal.invariant-loop-i
invariant-loop-i l = Ran bench l.input l.initial.out l.initial.state l.i l.state l.at l.out
