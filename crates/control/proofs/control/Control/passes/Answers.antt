-- `control::control::Control::passes` meets its contract: the Filter has no bit past the sixteenth. Assumes nothing.
use Rattle.std.proofs.Common.{sym, rules}
use Rattle.counters.proofs.BitLaws.{bit_past}
use Rattle.control.proofs.control.Control.passes.Goals as goal

pub returns-else-level-lt16 : goal.returns-else-level-lt16
returns-else-level-lt16 c = sym (bit_past 16 c.args.self.filter c.args.level (search rules) (search rules))
