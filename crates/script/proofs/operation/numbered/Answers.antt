-- `script::operation::numbered` meets its contract: the number is the definition's. Assumes nothing.
use Rattle.script.proofs.operation.numbered.Goals as goal

pub returns : goal.returns
returns c = λ i. record { chip = c.args.answer.chip; value = c.args.answer.value; number = c.number.ensures i }
