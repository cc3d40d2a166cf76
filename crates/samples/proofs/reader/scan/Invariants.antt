-- What holds at each turn of the loop.
use Rattle.samples.proofs.ReadLaws.{Past}
use Rattle.samples.proofs.reader.scan.Given as goal

abbrev pub invariant-loop-place : goal.invariant-loop-place
invariant-loop-place l = Past l.count l.place l.part
