-- What holds at each turn of the loop.
use Rattle.samples.specs.Layout.{widths}
use Rattle.queue.proofs.SendLaws.{Filled}
use Rattle.queue.proofs.queue.Queue.send_into.Given as goal

abbrev pub invariant-loop-i : goal.invariant-loop-i
invariant-loop-i l = Filled (widths l.edition) l.shadows l.initial.queue l.initial.out l.out l.queue l.i
