-- What holds at each turn of the loop.
use mathlib.Core.Path.{◌≡◌}
use Rattle.words.proofs.ReplaceLaws.{replaced}
use Rattle.queue.proofs.places.stored.Given as goal

abbrev pub invariant-loop-i : goal.invariant-loop-i
invariant-loop-i g l = l.places ≡ replaced l.initial.places l.at l.new l.i
