-- What holds at each turn of the loop.
use Prim.Native.Nat.{◌-◌}
use mathlib.Core.Path.{◌≡◌}
use lib.ListN.{length}
use Rattle.walk.specs.Walk.{after_boundary}
use Rattle.walk.proofs.after_boundary.Given as goal

abbrev pub invariant-loop-i : goal.invariant-loop-i
invariant-loop-i l = after_boundary l.capture l.start ≡ after_boundary l.capture l.i

abbrev pub decreases-loop-i : goal.decreases-loop-i
decreases-loop-i l = length l.capture - l.i
