-- The words behind the place are fewer at each turn.
use Prim.Native.Nat.{◌-◌}
use lib.ListN.{length}
use Rattle.walk_test.proofs.walking.walk_on.Given as goal

abbrev pub decreases-loop-next : goal.decreases-loop-next
decreases-loop-next l = length l.capture - l.place
