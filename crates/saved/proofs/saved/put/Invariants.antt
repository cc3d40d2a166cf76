-- What holds at each turn of the loop.
use Rattle.std.proofs.Common.{◌≡◌, ◌++◌, drop, take}
use Rattle.saved.specs.Saved.{saved_bytes}
use Rattle.saved.proofs.saved.put.Given as goal

abbrev pub invariant-loop-i : goal.invariant-loop-i
invariant-loop-i l = l.out ≡ take l.i (saved_bytes l.set) ++ drop l.i l.initial.out
