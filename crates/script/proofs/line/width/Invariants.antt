-- What holds at each turn of the loop.
use mathlib.Core.Path.{◌≡◌}
use Prim.Native.Nat.{suc, ◌+◌, ◌-◌, ◌^◌, ◌<◌, ◌≤◌}
use Rattle.script.specs.Line.{width_of}
use Rattle.script.proofs.line.width.Given as goal

abbrev pub invariant-loop-rest : goal.invariant-loop-rest
invariant-loop-rest l =
    (1 ≤ l.size) × (l.size ≤ 20) × (l.rest < 10 ^ suc (20 - l.size)) × (width_of 19 l.n + 1 ≡ l.size + width_of (20 - l.size) l.rest)

abbrev pub decreases-loop-rest : goal.decreases-loop-rest
decreases-loop-rest l = l.rest
