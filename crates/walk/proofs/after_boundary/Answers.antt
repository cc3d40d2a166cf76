-- `walk::after_boundary` meets its contract: at each turn the first boundary from i on is the one that is looked for. Assumes nothing.
use native.Mathlib.Omega.{arith}
use native.Mathlib.Numerals.{add-one}
use Rattle.walk.proofs.BoundaryLaws.{after_end, after_here, after_next}
use Rattle.walk.proofs.after_boundary.Goals as goal

pub loop-i-preserved : goal.loop-i-preserved
loop-i-preserved c = rw add-one (grind (arith, after_next))

pub returns-then-capture-i : goal.returns-then-capture-i
returns-then-capture-i c = grind (arith, after_end)

pub returns-then-is_boundary : goal.returns-then-is_boundary
returns-then-is_boundary c = grind (arith, after_here)
