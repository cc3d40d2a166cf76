-- Document 01, "The chip's operations", on the MultiKron II: "does what k single ticks do", "does what that many single sends do". One operation
-- several times.
use Rattle.std.specs.Prelude.{ℕ, zero, suc, List, [], ◌∷◌}
use Rattle.chip2.specs.Operation.{Operation, step}
use Rattle.chip2.specs.declared.chip2.Chip2.{Chip2}

-- the chip after an operation k times
unfoldable pub repeat : ℕ → Operation → Chip2 → Chip2
repeat zero op c = c
repeat (suc k) op c = repeat k op (step op c).chip

-- and the values that it gave, one after the other
unfoldable pub given : ℕ → Operation → Chip2 → List ℕ
given zero op c = []
given (suc k) op c = (step op c).value ∷ given k op (step op c).chip
