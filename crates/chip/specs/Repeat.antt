-- Document 01, "The chip's operations": "does what k single ticks do", "does what that many single sends do". One operation several times.
use Rattle.std.specs.Prelude.{ℕ, zero, suc, List, [], ◌∷◌}
use Rattle.chip.specs.Operation.{Operation, step}
use Rattle.chip.specs.declared.chip.Chip.{Chip}

-- the chip after an operation k times
unfoldable pub repeat : ℕ → Operation → Chip → Chip
repeat zero op c = c
repeat (suc k) op c = repeat k op (step op c).chip

-- and the values that it gave, one after the other
unfoldable pub given : ℕ → Operation → Chip → List ℕ
given zero op c = []
given (suc k) op c = (step op c).value ∷ given k op (step op c).chip
