-- A format of records: how many bytes one has, what its bytes do to the chip, the line that they give, and how many places a buffer has to
-- have for each line.
use Rattle.std.specs.Prelude.{ℕ, List}

pub record Form (C : Type 0) : Type 0 where
  pub size : ℕ
  pub room : ℕ
  pub next : List ℕ → C → C
  pub line : List ℕ → C → List ℕ
