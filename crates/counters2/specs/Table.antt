-- Document 001, Tables B5, B6 and B7, a second time: what each of the sixteen fields says, one after the other, as the tables print them.
use Rattle.std.specs.Prelude.{ℕ, List, [], ◌∷◌}

-- the fields 0000 to 1111
abbrev pub sixteen : List ℕ
sixteen = 0 ∷ 1 ∷ 2 ∷ 3 ∷ 4 ∷ 5 ∷ 6 ∷ 7 ∷ 8 ∷ 9 ∷ 10 ∷ 11 ∷ 12 ∷ 13 ∷ 14 ∷ 15 ∷ []

-- Table B5: 0 nothing, 1 clock, 2 software, 3 clock while the line is high, 4 external
abbrev pub mode_table : List ℕ
mode_table = 0 ∷ 1 ∷ 2 ∷ 3 ∷ 4 ∷ 1 ∷ 2 ∷ 3 ∷ 0 ∷ 1 ∷ 2 ∷ 3 ∷ 4 ∷ 1 ∷ 2 ∷ 3 ∷ []

-- Table B6: 0 nothing, 1 node, 2 a tenth, 3 a hundredth, 4 Timestamp
abbrev pub clock_table : List ℕ
clock_table = 0 ∷ 1 ∷ 2 ∷ 3 ∷ 4 ∷ 1 ∷ 2 ∷ 3 ∷ 0 ∷ 1 ∷ 2 ∷ 3 ∷ 4 ∷ 1 ∷ 2 ∷ 3 ∷ []

-- Table B7: 0 nothing, 1 disabled, 2 enabled, 3 enabled after a reset
abbrev pub enable_table : List ℕ
enable_table = 0 ∷ 1 ∷ 2 ∷ 3 ∷ 0 ∷ 1 ∷ 2 ∷ 3 ∷ 0 ∷ 1 ∷ 2 ∷ 3 ∷ 0 ∷ 1 ∷ 2 ∷ 3 ∷ []
