-- The text of a record's answer: document 01's line, "reply, space, value in decimal, newline", and "for kind 7 the words follow on the line,
-- a space and a decimal number each, before the newline".
use Rattle.std.specs.Prelude.{ℕ, List, [], ◌∷◌, ◌++◌}
use Rattle.script.specs.Line.{decimal}

-- 32 is a space
unfoldable pub spaced : List ℕ → List ℕ
spaced [] = []
spaced (w ∷ ws) = 32 ∷ decimal w ++ spaced ws

-- 10 is a newline; with no words it is document 01's line
unfoldable pub words_line : ℕ → ℕ → List ℕ → List ℕ
words_line number value words = decimal number ++ (32 ∷ decimal value ++ (spaced words ++ (10 ∷ [])))
