-- Document 02, Wish 10, a second time: "14 a saved field that its register can never hold", by the bytes. A byte has two fields of four bits, the lower one
-- first; bytes 64 to 71 are Enable's, 72 to 87 those of Mode and Clock Select.
use Rattle.std.specs.Prelude.{ℕ, ◌/◌, ◌%◌, Bool, false, ◌||◌, List, [], ◌∷◌, eqb, drop, take}

-- a byte with a field that is zero below `low`
abbrev pub poor : ℕ → ℕ → Bool
poor low byte = eqb (byte % low) 0 || eqb (byte / 16 % low) 0

unfoldable pub some_poor : ℕ → List ℕ → Bool
some_poor low [] = false
some_poor low (b ∷ bs) = poor low b || some_poor low bs

-- "an Enable field with low bits 00, a Mode or Clock Select field with low bits 000"
unfoldable pub poor_set : List ℕ → Bool
poor_set saved = some_poor 4 (take 8 (drop 64 saved)) || some_poor 8 (take 16 (drop 72 saved))
