-- Document 01, "Counters" and "Address map" 10: sixteen, 32 bits, wrapping, with a shadow each.
use Rattle.std.specs.Prelude.{ℕ, suc, ◌+◌, ◌/◌, ◌%◌, ◌^◌, Bool, cond, List, [], ◌∷◌, replicate, ◌==◌}
use Rattle.counters.specs.declared.bank.Bank.{Bank}

-- "every part becomes zero"
abbrev pub zero_bank : Bank
zero_bank = record { values = replicate 16 0; shadows = replicate 16 0 }

-- bit i of x
abbrev pub bit : ℕ → ℕ → Bool
bit x i = x / 2 ^ i % 2 == 1

-- a number of 32 bits that grows by k and wraps
abbrev pub grown : ℕ → ℕ → ℕ
grown v k = (v + k) % 2 ^ 32

-- each number of a list becomes f of its place and itself, places counted from i
unfoldable pub each : (ℕ → ℕ → ℕ) → ℕ → List ℕ → List ℕ
each f i [] = []
each f i (v ∷ vs) = f i v ∷ each f (suc i) vs

-- k events for each counter that f names
abbrev pub counting : (ℕ → Bool) → ℕ → Bank → Bank
counting f k b = record { values = each (λ i v. cond (f i) (grown v k) v) 0 b.values; shadows = b.shadows }

-- "clear the counters of the set bits"
abbrev pub cleared : ℕ → Bank → Bank
cleared mask b = record { values = each (λ i v. cond (bit mask i) 0 v) 0 b.values; shadows = b.shadows }

-- "copies all sixteen to the shadows"
abbrev pub copied : Bank → Bank
copied b = record { values = b.values; shadows = b.values }
