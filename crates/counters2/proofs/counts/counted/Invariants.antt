-- What holds at each turn of the loop, by any function that tells each call's result: the first i counters are grown, and the wraps are those of
-- the counter before.
use Rattle.std.proofs.Common.{◌≡◌, ℕ, ◌<◌, List}
use Rattle.counters.specs.Bank.{grown}
use Rattle.counters.proofs.EachLaws.{turned}
use Rattle.counters2.specs.Counts.{carried, reaching}
use Rattle.counters2.proofs.counts.counted.Given as goal

-- what becomes of counter i with the number v
abbrev pub next : ℕ → (ℕ → ℕ) → List ℕ → ℕ → ℕ → ℕ
next mode own vs i v = grown v (reaching mode own vs i)

abbrev pub invariant-loop-i : goal.invariant-loop-i
invariant-loop-i g l =
    (f : ℕ → ℕ) → ((i r : ℕ) → i < 16 → goal.F-post g l.own i r → r ≡ f i) → (l.values ≡ turned (next l.mode f l.initial.values) l.initial.values l.i) × (l.carry ≡ carried f l.initial.values l.i)
