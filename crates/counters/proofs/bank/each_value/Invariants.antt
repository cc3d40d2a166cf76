-- What holds at each turn of the loop: the first i places hold what any function that tells each call's result gives there.
use Rattle.std.proofs.Common.{◌≡◌, ℕ, ◌<◌}
use Rattle.counters.proofs.EachLaws.{turned}
use Rattle.counters.proofs.bank.each_value.Given as goal

abbrev pub invariant-loop-i : goal.invariant-loop-i
invariant-loop-i g l =
    (next : ℕ → ℕ → ℕ) → ((i v r : ℕ) → i < 16 → goal.F-post g l.f i v r → r ≡ next i v) → l.values ≡ turned next l.initial.values l.i
