-- `samples::sample::counter_byte` meets its contract: four bytes to a counter, so place / 4 is the counter and place % 4 its byte.
-- Assumes nothing.
use borrow.Author.Rules.{rules}
use native.Mathlib.Nat.{zero-lt-suc}
use Prim.Native.Nat.{ℕ, ◌%◌, zero-le}
use mathlib.Core.Path.{sym, ap, ◌∙◌}
use lib.ListN.{get_or-eq_default}
use Rattle.words.specs.Bytes.{byte_at}
use Rattle.words.proofs.ByteLaws.{byte_past}
use Rattle.samples.specs.Layout.{counter_bytes}
use Rattle.samples.proofs.Spread.{spread_each}
use Rattle.samples.proofs.sample.counter_byte.Goals as goal

pub returns-then-i-lt16 : goal.returns-then-i-lt16
unfolding counter_bytes
returns-then-i-lt16 c =
    let a = c.args in
    c.byte_at.ensures ∙ sym (spread_each 4 16 a.counters a.place (zero-lt-suc 3) (search rules))

pub returns-else-i-lt16 : goal.returns-else-i-lt16
unfolding counter_bytes
returns-else-i-lt16 c =
    let a = c.args in
    sym
    (spread_each 4 16 a.counters a.place (zero-lt-suc 3) (search rules)
    ∙ ap (λ (x : ℕ). byte_at x (a.place % 4)) (get_or-eq_default a.counters 0 (search rules))
    ∙ byte_past 0 0 (a.place % 4) (zero-lt-suc 0) zero-le)
