-- What holds at each turn of the loop.
use Prim.Native.Nat.{ℕ, ◌+◌, ◌-◌, ◌*◌}
use mathlib.Core.Path.{◌≡◌}
use mathlib.Core.List.{List}
use lib.ListN.{drop, replicate}
use lib.Seq.{sets}
use Rattle.words.proofs.PutLaws.{plain}
use Rattle.samples.specs.Layout.{counter_bytes, spread}
use Rattle.samples.proofs.writer.put_counters.Given as goal

-- the words of n counters, put from a place on
abbrev pub put : List ℕ → ℕ → ℕ → List ℕ → List ℕ
put l p n xs = sets l p (plain (spread (replicate n 4) xs))

abbrev pub invariant-loop-i : goal.invariant-loop-i
invariant-loop-i l =
    sets l.initial.out l.start (plain (counter_bytes l.counter-items)) ≡ put l.out (l.start + 4 * l.i) (16 - l.i) (drop l.i l.counter-items)
