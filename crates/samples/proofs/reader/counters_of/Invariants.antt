-- What holds at each turn of the loop: the counters before this one are the numbers of their bytes.
use Prim.Native.Nat.{ℕ, ◌*◌, ◌<◌}
use mathlib.Core.Path.{◌≡◌}
use mathlib.Core.List.{map}
use lib.ListN.{drop, get_or, take}
use Rattle.words.specs.Bytes.{number}
use Rattle.words.specs.Word.{byte_of}
use Rattle.samples.proofs.reader.counters_of.Given as goal

abbrev pub invariant-loop-i : goal.invariant-loop-i
invariant-loop-i l = (k : ℕ) → k < l.i → get_or l.counter-items k 0 ≡ number (take 4 (drop (4 * k) (drop l.start (map byte_of l.part))))
