-- What holds at each turn of the loop.
use mathlib.Core.Path.{◌≡◌}
use mathlib.Core.Bool.{false}
use lib.ListN.{take}
use Rattle.std.specs.List.{list_any}
use Rattle.samples.specs.Layout.{resource}
use Rattle.queue.specs.declared.queue.Held.{Held}
use Rattle.queue.proofs.queue.Queue.busy.Given as goal

abbrev pub invariant-loop-i : goal.invariant-loop-i
invariant-loop-i l = list_any (λ (h : Held). resource h.header) (take l.i l.self.places) ≡ false
