-- `samples_test::stream::read_on` is safe and ends: a sample's words are some and within the part, so each brings the place nearer to the end.
-- Assumes nothing.
use mathlib.Core.List.{List}
use Prim.Native.Nat.{◌<◌, ◌≤◌, ◌-◌, ℕ}
use native.Mathlib.Omega.{arith}
use mathlib.Core.Path.{◌≡◌, refl, sym, ap, ◌∙◌}
use lib.ListN.{length, take, drop, length-take, length-drop}
use Rattle.samples.specs.Layout.{Widths, widths}
use Rattle.samples.specs.Read.{Found, read_part}
use Rattle.samples.proofs.Theorems.{accepted_count}
use Rattle.samples_test.proofs.stream.read_on.Goals as goal

-- the words taken so far and those of this reading
within : (w : Widths) (words : List ℕ) (at : ℕ) {r : Found} → r ≡ read_part w (take (length words - at) (drop at words)) → r.number ≡ 0 → (0 < r.count) × (r.count ≤ length words - at)
within w words at e sample =
    let part = take (length words - at) (drop at words) in
    let size = accepted_count w part (sym (ap (λ (f : Found). f.number) e) ∙ sample) in
    let same = ap (λ (f : Found). f.count) e in
    (omega (arith, same, size.0), omega (arith, same, size.1, length-take (length words - at) (drop at words), length-drop at words))

pub overflow_add-at : goal.overflow_add-at
overflow_add-at c = omega (arith, within (widths c.args.edition) c.args.words.now c.loop-at.at c.in-Ok.ensures refl, c.loop-at.invariant)

pub loop-at-smaller : goal.loop-at-smaller
loop-at-smaller c = omega (arith, within (widths c.args.edition) c.args.words.now c.loop-at.at c.in-Ok.ensures refl, c.loop-at.invariant)

pub loop-at-preserved : goal.loop-at-preserved
loop-at-preserved c = omega (arith, within (widths c.args.edition) c.args.words.now c.loop-at.at c.in-Ok.ensures refl, c.loop-at.invariant)
