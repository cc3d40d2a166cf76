-- `walk_test::walking::walk_on` is safe and ends: a sample and a gap bring the walk on, within the capture. Assumes nothing.
use borrow.Author.Tests.{ne_eqb}
use native.Mathlib.Omega.{arith}
use mathlib.Core.Path.{◌≡◌, refl, sym, ap, ◌∙◌, subst}
use mathlib.Core.Bool.{false}
use mathlib.Core.List.{List}
use Prim.Native.Nat.{ℕ, ◌≤◌, ◌<◌}
use lib.Dec.{eqb}
use lib.ListN.{length}
use Rattle.samples.specs.Layout.{Widths, widths}
use Rattle.samples.specs.Read.{fault_number}
use Rattle.walk.specs.Walk.{Answer, answer_at}
use Rattle.walk.proofs.Answers.{gap_number, moves_on}
use Rattle.walk_test.proofs.walking.walk_on.Goals as goal

on : (w : Widths) (words : List ℕ) (place : ℕ) {a : Answer} → a ≡ answer_at w words place → eqb a.number 20 ≡ false → (place < a.next) × (a.next ≤ length words)
on w words place told other =
    subst (λ (a : Answer). (place < a.next) × (a.next ≤ length words)) (sym told)
    (moves_on w words place (sym (ap (λ (a : Answer). eqb a.number 20) told) ∙ other))

pub loop-next-smaller-in-Whole : goal.loop-next-smaller-in-Whole
loop-next-smaller-in-Whole c =
    omega (arith, on (widths c.args.edition) c.args.capture.now c.loop-next.place c.in-Whole.ensures refl)

pub loop-next-smaller : goal.loop-next-smaller
loop-next-smaller c =
    let gap = c.in-Gap.gap in
    let other = ne_eqb (fault_number gap.fault) 20 (λ e. omega (arith, e, gap_number gap.fault gap.bad_word)) in
    omega (arith, on (widths c.args.edition) c.args.capture.now c.loop-next.place c.in-Gap.ensures other)
