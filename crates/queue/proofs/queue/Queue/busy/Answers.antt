-- `queue::queue::Queue::busy` meets its contract: a Resource sample among the places passed settles it, and at the end none is left.
-- Assumes nothing.
use borrow.Author.Rules.{rules}
use native.Mathlib.Omega.{arith}
use Prim.Native.Nat.{ℕ, ◌<◌, min}
use mathlib.Core.Path.{◌≡◌, sym, ap, ◌∙◌}
use lib.ListN.{length, take}
use Rattle.std.proofs.lemmas.List.{get_or-take, length-take, take_min}
use Rattle.std.proofs.lemmas.List.Folds.{list_any_at}
use Rattle.samples.specs.Layout.{resource}
use Rattle.queue.specs.Queue.{any_resource, zero_held}
use Rattle.queue.specs.declared.queue.Held.{Held}
use Rattle.queue.proofs.QueueLaws.{any_list}
use Rattle.queue.proofs.queue.Queue.busy.Goals as goal

pub returns-then-is_resource : goal.returns-then-is_resource
returns-then-is_resource c =
    let q = c.args.self in
    let i = c.loop-i.i in
    let eight : length q.places ≡ 8 = search rules in
    let more : i < q.held = omega arith in
    let long : i < length (take q.held q.places) = omega (arith, length-take q.held q.places) in
    sym
    (any_list (take q.held q.places)
    ∙ list_any_at (λ (h : Held). resource h.header) (take q.held q.places) i zero_held long
    (ap (λ (h : Held). resource h.header) (get_or-take q.held q.places i zero_held more) ∙ sym c.is_resource.ensures ∙ c.if-is_resource.true))

pub returns : goal.returns
returns c =
    let q = c.args.self in
    let eight : length q.places ≡ 8 = search rules in
    let all : c.loop-i.i ≡ min q.held 8 = omega arith in
    sym
    (ap any_resource (sym (take_min q.held q.places))
    ∙ ap (λ (n : ℕ). any_resource (take (min q.held n) q.places)) eight
    ∙ ap (λ (n : ℕ). any_resource (take n q.places)) (sym all)
    ∙ any_list (take c.loop-i.i q.places)
    ∙ c.loop-i.invariant)
