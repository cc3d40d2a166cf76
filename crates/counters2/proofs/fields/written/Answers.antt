-- `counters2::fields::written` meets its contract: from the highest field down, the fields from i on. Assumes nothing.
use Rattle.std.proofs.Common.{ℕ, ◌+◌, ◌-◌, ◌*◌, ◌/◌, ◌^◌, ◌<◌, refl, ◌∙◌, ap₂, arith, rules}
use Rattle.counters2.specs.Fields.{kept, written_fields}
use Rattle.counters2.proofs.FieldLaws.{kept_below, written_room, written_step}
use Rattle.counters2.proofs.fields.written.Goals as goal

pub loop-i-init : goal.loop-i-init
unfolding written_fields
loop-i-init c = refl

pub overflow_mul-result : goal.overflow_mul-result
overflow_mul-result c =
    let a = c.args in
    let l = c.loop-i in
    omega (arith, written_room a.low l.i (a.old / 2 ^ (4 * l.i)) (a.new / 2 ^ (4 * l.i)) l.auto.i (search rules))

pub overflow_add-result : goal.overflow_add-result
overflow_add-result c =
    let a = c.args in
    let l = c.loop-i in
    let small : kept a.low c.field.result c.field-in-loop-i.result < 16 =
    kept_below a.low c.field.result c.field-in-loop-i.result (omega (arith, c.field.ensures)) (omega (arith, c.field-in-loop-i.ensures)) in
    omega (arith, written_room a.low l.i (a.old / 2 ^ (4 * l.i)) (a.new / 2 ^ (4 * l.i)) l.auto.i (search rules), c.kept.ensures)

pub loop-i-preserved : goal.loop-i-preserved
loop-i-preserved c =
    let a = c.args in
    let l = c.loop-i in
    ap₂ (λ (x y : ℕ). 16 * x + y) l.invariant (c.kept.ensures ∙ ap₂ (kept a.low) c.field.ensures c.field-in-loop-i.ensures)
    ∙ written_step a.low a.old a.new l.i (l.i - 1) (omega arith) (omega arith)
