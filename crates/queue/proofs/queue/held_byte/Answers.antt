-- `queue::queue::held_byte` meets its contract: a place past the fields is a Resource sample's, whose counters are the shadows.
-- Assumes nothing.
use borrow.Author.Rules.{rules}
use native.Mathlib.Omega.{arith}
use Prim.Native.Nat.{ℕ, ◌-◌, ◌≤◌, ◌<◌}
use native.Mathlib.Nat.{lt_irrefl}
use mathlib.Core.Path.{◌≡◌, refl, sym, ap, ◌∙◌}
use mathlib.Core.Bool.{Bool, true, false, cond}
use lib.ListN.{get_or, replicate}
use Rattle.samples.specs.Layout.{Widths, counter_bytes, field_widths, resource, sample_length, total, widths}
use Rattle.samples.proofs.SampleLaws.{sample_before, sample_after}
use Rattle.queue.specs.Queue.{held_sample}
use Rattle.queue.proofs.queue.held_byte.Goals as goal

-- only a Resource sample has a place past the fields
past-fields : (w : Widths) (r : Bool) (place : ℕ) → total (field_widths w) ≤ place → place < sample_length w r → r ≡ true
past-fields w true place h k = refl
past-fields w false place h k = absurd (lt_irrefl place (omega arith))

pub returns-then-place-first_counter : goal.returns-then-place-first_counter
returns-then-place-first_counter c =
    let f = c in
    let a = f.args in
    c.field_byte.ensures
    ∙ sym (sample_before (widths a.edition) (held_sample a.shadows a.h) a.place (omega (arith, f.trace_bytes-first_counter.ensures)))

pub returns : goal.returns
returns c =
    let f = c in
    let a = f.args in
    let long : resource a.h.header ≡ true = past-fields (widths a.edition) (resource a.h.header) a.place (omega (arith, f.trace_bytes-first_counter.ensures)) f.requires in
    c.counter_byte.ensures
    ∙ ap (λ (b : Bool). get_or (counter_bytes (cond b a.shadows (replicate 16 0))) (a.place - f.trace_bytes-first_counter.result) 0) (sym long)
    ∙ sym
    (sample_after (widths a.edition) (held_sample a.shadows a.h) a.place f.trace_bytes-first_counter.result f.trace_bytes-first_counter.ensures (search rules) long)
