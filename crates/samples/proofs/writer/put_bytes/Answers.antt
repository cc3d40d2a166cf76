-- `samples::writer::put_bytes` meets its contract: the fields' words, and behind them the counters' of a Resource sample. Assumes
-- nothing.
use Prim.Native.Nat.{ℕ}
use mathlib.Core.Path.{sym, refl, ap, ◌∙◌}
use mathlib.Core.Bool.{Bool, cond}
use mathlib.Core.List.{List, []}
use lib.Seq.{sets}
use Rattle.words.proofs.PutLaws.{plain}
use Rattle.samples.specs.Layout.{counter_bytes, field_bytes, field_widths, total, widths}
use Rattle.samples.proofs.PutLaws.{put_rest}
use Rattle.samples.proofs.writer.put_bytes.Goals as goal

pub returns-then-is_resource : goal.returns-then-is_resource
returns-then-is_resource c =
    let a = c.args in
    let s = a.sample in
    let fields = field_bytes (widths a.edition) s.header s.source s.stamp s.user in
    c.put_counters.ensures
    ∙ ap (λ (l : List ℕ). sets l c.trace_bytes.result (plain (counter_bytes s.counters))) c.put_fields.ensures
    ∙ ap (λ (b : Bool). sets (sets a.out.now 0 (plain fields)) c.trace_bytes.result (plain (cond b (counter_bytes s.counters) []))) (sym c.if-is_resource.true ∙ c.is_resource.ensures)
    ∙ put_rest (widths a.edition) s a.out.now c.trace_bytes.result c.trace_bytes.ensures

pub returns-else-is_resource : goal.returns-else-is_resource
returns-else-is_resource c =
    let a = c.args in
    let s = a.sample in
    let fields = field_bytes (widths a.edition) s.header s.source s.stamp s.user in
    let n = total (field_widths (widths a.edition)) in
    c.put_fields.ensures
    ∙ ap (λ (b : Bool). sets (sets a.out.now 0 (plain fields)) n (plain (cond b (counter_bytes s.counters) []))) (sym c.if-is_resource.false ∙ c.is_resource.ensures)
    ∙ put_rest (widths a.edition) s a.out.now n refl
