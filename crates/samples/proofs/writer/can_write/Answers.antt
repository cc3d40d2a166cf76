-- `samples::writer::can_write` meets its contract: what the types don't bound is tested, and the counters of a Trace sample decide last.
-- Assumes nothing.
use lib.Dec.{leb}
use Rattle.samples.specs.declared.sample.Sample.{Sample}
use mathlib.Core.List.{List}
use borrow.Author.Rules.{rules}
use Prim.Native.Nat.{ℕ, ◌<◌, ◌^◌}
use mathlib.Core.Path.{◌≡◌, sym, ap, ◌∙◌}
use mathlib.Core.Bool.{Bool, true, ◌||◌, false}
use lib.ListN.{get_or, length}
use borrow.Author.Tests.{leb-false, leb-true}
use mir.Syntax.{w32}
use mir.Val.{Fits}
use Rattle.samples.specs.Layout.{counter_widths, widths, Widths, resource}
use Rattle.samples.specs.Write.{all_zero, within, writable}
use Rattle.samples.proofs.WriteLaws.{counters_decide, refuse_field, refuse_header, within_each}
use Rattle.samples.proofs.writer.can_write.Goals as goal

pub returns-then-sample-ge32 : goal.returns-then-sample-ge32
returns-then-sample-ge32 c = let a = c.args in sym (refuse_header (widths a.edition) a.sample (search rules))

pub returns-then-stamp_above : goal.returns-then-stamp_above
returns-then-stamp_above c =
    let a = c.args in
    sym
    (refuse_field (widths a.edition) a.sample 2
    (leb-true (256 ^ (widths a.edition).stamp_bytes) a.sample.stamp (sym c.stamp_above.ensures ∙ c.if-stamp_above.true)))

pub returns-then-user_above : goal.returns-then-user_above
returns-then-user_above c =
    let a = c.args in
    sym
    (refuse_field (widths a.edition) a.sample 3
    (leb-true (256 ^ (widths a.edition).user_bytes) a.sample.user (sym c.user_above.ensures ∙ c.if-user_above.true)))

-- counters of 32 bits are within their four bytes
counters-fit : (cs : List ℕ) → length cs ≡ 16 → ((i : ℕ) → get_or cs i 0 < 2 ^ 32) → within counter_widths cs ≡ true
counters-fit cs sixteen fit = within_each 4 16 cs sixteen fit

-- what is tested before the counters leaves the answer to them
decided : (w : Widths) (s : Sample) {stamp user long : Bool} → s.header < 32 → s.source < 2 ^ 32 → length s.counters ≡ 16 → ((i : ℕ) → Fits w32 (get_or s.counters i 0)) → stamp ≡ leb (256 ^ w.stamp_bytes) s.stamp → stamp ≡ false → user ≡ leb (256 ^ w.user_bytes) s.user → user ≡ false → long ≡ resource s.header → (long || all_zero s.counters) ≡ writable w s
decided w s header source sixteen fit e_stamp stamp e_user user e_long =
    ap (λ (r : Bool). r || all_zero s.counters) e_long
    ∙ sym
    (counters_decide w s header source
    (leb-false (256 ^ w.stamp_bytes) s.stamp (sym e_stamp ∙ stamp))
    (leb-false (256 ^ w.user_bytes) s.user (sym e_user ∙ user))
    (counters-fit s.counters sixteen (λ i. (fit i).fits)))

pub returns-then-is_resource : goal.returns-then-is_resource
returns-then-is_resource c =
    c.if-is_resource.true
    ∙ rw c.if-is_resource.true at (decided (widths c.args.edition) c.args.sample (search rules) (search rules) (search rules) (λ i. search rules) c.stamp_above.ensures c.if-stamp_above.false c.user_above.ensures c.if-user_above.false c.is_resource.ensures)

pub returns-else-is_resource : goal.returns-else-is_resource
returns-else-is_resource c =
    c.all_zero.ensures
    ∙ rw c.if-is_resource.false at (decided (widths c.args.edition) c.args.sample (search rules) (search rules) (search rules) (λ i. search rules) c.stamp_above.ensures c.if-stamp_above.false c.user_above.ensures c.if-user_above.false c.is_resource.ensures)
