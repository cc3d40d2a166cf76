-- `samples::sample::field_byte` meets its contract: the tests find the field that the place falls into. Assumes nothing.
use borrow.Author.Rules.{rules}
use Prim.Native.Nat.{◌+◌, ◌-◌}
use native.Mathlib.Omega.{arith}
use mathlib.Core.Path.{sym, ◌∙◌}
use Rattle.samples.specs.Layout.{widths}
use Rattle.samples.proofs.SampleLaws.{at_field, at_none}
use Rattle.samples.proofs.sample.field_byte.Goals as goal

pub returns-then-place-lt1 : goal.returns-then-place-lt1
returns-then-place-lt1 c =
    let a = c.args in
    c.byte_at.ensures ∙ sym (at_field (widths a.edition) a.header a.source a.stamp a.user 0 a.place a.place (search rules) (search rules))

pub returns-then-place-lt5 : goal.returns-then-place-lt5
returns-then-place-lt5 c =
    let a = c.args in
    c.byte_at-then-place-lt5.ensures
    ∙ sym (at_field (widths a.edition) a.header a.source a.stamp a.user 1 a.place (a.place - 1) (search rules) (search rules))

pub returns-then-place-after_stamp : goal.returns-then-place-after_stamp
returns-then-place-after_stamp c =
    let a = c.args in
    c.byte_at-then-place-after_stamp.ensures
    ∙ sym
    (at_field (widths a.edition) a.header a.source a.stamp a.user 2 a.place (a.place - 5)
    (omega (arith, c.stamp_bytes-after_stamp.ensures)) (omega arith))

pub returns-then-place-trace_bytes : goal.returns-then-place-trace_bytes
returns-then-place-trace_bytes c =
    let a = c.args in
    c.byte_at-then-place-trace_bytes.ensures
    ∙ sym
    (at_field (widths a.edition) a.header a.source a.stamp a.user 3 a.place (a.place - (5 + c.stamp_bytes-after_stamp.result))
    (omega (arith, c.stamp_bytes-after_stamp.ensures, c.trace_bytes.ensures)) (omega (arith, c.stamp_bytes-after_stamp.ensures)))

pub returns : goal.returns
returns c =
    let a = c.args in
    sym (at_none (widths a.edition) a.header a.source a.stamp a.user a.place (omega (arith, c.trace_bytes.ensures)))
