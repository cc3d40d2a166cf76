-- `script::operation::decode` meets its contract: a whole record with a zero byte is taken by its kind. Assumes nothing.
use mathlib.Core.Path.{ap, ◌∙◌}
use borrow.Author.Tests.{eq-eqb, ne_eqb}
use lib.ListN.{get_or, length}
use Rattle.script.specs.Record.{by_kind, operation_of}
use Rattle.script.proofs.operation.decode.Goals as goal

pub returns-then-bytes-ne12 : goal.returns-then-bytes-ne12
unfolding operation_of
returns-then-bytes-ne12 c = rw (ne_eqb (length c.args.bytes.now) 12 c.if-bytes-ne12.true)

pub returns-then-bytes-ne0 : goal.returns-then-bytes-ne0
unfolding operation_of
returns-then-bytes-ne0 c =
    let l = c.args.bytes.now in
    rw (eq-eqb (length l) 12 c.if-bytes-ne12.false, ne_eqb (get_or l 3 0) 0 c.if-bytes-ne0.true)

pub returns : goal.returns
unfolding operation_of
returns c =
    let l = c.args.bytes.now in
    c.by_kind.ensures ∙ ap (by_kind (get_or l 0 0) (get_or l 1 0) (get_or l 2 0)) c.bits_of.ensures
    ∙ rw (eq-eqb (length l) 12 c.if-bytes-ne12.false, eq-eqb (get_or l 3 0) 0 c.if-bytes-ne0.false)
