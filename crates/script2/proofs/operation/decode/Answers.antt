-- `script2::operation::decode` meets its contract: sixteen bytes with their zero ones are taken by their kind, two of them and their last
-- eight are numbers. Assumes nothing.
use Rattle.std.proofs.Common.{◌≡◌, ◌≢◌, ap₂, ◌∙◌, arith, drop, length, take}
use borrow.Author.Tests.{eq-eqb, ne_eqb}
use lib.ListN.{get_or}
use Rattle.words.specs.Bytes.{number}
use Rattle.script.proofs.RecordLaws.{four_bytes}
use Rattle.script2.specs.Record.{by_kind, operation_of}
use Rattle.script2.proofs.RecordLaws.{bytes_more, two_bytes}
use Rattle.script2.proofs.operation.decode.Goals as goal

pub returns-in_default : goal.returns-in_default
unfolding operation_of
returns-in_default c =
    let ne : length c.args.bytes.now ≢ 16 = omega arith in
    rw (ne_eqb (length c.args.bytes.now) 16 ne)

pub returns-in_default-2 : goal.returns-in_default-2
unfolding operation_of
returns-in_default-2 c =
    let ne : length c.args.bytes.now ≢ 16 = omega arith in
    rw (ne_eqb (length c.args.bytes.now) 16 ne)

pub returns-then-zero-sixth : goal.returns-then-zero-sixth
unfolding operation_of
returns-then-zero-sixth c =
    let l = c.args.bytes.now in
    let sixteen : length l ≡ 16 = omega arith in
    let two = two_bytes l 4 (omega arith) in
    let low = four_bytes l 8 (omega arith) in
    let high = four_bytes l 12 (omega arith) in
    let both = bytes_more 4 4 8 l (omega arith) in
    let levels : c.from_le_bytes-levels.result ≡ number (take 2 (drop 4 l)) = omega (arith, c.from_le_bytes-levels.ensures, two) in
    let bits : c.from_le_bytes-bits.result ≡ number (take 8 (drop 8 l)) = omega (arith, c.from_le_bytes-bits.ensures, low, high, both) in
    c.by_kind.ensures ∙ ap₂ (by_kind (get_or l 0 0) (get_or l 1 0) (get_or l 2 0)) levels bits
    ∙ rw (eq-eqb (length l) 16 sixteen, c.if-zero-sixth.true)

pub returns : goal.returns
unfolding operation_of
returns c =
    let l = c.args.bytes.now in
    let sixteen : length l ≡ 16 = omega arith in
    rw (eq-eqb (length l) 16 sixteen, c.if-zero-sixth.false)
