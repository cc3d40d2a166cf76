-- `samples::reader::fault_at` meets its contract: each return is the fault by the tests that led there. Assumes nothing.
use mathlib.Core.Path.{refl}
use Rattle.samples.proofs.ReadLaws.{fault_marked, fault_told}
use Rattle.samples.proofs.reader.fault_at.Goals as goal

pub returns-then-too_large : goal.returns-then-too_large
returns-then-too_large c = rw c.if-too_large.true at (fault_told c.args.last c.args.place c.args.word c.too_large.ensures refl refl refl)

pub returns-then-not-odd_ones : goal.returns-then-not-odd_ones
returns-then-not-odd_ones c =
    rw (c.if-too_large.false, c.if-not-odd_ones.true) at (fault_told c.args.last c.args.place c.args.word c.too_large.ensures c.odd_ones.ensures refl refl)

pub returns-then-bad_header : goal.returns-then-bad_header
returns-then-bad_header c =
    rw (c.if-too_large.false, c.if-not-odd_ones.false, c.if-bad_header.true) at (fault_told c.args.last c.args.place c.args.word c.too_large.ensures c.odd_ones.ensures c.bad_header.ensures refl)

pub returns-then-marked-last : goal.returns-then-marked-last
returns-then-marked-last c =
    rw (c.if-too_large.false, c.if-not-odd_ones.false, c.if-bad_header.false, fault_marked c.args.last c.marked.result c.if-marked-last.true) at (fault_told c.args.last c.args.place c.args.word c.too_large.ensures c.odd_ones.ensures c.bad_header.ensures c.marked.ensures)

pub returns : goal.returns
returns c =
    rw (c.if-too_large.false, c.if-not-odd_ones.false, c.if-bad_header.false, fault_marked c.args.last c.marked.result c.if-marked-last.false) at (fault_told c.args.last c.args.place c.args.word c.too_large.ensures c.odd_ones.ensures c.bad_header.ensures c.marked.ensures)
