-- `samples::reader::read` meets its contract: the first byte says how many words are wanted, the scan of those words decides,
-- and a good scan has seen them all. Assumes nothing.
use Prim.Native.Nat.{ℕ}
use native.Mathlib.Omega.{arith}
use mathlib.Core.Path.{◌≡◌, sym, ap, ◌∙◌}
use mathlib.Core.List.{List}
use lib.ListN.{length, get_or}
use borrow.Author.Tests.{eqb-true}
use Rattle.std.proofs.lemmas.Result.{err_from_is_err_and}
use Rattle.words.specs.Word.{byte_of}
use Rattle.samples.specs.declared.edition.Edition.{Edition}
use Rattle.samples.specs.Layout.{resource, sample_length, widths}
use Rattle.samples.specs.Read.{decided_at, scan, wanted}
use Rattle.samples.proofs.ReadLaws.{read_good, read_bad, read_empty, scan_whole, scanned_good}
use Rattle.samples.proofs.reader.read.Goals as goal

pub returns-then-is_empty : goal.returns-then-is_empty
returns-then-is_empty c = read_empty (widths c.args.edition) c.args.part.now (eqb-true (length c.args.part.now) 0 (sym c.is_empty.ensures ∙ c.if-is_empty.true))

-- the words that the code wants are those of the definition
size : (edition : Edition) (ws : List ℕ) {n b : ℕ} → n ≡ sample_length (widths edition) (resource b) → b ≡ byte_of (get_or ws 0 0) → n ≡ wanted (widths edition) ws
size edition ws e f = e ∙ ap (λ (x : ℕ). sample_length (widths edition) (resource x)) f

pub returns-in_err-scan : goal.returns-in_err-scan
returns-in_err-scan c =
    let p = err_from_is_err_and c.from_residual.result c.from_residual.ensures.1 in
    rw (p.1, p.2) (read_bad (widths c.args.edition) c.args.part.now c.word_count-count.result c.in_err-scan.field-0.0 (size c.args.edition c.args.part.now c.word_count-count.ensures c.byte.ensures) c.in_err-scan.ensures)

pub decode-requires : goal.decode-requires
decode-requires c =
    let ws = c.args.part.now in
    let good = scanned_good (scan c.word_count-count.result 0 ws) (decided_at c.word_count-count.result 0 ws) c.in_ok-scan.ensures in
    let whole = scan_whole c.word_count-count.result 0 ws good in
    omega (arith, whole.0, size c.args.edition ws c.word_count-count.ensures c.byte.ensures)

pub returns : goal.returns
returns c =
    let ws = c.args.part.now in
    let good = scanned_good (scan c.word_count-count.result 0 ws) (decided_at c.word_count-count.result 0 ws) c.in_ok-scan.ensures in
    let whole = scan_whole c.word_count-count.result 0 ws good in
    read_good (widths c.args.edition) ws c.word_count-count.result c.decode.result c.word_count-count.result (size c.args.edition ws c.word_count-count.ensures c.byte.ensures) good c.decode.ensures (sym whole.1)
