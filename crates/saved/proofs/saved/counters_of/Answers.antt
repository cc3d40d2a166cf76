-- `saved::saved::counters_of` meets its contract: counter by counter. Assumes nothing.
use Rattle.std.proofs.Common.{ℕ, ◌*◌, map, replicate, sym, ap, ◌∙◌, mul_comm, rules}
use Rattle.words.specs.Word.{byte_of}
use Rattle.samples.specs.Layout.{counter_widths}
use Rattle.samples.specs.Read.{gather}
use Rattle.samples.proofs.Gather.{gather_at, gather_length}
use Rattle.counters.proofs.EachLaws.{each_is}
use Rattle.saved.specs.Saved.{number_from}
use Rattle.saved.proofs.saved.counters_of.Goals as goal

pub returns : goal.returns
returns c =
    let bytes = c.args.bytes.now in
    let all = map byte_of bytes in
    let step = λ (i v : ℕ). number_from 4 (4 * i) bytes in
    c.each_value.ensures step (λ i v r h p. search rules)
    ∙ each_is step (replicate 16 0) (gather counter_widths all) (sym (gather_length counter_widths all))
    (λ i h. ap (λ (k : ℕ). number_from 4 k bytes) (mul_comm 4 i) ∙ sym (gather_at 4 16 i all h))
