-- `counters2::counts::signalled` meets its contract: what is found before the first counter grows is each counter's own event. Assumes nothing.
use Rattle.std.proofs.Common.{ℕ, List, get_or, replicate, slice_index, ◌≡◌, ◌∙◌, ap, rules}
use Rattle.counters.proofs.EachLaws.{each_at}
use Rattle.counters.specs.Bank.{each}
use Rattle.counters2.specs.Counts.{own_signals}
use Rattle.counters2.proofs.GrowLaws.{counted_same}
use Rattle.counters2.proofs.counts.signalled.Goals as goal

pub returns : goal.returns
returns c =
    let a = c.args in
    let hits = c.each_value-hits.result in
    let own : ℕ → ℕ = own_signals a.f a.mask in
    let found : hits ≡ each (λ i v. own i) 0 (replicate 16 0) = c.each_value-hits.ensures (λ i v. own i) (λ i v r small post. search rules) in
    c.counted.ensures (λ i. slice_index hits i) (λ i r small post. search rules)
    ∙ counted_same a.f.mode (λ i. slice_index hits i) own a.bank (λ i small. ap (λ (x : List ℕ). get_or x i 0) found ∙ each_at (λ i v. own i) i (replicate 16 0) (search rules))
