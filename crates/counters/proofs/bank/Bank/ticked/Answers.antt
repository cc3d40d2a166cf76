-- `counters::bank::Bank::ticked` meets its contract: the mask has a bit for each counter that the events are due to. Assumes nothing.
use Rattle.std.proofs.Common.{◌≡◌, ℕ, length, ap, ◌∙◌, arith, rules}
use Rattle.counters.specs.Bank.{bit, counting}
use Rattle.counters.specs.Due.{due, due_mask}
use Rattle.counters.proofs.BitLaws.{mask_due}
use Rattle.counters.proofs.EachLaws.{counting_same}
use Rattle.counters.proofs.bank.Bank.ticked.Goals as goal

pub returns : goal.returns
returns c =
    let a = c.args in
    let sixteen : length a.self.values ≡ 16 = search rules in
    c.counted.ensures
    ∙ ap (λ (m : ℕ). counting (bit m) a.times a.self) c.due_to.ensures
    ∙ counting_same (bit (due_mask a.kind a.s)) (due a.kind a.s) a.times a.self
    (λ i p. mask_due a.kind a.s i (omega arith) (search rules) (search rules))
