-- `counters::bank::Bank::bumped` meets its contract: the store is one counter's event, and past the sixteenth nothing is stored or counted.
-- Assumes nothing.
use Rattle.std.proofs.Common.{◌≡◌, length, get_or, sym, ◌∙◌, arith, rules}
use lib.Seq.{set_out}
use Rattle.counters.specs.Bank.{grown}
use Rattle.counters.proofs.EachLaws.{store_each}
use Rattle.counters.proofs.bank.Bank.bumped.Goals as goal

pub returns-then-index-lt16 : goal.returns-then-index-lt16
returns-then-index-lt16 c =
    let a = c.args in
    let next = store_each (λ v. grown v 1) a.index a.self.values in
    λ i. record { values = next i; shadows = a.self.shadows }

pub returns-else-index-lt16 : goal.returns-else-index-lt16
returns-else-index-lt16 c =
    let a = c.args in
    let sixteen : length a.self.values ≡ 16 = search rules in
    let same = sym (set_out a.self.values a.index (grown (get_or a.self.values a.index 0) 1) (omega arith)) ∙ store_each (λ v. grown v 1) a.index a.self.values in
    λ i. record { values = same i; shadows = a.self.shadows }
