-- `counters::bank::Bank::signalled` meets its contract: the mask that is left has a bit for each counter that was signalled and that the event is due to. Assumes nothing.
use Rattle.std.proofs.Common.{◌≡◌, ℕ, Bool, ◌&&◌, length, ap, ◌∙◌, arith, rules}
use lib.Bits.{bit_and}
use Rattle.counters.specs.Bank.{bit, counting}
use Rattle.counters.specs.Due.{due, due_mask}
use Rattle.counters.specs.declared.switches.Kind.TheVariants.{External}
use Rattle.counters.proofs.BitLaws.{bit_and_lem, mask_due}
use Rattle.counters.proofs.EachLaws.{counting_same}
use Rattle.counters.proofs.bank.Bank.signalled.Goals as goal

pub returns : goal.returns
returns c =
    let a = c.args in
    let sixteen : length a.self.values ≡ 16 = search rules in
    c.counted.ensures
    ∙ ap (λ (m : ℕ). counting (bit (bit_and a.mask m)) 1 a.self) c.due_to.ensures
    ∙ counting_same (bit (bit_and a.mask (due_mask External a.s))) (λ i. bit a.mask i && due External a.s i) 1 a.self
    (λ i p.
    bit_and_lem a.mask (due_mask External a.s) i
    ∙ ap (λ (b : Bool). bit a.mask i && b) (mask_due External a.s i (omega arith) (search rules) (search rules)))
