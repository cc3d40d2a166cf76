-- `counters::bank::Bank::fired` meets its contract: the event counts if it is due to that counter, and no other is named. Assumes nothing.
use Rattle.std.proofs.Common.{Bool, cond, eqb, sym, ap, ◌∙◌}
use Rattle.counters.specs.Bank.{counting}
use Rattle.counters.specs.Due.{due}
use Rattle.counters.specs.declared.switches.Kind.TheVariants.{Software}
use Rattle.counters.proofs.EachLaws.{counting_one}
use Rattle.counters.proofs.bank.Bank.fired.Goals as goal

pub returns-then-fires : goal.returns-then-fires
returns-then-fires c =
    let a = c.args in
    c.bumped.ensures
    ∙ ap (λ (b : Bool). cond b (counting (λ j. eqb j a.index) 1 a.self) a.self) (sym c.if-fires.true ∙ c.fires.ensures)
    ∙ sym (counting_one (due Software a.s) a.index 1 a.self)

pub returns : goal.returns
returns c =
    let a = c.args in
    ap (λ (b : Bool). cond b (counting (λ j. eqb j a.index) 1 a.self) a.self) (sym c.if-fires.false ∙ c.fires.ensures)
    ∙ sym (counting_one (due Software a.s) a.index 1 a.self)
