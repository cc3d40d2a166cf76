-- `counters2::fields::none_zero` meets its contract: each field's test, one after the other. Assumes nothing.
use Rattle.std.proofs.Common.{ℕ, ◌%◌, not, eqb, refl, ap, ◌∙◌, div-one, rules}
use Rattle.std.proofs.lemmas.Iterator.{YieldsList-from_range}
use Rattle.std.proofs.lemmas.Iterator.Search.{all_from_yields_List}
use borrow.Author.Tests.{tests}
use Rattle.counters2.specs.Fields.{field_at, none_zero}
use Rattle.counters2.proofs.FieldLaws.{none_all}
use Rattle.counters2.proofs.fields.none_zero.Goals as goal

pub returns : goal.returns
returns c =
    let a = c.args in
    all_from_yields_List (λ (i : ℕ). not (eqb (field_at a.bits i % a.low) 0)) _ _ _ c.all.ensures.ran (YieldsList-from_range 0 16 16 refl refl) (λ x b q k. search (rules, tests))
    ∙ none_all 16 a.low a.bits 0
    ∙ ap (none_zero 16 a.low) (div-one a.bits)
