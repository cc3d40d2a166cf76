-- `turns::serve::answer` meets its contract: the bytes that are run are what is due of those that have come. Assumes nothing.
use Rattle.std.proofs.Common.{ℕ, ◌≡◌, ◌∙◌, ap, List, take}
use Rattle.turns.specs.Run.{due, input_chip, input_text}
use Rattle.turns.proofs.RunLaws.{count_take}
use Rattle.turns.proofs.TurnLaws.{due_take}
use Rattle.turns.proofs.serve.answer.Goals as goal

pub run_all-requires : goal.run_all-requires
run_all-requires g c = count_take g.F.Format.form g.met.F.Format.positive c.due_size-end.result c.args.input.now c.requires.input_in_bounds

pub returns : goal.returns
returns g c =
    let f = g.F.Format.form in
    let a = c.args in
    let same : take c.due_size-end.result a.input.now ≡ due f a.ended (take a.size a.input.now) = ap (λ (n : ℕ). take n a.input.now) c.due_size-end.ensures.value ∙ due_take f a.size a.input.now c.requires.size_in_bounds a.ended in
    record {
      chip_value = c.run_all.ensures.chip_value ∙ ap (λ (l : List ℕ). input_chip f l a.chip) same;
      text_after = c.run_all.ensures.text_after ∙ ap (λ (l : List ℕ). input_text f l a.chip) same;
      written_in_bounds = c.run_all.ensures.written_in_bounds;
    }
