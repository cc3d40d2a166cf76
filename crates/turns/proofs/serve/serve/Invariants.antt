-- `turns::serve::serve`: each turn keeps what holds of the chip and the text (`Served`), the last one too.
use Rattle.std.proofs.Common.{◌≡◌, length}
use Rattle.turns.specs.Turn.{Served}
use Rattle.turns.proofs.serve.serve.Given as goal

abbrev pub invariant-loop : goal.invariant-loop
invariant-loop g l =
    (length l.input ≡ length l.initial.input) × (length l.text ≡ length l.initial.text) × Served g.F.Format.form g.F.Format.fresh l.turn l.input l.text
