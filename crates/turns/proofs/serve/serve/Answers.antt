-- `turns::serve::serve` meets its contract: each turn keeps what holds of the chip and the text. Assumes nothing.
use Rattle.std.proofs.Common.{refl, rules}
use Rattle.turns.proofs.TurnLaws.{served_start, served_turn}
use Rattle.turns.proofs.serve.serve.Goals as goal

pub loop-init : goal.loop-init
loop-init g c = (refl, refl, served_start g.F.Format.form g.met.F.Format.positive _ _ _ _ refl refl refl c.fresh.ensures)

pub loop-preserved : goal.loop-preserved
loop-preserved g c =
    let i = c.loop.invariant in
    (search rules, search rules, served_turn g.F.Format.form g.met.F.Format.positive i.2 c.if-turn.false c.in_ok-turn.ensures.ok)
