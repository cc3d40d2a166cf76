-- `turns::serve::pass` meets its contract: the part that waited is in front of what was read, and what is due of both is answered. Assumes nothing.
use Rattle.std.proofs.Common.{rules}
use Rattle.turns.proofs.TurnLaws.{on_err, stopped, turned}
use Rattle.turns.proofs.serve.pass.Goals as goal

pub returns-clause-ok : goal.returns-clause-ok
returns-clause-ok g c =
    let read = c.in_ok-size.ensures in
    let kept = c.keep-held.ensures in
    let done = c.answer-block.ensures in
    turned g.F.Format.form c.keep-held.new.input c.requires.size_in_bounds kept.value kept.input_after read.input_unchanged read.held_le_size read.size_in_bounds done.chip_value done.text_after done.written_in_bounds

pub returns-in_err-size-clause-err : goal.returns-in_err-size-clause-err
returns-in_err-size-clause-err g c =
    let kept = c.keep-held.ensures in
    on_err c.from_residual.result (stopped g.F.Format.form c.keep-held.new.input c.requires.size_in_bounds kept.value kept.input_after c.in_err-size.ensures.input_unchanged g.met.F.Format.positive kept.upper_bound (search rules))

pub returns-in_err-map_err-clause-err : goal.returns-in_err-map_err-clause-err
returns-in_err-map_err-clause-err g c =
    let read = c.in_ok-size.ensures in
    let kept = c.keep-held.ensures in
    let done = c.answer-block.ensures in
    on_err c.from_residual-in_err-map_err.result (record { after = _; turned = turned g.F.Format.form c.keep-held.new.input c.requires.size_in_bounds kept.value kept.input_after read.input_unchanged read.held_le_size read.size_in_bounds done.chip_value done.text_after done.written_in_bounds })
