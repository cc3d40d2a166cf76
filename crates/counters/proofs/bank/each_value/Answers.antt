-- `counters::bank::each_value` meets its contract: each turn puts one call's result, which is what such a function gives. Assumes nothing.
use Rattle.std.proofs.Common.{get_or, add-one, arith, rules}
use Rattle.counters.proofs.EachLaws.{turn, turned_end}
use Rattle.counters.proofs.bank.each_value.Goals as goal

pub loop-i-preserved : goal.loop-i-preserved
loop-i-preserved g c =
    let l = c.loop-i in
    λ next h.
    rw add-one (turn next c.args.values l.values l.i c.f.result (search rules) (l.invariant next h) (h l.i (get_or l.values l.i 0) c.f.result (search rules) c.f.ensures))

pub returns : goal.returns
returns g c =
    let l = c.loop-i in
    λ next h. turned_end next c.args.values l.values l.i 16 (l.invariant next h) (omega arith) (search rules)
