-- `counters2::counts::counted` meets its contract: after i turns the first i counters are grown, and the wraps are those of the counter before. Assumes nothing.
use Rattle.std.proofs.Common.{◌≡◌, ℕ, ◌+◌, ◌/◌, ◌^◌, cond, List, get_or, sym, ap, ◌∙◌, ap₂, add-one, arith, rules}
use Rattle.counters.specs.Bank.{grown}
use Rattle.counters.proofs.EachLaws.{next_turn, turn, turned_end}
use Rattle.counters2.specs.Counts.{carried}
use Rattle.counters2.proofs.counts.counted.Invariants.{next}
use Rattle.counters2.proofs.counts.counted.Goals as goal

pub loop-i-preserved : goal.loop-i-preserved
loop-i-preserved g c =
    let a = c.args in
    let l = c.loop-i in
    λ f tells.
    let vs = a.bank.values in
    let step = next a.mode f vs in
    let held = l.invariant f tells in
    let here : c.own-events.result ≡ f l.i = tells l.i _ (search rules) c.own-events.ensures in
    let read = ap (λ (x : List ℕ). get_or x l.i 0) held.0 ∙ next_turn step vs l.i (search rules) in
    let more = c.chosen.ensures ∙ (λ k. cond (c.upper.ensures k) (held.1 k) (here k)) in (
      rw add-one (turn step vs l.values l.i _ (search rules) held.0 (ap (grown (get_or l.values l.i 0)) more)),
      c.wraps-carry.ensures ∙ ap₂ (λ (x y : ℕ). (x + y) / 2 ^ 32) read here ∙ sym (ap (carried f vs) (add-one l.i)),
    )

pub returns : goal.returns
returns g c =
    let a = c.args in
    let l = c.loop-i in
    λ f tells.
    let values = turned_end (next a.mode f a.bank.values) a.bank.values l.values l.i 16 (l.invariant f tells).0 (omega arith) (search rules) in
    λ k. record { values = values k; shadows = a.bank.shadows }
