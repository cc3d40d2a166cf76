-- `script::line::width` meets its contract: what the digits passed and those left make is the width. Assumes nothing.
use borrow.Author.Rules.{rules}
use mathlib.Core.Path.{◌≡◌, sym, ap, ◌∙◌, subst}
use Prim.Native.Nat.{ℕ, suc, ◌+◌, ◌-◌, ◌/◌, ◌^◌, ◌<◌}
use native.Mathlib.Omega.{arith}
use Rattle.script.specs.Line.{width_of}
use Rattle.script.proofs.LineLaws.{width_one, width_turn}
use Rattle.script.proofs.line.width.Goals as goal

pub loop-rest-init : goal.loop-rest-init
loop-rest-init c = (search rules, search rules, search rules, search rules)

pub loop-rest-preserved : goal.loop-rest-preserved
loop-rest-preserved c =
    let v = c.loop-rest in
    let turn = width_turn (20 - v.size) v.size v.rest (width_of 19 c.args.n) (omega arith) v.invariant.2 v.invariant.3 (search rules) in
    let less : suc (20 - (v.size + 1)) ≡ 20 - v.size = omega (arith, turn.0) in
    let one : 20 - v.size - 1 ≡ 20 - (v.size + 1) = omega arith in (
      omega arith,
      turn.0,
      subst (λ (k : ℕ). v.rest / 10 < 10 ^ k) (sym less) turn.1,
      turn.2 ∙ ap (λ (k : ℕ). v.size + 1 + width_of k (v.rest / 10)) one,
    )

pub returns : goal.returns
returns c =
    let v = c.loop-rest in
    record {
      value = omega (arith, width_one (20 - v.size) v.rest (omega arith));
      upper_bound = omega arith;
    }
