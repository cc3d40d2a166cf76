-- `script::line::put_digits` meets its contract: after each turn the digits from `place` on stand in their places. Assumes nothing.
use mathlib.Core.Path.{◌≡◌, refl, sym, ap, ap₂, ◌∙◌}
use Prim.Native.Nat.{ℕ, suc, ◌+◌, ◌-◌, ◌/◌, ◌%◌, ◌^◌}
use native.Mathlib.Nat.{sub_self, div-one, div-div-eq-div-mul, pow-suc}
use native.Mathlib.Omega.{arith}
use mathlib.Core.List.{List}
use lib.ListN.{set, length-set}
use lib.Seq.{sets}
use Rattle.io.specs.Digits.{last_digits}
use Rattle.script.proofs.LineLaws.{digits_turn}
use Rattle.script.proofs.line.put_digits.Goals as goal

pub loop-place-init : goal.loop-place-init
loop-place-init c =
    let a = c.args in
    let none : a.size - a.size ≡ 0 = sub_self a.size in (
      refl,
      sym (div-one a.n) ∙ ap (λ (k : ℕ). a.n / 10 ^ k) (sym none),
      ap (λ (k : ℕ). sets a.out.now (a.at + a.size) (last_digits 10 k a.n)) (sym none),
    )

pub bounds-out-at : goal.bounds-out-at
bounds-out-at c = omega arith

pub loop-place-preserved : goal.loop-place-preserved
loop-place-preserved c =
    let a = c.args in
    let v = c.loop-place in
    let k = a.size - v.place in
    let one : v.place ≡ suc (v.place - 1) = omega arith in
    let more : a.size - (v.place - 1) ≡ suc k = omega arith in (
      simp length-set v.invariant.0,
      ap (λ (x : ℕ). x / 10) v.invariant.1
          ∙ div-div-eq-div-mul a.n (10 ^ k) 10
          ∙ ap (λ (d : ℕ). a.n / d) (sym (pow-suc 10 k))
          ∙ ap (λ (m : ℕ). a.n / 10 ^ m) (sym more),
      ap₂ (λ (o : List ℕ) (r : ℕ). set o (a.at + (v.place - 1)) (r % 10 + 48))
          (v.invariant.2 ∙ ap (λ (m : ℕ). sets a.out.now (a.at + m) (last_digits 10 k a.n)) one)
          v.invariant.1
          ∙ digits_turn a.out.now a.n a.at (v.place - 1) k
          ∙ ap (λ (m : ℕ). sets a.out.now (a.at + (v.place - 1)) (last_digits 10 m a.n)) (sym more),
    )

pub shape_of-out : goal.shape_of-out
shape_of-out c = c.loop-place.invariant.0

pub returns : goal.returns
returns c =
    let a = c.args in
    let v = c.loop-place in
    let start : a.at + v.place ≡ a.at = omega arith in
    let all : a.size - v.place ≡ a.size = omega arith in
    v.invariant.2 ∙ ap₂ (λ (i m : ℕ). sets a.out.now i (last_digits 10 m a.n)) start all
