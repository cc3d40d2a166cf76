-- `script::line::put_decimal` meets its contract: each of the four lengths is the definition's digits. Assumes nothing.
use borrow.Author.Rules.{rules}
use native.Mathlib.Omega.{arith}
use mathlib.Core.Path.{sym, ap, ap₂, ◌∙◌}
use Prim.Native.Nat.{ℕ, ◌+◌, ◌/◌, ◌%◌}
use native.Mathlib.Numerals.{add-one, add-two}
use mathlib.Core.List.{List}
use lib.ListN.{length, set, length-set}
use lib.Seq.{sets}
use Rattle.io.specs.Digits.{last_digits}
use Rattle.script.specs.Line.{decimal}
use Rattle.script.proofs.LineLaws.{decimal_1, decimal_2, decimal_3, decimal_length}
use Rattle.script.proofs.line.put_decimal.Goals as goal

pub returns-then-n-lt10 : goal.returns-then-n-lt10
returns-then-n-lt10 c =
    let a = c.args in
    let text = sym (decimal_1 a.n (search rules)) in
    record {
      value = ap (λ (l : List ℕ). a.at + length l) text;
      out_after = ap (sets a.out.now a.at) text;
    }

pub bounds-out-at-then-n-lt100-2 : goal.bounds-out-at-then-n-lt100-2
bounds-out-at-then-n-lt100-2 c = simp length-set (omega arith)

pub returns-then-n-lt100 : goal.returns-then-n-lt100
returns-then-n-lt100 c =
    let a = c.args in
    let text = sym (decimal_2 a.n (search rules) (search rules)) in
    let first = set a.out.now a.at (a.n / 10 % 10 + 48) in
    record {
      value = ap (λ (l : List ℕ). a.at + length l) text;
      out_after = ap (λ (i : ℕ). set first i (a.n % 10 + 48)) (add-one a.at) ∙ ap (sets a.out.now a.at) text;
    }

pub bounds-out-at-then-n-lt1000-2 : goal.bounds-out-at-then-n-lt1000-2
bounds-out-at-then-n-lt1000-2 c = simp length-set (omega arith)

pub bounds-out-at-then-n-lt1000-3 : goal.bounds-out-at-then-n-lt1000-3
bounds-out-at-then-n-lt1000-3 c = simp length-set (omega arith)

pub returns-then-n-lt1000 : goal.returns-then-n-lt1000
returns-then-n-lt1000 c =
    let a = c.args in
    let text = sym (decimal_3 a.n (search rules) (search rules)) in
    let first = set a.out.now a.at (a.n / 100 % 10 + 48) in
    record {
      value = ap (λ (l : List ℕ). a.at + length l) text;
      out_after = ap₂ (λ (i j : ℕ). set (set first i (a.n / 10 % 10 + 48)) j (a.n % 10 + 48)) (add-one a.at) (add-two a.at)
          ∙ ap (sets a.out.now a.at) text;
    }

pub returns : goal.returns
unfolding decimal
returns c =
    let a = c.args in
    let size = c.width-size.ensures.value in
    record {
      value = ap (λ (k : ℕ). a.at + k) (size ∙ sym (decimal_length a.n));
      out_after = c.put_digits.ensures ∙ ap (λ (k : ℕ). sets a.out.now a.at (last_digits 10 k a.n)) size;
    }
