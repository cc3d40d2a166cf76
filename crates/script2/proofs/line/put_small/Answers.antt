-- `script2::line::put_small` meets its contract: each of the three lengths is the definition's digits. Assumes nothing.
use borrow.Author.Rules.{rules}
use Prim.Native.Nat.{ℕ, ◌+◌, ◌/◌, ◌%◌}
use native.Mathlib.Numerals.{add-one, add-two}
use native.Mathlib.Omega.{arith}
use mathlib.Core.Path.{sym, ap, ap₂, ◌∙◌}
use mathlib.Core.List.{List}
use lib.ListN.{length, set, length-set}
use lib.Seq.{sets}
use Rattle.script.proofs.LineLaws.{decimal_1, decimal_2, decimal_3}
use Rattle.script2.proofs.line.put_small.Goals as goal

pub returns-then-n-lt10 : goal.returns-then-n-lt10
returns-then-n-lt10 c =
    let a = c.args in
    let text = sym (decimal_1 a.n (search rules)) in
    record {
      value = ap (λ (l : List ℕ). a.at + length l) text;
      upper_bound = search rules;
      out_after = ap (sets a.out.now a.at) text;
    }

pub bounds-out-at-then-n-lt100-2 : goal.bounds-out-at-then-n-lt100-2
bounds-out-at-then-n-lt100-2 c = simp length-set (omega arith)

pub returns-then-n-lt100 : goal.returns-then-n-lt100
returns-then-n-lt100 c =
    let a = c.args in
    let text = sym (decimal_2 a.n (search rules) (search rules)) in
    let first = set a.out.now a.at (a.n / 10 % 10 + 48) in
    record {
      value = ap (λ (l : List ℕ). a.at + length l) text;
      upper_bound = search rules;
      out_after = ap (λ (i : ℕ). set first i (a.n % 10 + 48)) (add-one a.at) ∙ ap (sets a.out.now a.at) text;
    }

pub bounds-out-at-3 : goal.bounds-out-at-3
bounds-out-at-3 c = simp length-set (omega arith)

pub bounds-out-at-4 : goal.bounds-out-at-4
bounds-out-at-4 c = simp length-set (omega arith)

pub returns : goal.returns
returns c =
    let a = c.args in
    let text = sym (decimal_3 a.n (search rules) (search rules)) in
    let first = set a.out.now a.at (a.n / 100 % 10 + 48) in
    record {
      value = ap (λ (l : List ℕ). a.at + length l) text;
      upper_bound = search rules;
      out_after = ap₂ (λ (i j : ℕ). set (set first i (a.n / 10 % 10 + 48)) j (a.n % 10 + 48)) (add-one a.at) (add-two a.at) ∙ ap (sets a.out.now a.at) text;
    }
