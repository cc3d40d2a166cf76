-- `script2::line::put_plain` meets its contract: with room for any line a line is put. Assumes nothing.
use borrow.Author.Rules.{rules}
use Prim.Native.Nat.{ℕ, ◌+◌}
use native.Mathlib.Omega.{arith}
use mathlib.Core.Path.{ap, ◌∙◌}
use mathlib.Core.Bool.{Bool, cond}
use mathlib.Core.List.{List}
use lib.ListN.{length}
use lib.Seq.{sets}
use borrow.Author.Tests.{le-leb}
use Rattle.script.specs.Line.{answer_line, line_buffer, line_end}
use Rattle.script2.proofs.LineLaws.{plain_bound, plain_line}
use Rattle.script2.proofs.line.put_plain.Goals as goal

pub returns : goal.returns
unfolding line_buffer line_end
returns c =
    let a = c.args in
    let line = answer_line a.number a.value in
    let same = plain_line a.number a.value in
    let test = le-leb (a.at + 42) (length a.out.now) (search rules) in
    let e = c.put_line.ensures in
    let end = e.value ∙ ap (λ (b : Bool). cond b (a.at + length line) a.at) test ∙ ap (λ (l : List ℕ). a.at + length l) same in
    record {
      value = end;
      upper_bound = omega (arith, plain_bound a.number a.value);
      out_after = e.out_after ∙ ap (λ (b : Bool). cond b (sets a.out.now a.at line) a.out.now) test ∙ ap (sets a.out.now a.at) same;
    }
