-- `script::line::put_line` meets its contract: a number, a space, a number and a newline make the line, for which 42 places are enough. Assumes nothing.
use mathlib.Core.Path.{sym, ap, ◌∙◌}
use mathlib.Core.Bool.{Bool, cond}
use Prim.Native.Nat.{◌+◌}
use native.Mathlib.Omega.{arith}
use lib.ListN.{length, length-set}
use lib.Seq.{sets, length-sets}
use borrow.Author.Tests.{le-leb, lt-leb}
use Rattle.script.specs.Line.{decimal, line_buffer, line_end, answer_line}
use Rattle.script.proofs.LineLaws.{decimal_bound, line_end_lem, line_text}
use Rattle.script.proofs.line.put_line.Goals as goal

pub returns-then-out-lt42 : goal.returns-then-out-lt42
unfolding line_buffer line_end
returns-then-out-lt42 c =
    let a = c.args in
    let room = length a.out.now in
    let test = lt-leb (a.at + 42) room (omega arith) in
    record {
      value = ap (λ (b : Bool). cond b (a.at + length (answer_line a.number a.value)) a.at) (sym test);
      out_after = ap (λ (b : Bool). cond b (sets a.out.now a.at (answer_line a.number a.value)) a.out.now) (sym test);
    }

pub returns-then-out-at : goal.returns-then-out-at
unfolding line_buffer line_end
returns-then-out-at c =
    let a = c.args in
    let room = length a.out.now in
    let test = lt-leb (a.at + 42) room (omega arith) in
    record {
      value = ap (λ (b : Bool). cond b (a.at + length (answer_line a.number a.value)) a.at) (sym test);
      out_after = ap (λ (b : Bool). cond b (sets a.out.now a.at (answer_line a.number a.value)) a.out.now) (sym test);
    }

pub bounds-out-space : goal.bounds-out-space
bounds-out-space c =
    let a = c.args in
    let one = ap length c.put_decimal-space.ensures.out_after ∙ length-sets a.out.now a.at (decimal a.number) in
    omega (arith, c.put_decimal-space.ensures.value, decimal_bound a.number)

pub overflow_add-space : goal.overflow_add-space
overflow_add-space c = omega (arith, c.put_decimal-space.ensures.value, decimal_bound c.args.number)

pub put_decimal-end-requires : goal.put_decimal-end-requires
put_decimal-end-requires c =
    let a = c.args in
    let one = ap length c.put_decimal-space.ensures.out_after ∙ length-sets a.out.now a.at (decimal a.number) in
    simp length-set (omega (arith, c.put_decimal-space.ensures.value, decimal_bound a.number))

pub bounds-out-end : goal.bounds-out-end
bounds-out-end c =
    let a = c.args in
    let one = ap length c.put_decimal-space.ensures.out_after ∙ length-sets a.out.now a.at (decimal a.number) in
    let two = simp (length-sets, length-set) at (ap length c.put_decimal-end.ensures.out_after) in
    omega (arith, c.put_decimal-space.ensures.value, c.put_decimal-end.ensures.value, decimal_bound a.number, decimal_bound a.value)

pub overflow_add-result : goal.overflow_add-result
overflow_add-result c =
    let a = c.args in
    omega (arith, c.put_decimal-space.ensures.value, c.put_decimal-end.ensures.value, decimal_bound a.number, decimal_bound a.value)

pub shape_of-out : goal.shape_of-out
shape_of-out c =
    let a = c.args in
    let one = ap length c.put_decimal-space.ensures.out_after ∙ length-sets a.out.now a.at (decimal a.number) in
    let two = simp (length-sets, length-set) at (ap length c.put_decimal-end.ensures.out_after) in
    simp length-set (two ∙ one)

pub returns : goal.returns
unfolding line_buffer line_end
returns c =
    let a = c.args in
    let room = length a.out.now in
    let test = le-leb (a.at + 42) room (omega arith) in
    let s = c.put_decimal-space.ensures.value in
    let e = c.put_decimal-end.ensures.value in
    record {
      value = line_end_lem a.number a.value a.at a.out.now s e ∙ ap (λ (b : Bool). cond b (a.at + length (answer_line a.number a.value)) a.at) (sym test);
      out_after = line_text a.number a.value a.at a.out.now s e c.put_decimal-space.ensures.out_after c.put_decimal-end.ensures.out_after ∙ ap (λ (b : Bool). cond b (sets a.out.now a.at (answer_line a.number a.value)) a.out.now) (sym test);
    }
