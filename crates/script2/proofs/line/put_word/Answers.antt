-- `script2::line::put_word` meets its contract: a number of three digits, or one without its last two and these. Assumes nothing.
use borrow.Author.Rules.{rules}
use native.Mathlib.Omega.{arith}
use lib.ListN.{length-set}
use Rattle.script2.proofs.LineLaws.{word_end, word_text}
use Rattle.script2.proofs.line.put_word.Goals as goal

pub returns-then-n-lt1000 : goal.returns-then-n-lt1000
returns-then-n-lt1000 c =
    let e = c.put_small.ensures in
    record {
      value = e.value;
      upper_bound = omega arith;
      out_after = e.out_after;
    }

pub bounds-out-end-2 : goal.bounds-out-end-2
bounds-out-end-2 c = simp length-set (omega arith)

pub returns : goal.returns
returns c =
    let a = c.args in
    let e = c.put_small-end.ensures in
    record {
      value = word_end a.n a.out.now a.at (search rules) (search rules) e.value e.out_after;
      upper_bound = omega arith;
      out_after = word_text a.n a.out.now a.at (search rules) (search rules) e.value e.out_after;
    }
