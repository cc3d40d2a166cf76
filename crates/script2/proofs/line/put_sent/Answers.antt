-- `script2::line::put_sent` meets its contract: the words take the newline's place. Assumes nothing.
use native.Mathlib.Omega.{arith}
use mathlib.Core.Path.{◌∙◌}
use Rattle.script2.proofs.LineLaws.{plain_some, sent_end, sent_text}
use Rattle.script2.proofs.line.put_sent.Goals as goal

pub overflow_sub-end : goal.overflow_sub-end
overflow_sub-end c =
    let a = c.args in
    omega (arith, plain_some a.number a.value)

pub put_words-requires : goal.put_words-requires
put_words-requires c =
    let a = c.args in
    omega (arith, plain_some a.number a.value)

pub returns : goal.returns
returns c =
    let a = c.args in
    let plain = c.put_plain-end.ensures in
    let words = c.put_words.ensures in
    record {
      value = sent_end a.number a.value a.words.now a.out.now a.at plain.value words.value;
      upper_bound = omega (arith, plain_some a.number a.value);
      out_after = words.out_after ∙ sent_text a.number a.value a.words.now a.out.now a.at plain.value plain.out_after;
    }
