-- `script::block::run_block` meets its contract: one record more is its step on the chip, for the table that is lent is the table of parity
-- bits, and its line behind the others. Assumes nothing.
use Prim.Native.Nat.{ℕ, ◌+◌, ◌-◌, ◌*◌, ◌≤◌, min}
use native.Mathlib.Omega.{arith}
use mathlib.Core.Path.{◌≡◌, ap, ap₂, ◌∙◌}
use mathlib.Core.List.{List}
use lib.ListN.{length, drop, take}
use Rattle.script.specs.Line.{answer_line}
use Rattle.script.specs.Record.{operation_of}
use Rattle.script.specs.Run.{bench, outcome_by}
use Rattle.script.specs.Table.{run_by}
use Rattle.script.specs.declared.operation.Operation.{Operation}
use Rattle.std.proofs.Common.{Option}
use Rattle.script.specs.declared.operation.Outcome.{Outcome}
use Rattle.script.proofs.LineLaws.{buffer_fits, end_fits, line_bound}
use Rattle.script.proofs.TableLaws.{run_by_lem}
use Rattle.turns.specs.Run.{block_count}
use Rattle.turns.proofs.BlockLaws.{ran_buffer, ran_none, ran_on, ran_value, record_part}
use Rattle.script.proofs.block.run_block.Goals as goal

pub loop-i-init : goal.loop-i-init
loop-i-init c = ran_none bench c.args.input.now c.args.out.now c.args.chip

pub loop-i-preserved : goal.loop-i-preserved
loop-i-preserved c =
    let a = c.args in
    let v = c.loop-i in
    let o = c.run_by-outcome.result in
    let bytes : List ℕ = take 12 (drop (12 * v.i) a.input.now) in
    let end : 12 * v.i + c.min.result ≡ min (12 * v.i + 12) (length a.input.now) = omega (arith, c.min.ensures) in
    let part = ap (λ (k : ℕ). take (k - 12 * v.i) (drop (12 * v.i) a.input.now)) end ∙ record_part 12 a.input.now (12 * v.i) in
    let step : o ≡ outcome_by bytes v.state = c.run_by-outcome.ensures ∙ ap₂ (λ (t : List ℕ) (p : Option Operation). run_by t p v.state) c.parities-table.ensures (c.decode.ensures ∙ ap operation_of part) ∙ run_by_lem (operation_of bytes) v.state in
    let fits : v.at + 42 ≤ length v.out = omega (arith, v.invariant.within, v.invariant.long) in
    ran_on bench v.invariant (omega arith) (ap (λ (r : Outcome). r.chip) step) (ap (λ (r : Outcome). answer_line r.number r.value) step) (c.put_line-at.ensures.value ∙ end_fits o.number o.value (length v.out) v.at fits) (omega (arith, c.put_line-at.ensures.value, end_fits o.number o.value (length v.out) v.at fits, line_bound o.number o.value)) (c.put_line-at.ensures.out_after ∙ buffer_fits o.number o.value v.out v.at fits)

pub returns : goal.returns
returns c =
    let v = c.loop-i in
    let all : v.i ≡ block_count bench c.args.input.now (length c.args.out.now) = omega arith in
    let n : c.min-count.result ≡ v.i = omega arith in
    record {
      value = ap (λ (k : ℕ). record { chip = v.state; records = k; written = v.at }) n ∙ ran_value bench v.invariant all;
      out_after = ran_buffer bench v.invariant all;
    }
