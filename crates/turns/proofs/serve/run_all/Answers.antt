-- `turns::serve::run_all` meets its contract: with room for all lines a block is the whole input's. Assumes nothing.
use Rattle.std.proofs.Common.{ℕ, ap, ap₂, ◌∙◌, refl, List, arith, length, take}
use Rattle.std.proofs.Math.ListN.{drop, length-append}
use Rattle.std.proofs.Math.Seq.{take_at}
use Rattle.turns.specs.Run.{input_text}
use Rattle.turns.specs.declared.format.Block.{Block}
use Rattle.turns.proofs.RunLaws.{block_whole, buffer_whole}
use Rattle.turns.proofs.serve.run_all.Goals as goal

pub returns : goal.returns
returns g c =
    let f = g.F.Format.form in
    let input : List ℕ = c.args.input.now in
    let out : List ℕ = c.args.text.now in
    let text : List ℕ = input_text f input c.args.chip in
    let block = c.run_block.ensures.value ∙ block_whole f g.met.F.Format.positive g.met.F.Format.roomy input out c.args.chip c.requires in
    let buffer = c.run_block.ensures.out_after ∙ buffer_whole f g.met.F.Format.positive g.met.F.Format.roomy input out c.args.chip c.requires in
    let written = ap (λ (b : Block _). b.written) block in
    record {
      chip_value = ap (λ (b : Block _). b.chip) block;
      text_after = ap₂ (λ (n : ℕ) (l : List ℕ). take n l) written buffer ∙ take_at text (drop (length text) out) (length text) refl;
      written_in_bounds = omega (arith, written, ap length buffer, length-append text (drop (length text) out));
    }
