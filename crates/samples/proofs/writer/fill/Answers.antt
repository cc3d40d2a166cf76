-- `samples::writer::fill` meets its contract: unmarked words, of which the last then gets its mark, are the sample's. Assumes nothing.
use Rattle.samples.specs.declared.sample.Sample.{Sample}
use borrow.Author.Rules.{rules}
use Prim.Native.Nat.{ℕ, ◌+◌, ◌-◌}
use native.Mathlib.Omega.{arith}
use mathlib.Core.Path.{◌≡◌, sym, ap, ◌∙◌}
use mathlib.Core.List.{List}
use lib.ListN.{length, get_or, set}
use Rattle.words.proofs.PutLaws.{mark_put, put_small}
use Rattle.samples.specs.Layout.{sample_bytes, sample_words, widths, Widths, sample_length, resource}
use Rattle.samples.proofs.SampleLaws.{bytes_below, bytes_length}
use Rattle.samples.proofs.writer.fill.Goals as goal

-- as many bytes as words wanted
size : (w : Widths) (s : Sample) (count : ℕ) → length s.counters ≡ 16 → count ≡ sample_length w (resource s.header) → length (sample_bytes w s) ≡ count
size w s count sixteen e = bytes_length w s sixteen ∙ sym e

-- where the mark goes
abbrev marked_place : ℕ → ℕ
marked_place count = count - 1

pub overflow_add-out : goal.overflow_add-out
overflow_add-out c =
    let a = c.args in
    let w = widths a.edition in
    let bytes = sample_bytes w a.sample in
    let small = put_small bytes a.out.now a.count (marked_place a.count) (bytes_below w a.sample) (size w a.sample a.count (search rules) c.requires.count_value) (omega (arith, c.requires.count_value)) c.requires.count_in_bounds in
    omega (arith, small, ap (λ (l : List ℕ). get_or l (marked_place a.count) 0) c.put_bytes.ensures)

pub returns : goal.returns
unfolding sample_words
returns c =
    let a = c.args in
    let w = widths a.edition in
    let bytes = sample_bytes w a.sample in
    ap (λ (l : List ℕ). set l (marked_place a.count) (get_or l (marked_place a.count) 0 + 512)) c.put_bytes.ensures
    ∙ mark_put bytes a.out.now a.count (marked_place a.count) (size w a.sample a.count (search rules) c.requires.count_value) (omega (arith, c.requires.count_value)) c.requires.count_in_bounds
