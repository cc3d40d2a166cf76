-- `samples::writer::put_counters` meets its contract: at each turn what is left to put is the counters from i on. Assumes nothing.
use Prim.Native.Nat.{ℕ, suc, ◌+◌, ◌-◌, ◌*◌}
use native.Mathlib.Nat.{add-zero}
use native.Mathlib.Omega.{arith}
use native.Mathlib.Numerals.{add-one}
use mathlib.Core.Path.{◌≡◌, sym, ap, ap₂, ◌∙◌}
use lib.ListN.{get_or, drop, replicate}
use lib.Seq.{drop-cons}
use Rattle.samples.specs.Layout.{counter_bytes, spread}
use Rattle.samples.proofs.PutLaws.{put_first}
use Rattle.samples.proofs.writer.put_counters.Invariants.{put}
use Rattle.samples.proofs.writer.put_counters.Goals as goal

pub loop-i-init : goal.loop-i-init
unfolding counter_bytes
loop-i-init c = rw add-zero

pub loop-i-preserved : goal.loop-i-preserved
loop-i-preserved c =
    let l = c.loop-i in
    let xs = c.args.counters in
    let p = c.args.start + 4 * l.i in
    let n = 16 - (l.i + 1) in
    let more : 16 - l.i ≡ suc n = omega arith in
    let next : p + 4 ≡ c.args.start + 4 * (l.i + 1) = omega arith in
    l.invariant
    ∙ ap₂ (put l.out p) more (drop-cons xs l.i 0 (omega arith))
    ∙ put_first l.out p 4 (get_or xs l.i 0) (replicate n 4) (drop (suc l.i) xs)
    ∙ (λ j. put (sym c.put_number.ensures j) (next j) n (drop (sym (add-one l.i) j) xs))

pub returns : goal.returns
unfolding spread
returns c =
    let l = c.loop-i in
    let none : 16 - l.i ≡ 0 = omega arith in
    sym (l.invariant ∙ ap (λ (k : ℕ). put l.out (c.args.start + 4 * l.i) k (drop l.i c.args.counters)) none)
