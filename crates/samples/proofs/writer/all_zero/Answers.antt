-- `samples::writer::all_zero` meets its contract: `all` asks each counter whether it is 0, as the definition does. Assumes nothing.
use borrow.Author.Rules.{rules}
use borrow.Author.Tests.{tests}
use Prim.Native.Nat.{ℕ}
use mathlib.Core.Path.{◌∙◌}
use lib.Dec.{eqb}
use Rattle.std.proofs.lemmas.Iterator.{YieldsList-from_slice}
use Rattle.std.proofs.lemmas.Iterator.Search.{all_from_yields_List}
use Rattle.samples.proofs.WriteLaws.{zero_all}
use Rattle.samples.proofs.writer.all_zero.Goals as goal

pub returns : goal.returns
returns c = all_from_yields_List (λ (x : ℕ). eqb x 0) _ _ _ c.all.ensures.ran (YieldsList-from_slice c.args.counters cc) (λ x b q k. search (rules, tests)) ∙ zero_all c.args.counters
