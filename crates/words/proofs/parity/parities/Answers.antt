-- `words::parity::parities` meets its contract: its 256 entries pass the test of the odd-ones rule, which the prover computes over all
-- of them. Assumes nothing.
use lib.Count.{ones_in}
use mathlib.Core.Path.{refl}
use Rattle.words.specs.Word.{odd_ones}
use Rattle.words.proofs.TableLaws.{odd_table, odd_entry}
use Rattle.words.proofs.parity.parities.Goals as goal

pub returns : goal.returns
unfolding odd_entry odd_ones ones_in
returns c = odd_table _ refl refl
