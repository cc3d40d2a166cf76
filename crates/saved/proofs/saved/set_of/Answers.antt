-- `saved::saved::set_of` meets its contract: number by number. Assumes nothing.
use Rattle.saved.specs.Saved.{set_of}
use Rattle.saved.proofs.saved.set_of.Goals as goal

pub returns : goal.returns
unfolding set_of
returns c = cc
