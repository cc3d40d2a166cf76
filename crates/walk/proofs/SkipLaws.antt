-- What the code tests, in the definitions' words: a boundary by the reader's two tests, and what is skipped by the reader's number. Assumes
-- nothing.
use Prim.Native.Nat.{ℕ, ◌≤◌, ◌<◌}
use mathlib.Core.Path.{◌≡◌}
use mathlib.Core.Bool.{Bool, not, ◌&&◌}
use mathlib.Core.List.{List}
use native.Mathlib.Omega.{arith}
use Rattle.std.proofs.lemmas.Bool.Decides.{nat_tests}
use borrow.Author.Tests.{le-leb, lt-leb}
use Rattle.words.specs.Word.{marked, too_large}
use Rattle.samples.specs.Read.{Found}
use Rattle.walk.specs.Walk.{after_boundary, is_boundary, skip}

-- a boundary by the reader's tests: not above 1023, and marked
pub boundary_by : (x : ℕ) {large mark : Bool} → too_large x ≡ large → marked x ≡ mark → is_boundary x ≡ (not large && mark)
boundary_by x a b = grind (arith, nat_tests)

-- of the words from a place on, by what the reader found there
module _ (r : Found) (ws : List ℕ) where
  pub skip_gap : 21 ≤ r.number → skip r ws ≡ after_boundary ws r.place
  skip_gap h = simp (le-leb 21 r.number h)

  pub skip_none : r.number < 21 → skip r ws ≡ 0
  skip_none h = simp (lt-leb 21 r.number h)
