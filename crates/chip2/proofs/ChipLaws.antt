-- Laws of the bounds and of reply 15, which is tried first: what is shown inside the bounds and of a 15 is shown. Assumes nothing.
use Prim.Native.Nat.{◌^◌, ◌<◌}
use mathlib.Core.Path.{◌≡◌, sym, ap}
use mathlib.Core.Bool.{Bool, true, false, cond, ◌&&◌}
use lib.Dec.{ltb}
use borrow.Author.Tests.{lt-ltb, ltb-true}
use Rattle.words.proofs.WordLaws.{both_left, both_right}
use Rattle.samples.specs.Layout.{widths}
use Rattle.samples.specs.declared.edition.Edition.TheVariants.{Second}
use Rattle.queue.specs.Queue.{inside_queue}
use Rattle.control.specs.declared.reply.Reply.TheVariants.{Outside}
use Rattle.chip2.specs.Chip2.{guarded, inside, replied}
use Rattle.chip2.specs.Told.{Told}
use Rattle.chip2.specs.declared.chip2.Chip2.{Chip2}

pub guard_in : (c : Chip2) (a : Told) → inside c ≡ true → a ≡ guarded c a
guard_in c a e = ap (λ (b : Bool). cond b a (replied Outside c)) (sym e)

pub guard_out : (c : Chip2) (a : Told) → inside c ≡ false → replied Outside c ≡ guarded c a
guard_out c a e = ap (λ (b : Bool). cond b a (replied Outside c)) (sym e)

-- a statement of an answer and of whether the record is inside: shown for the answer inside and for 15 outside
pub by_bounds : (P : Bool → Told → Type 0) (b : Bool) (c : Chip2) (a : Told) → P true a → P false (replied Outside c) → P b (cond b a (replied Outside c))
by_bounds P true c a p q = p
by_bounds P false c a p q = q

-- what the bounds say of each part
module _ (c : Chip2) (h : inside c ≡ true) where
  pub inside_queue_lem : inside_queue (widths Second) c.queue ≡ true
  inside_queue_lem = both_left _ _ h

  pub inside_phase : c.phase < 100
  inside_phase = ltb-true _ _ (both_left _ _ (both_right (inside_queue (widths Second) c.queue) _ h))

  pub inside_stamp : c.stamp < 2 ^ 56
  inside_stamp = ltb-true _ _ (both_right (ltb c.phase (100)) _ (both_right (inside_queue (widths Second) c.queue) _ h))

pub inside_by : (c : Chip2) → inside_queue (widths Second) c.queue ≡ true → c.phase < 100 → c.stamp < 2 ^ 56 → inside c ≡ true
inside_by c q p s = λ i. q i && (lt-ltb c.phase (100) p i && lt-ltb c.stamp (2 ^ 56) s i)
