-- Laws of the bounds and of reply 15, which is tried first: what is shown inside the bounds and of a 15 is shown. What holds of both choices
-- holds of the chosen one. Assumes nothing.
use Prim.Native.Nat.{◌^◌, ◌<◌}
use mathlib.Core.Path.{◌≡◌, refl, sym, ap}
use mathlib.Core.Bool.{Bool, true, false, cond, not, ◌&&◌}
use lib.Dec.{ltb}
use borrow.Author.Tests.{lt-ltb, ltb-true}
use Rattle.words.proofs.WordLaws.{both_left, both_right}
use Rattle.counters.specs.Due.{divisor_of}
use Rattle.samples.specs.Layout.{widths}
use Rattle.samples.specs.declared.edition.Edition.TheVariants.{First}
use Rattle.queue.specs.Queue.{inside_queue}
use Rattle.control.specs.declared.reply.Reply.TheVariants.{Outside}
use Rattle.chip.specs.Chip.{guarded, inside, replied}
use Rattle.chip.specs.Told.{Told}
use Rattle.chip.specs.declared.chip.Chip.{Chip}

pub guard_in : (c : Chip) (a : Told) → inside c ≡ true → a ≡ guarded c a
guard_in c a e = ap (λ (b : Bool). cond b a (replied Outside c)) (sym e)

pub guard_out : (c : Chip) (a : Told) → inside c ≡ false → replied Outside c ≡ guarded c a
guard_out c a e = ap (λ (b : Bool). cond b a (replied Outside c)) (sym e)

-- a statement of an answer and of whether the record is inside: shown for the answer inside and for 15 outside
pub by_bounds : (P : Bool → Told → Type 0) (b : Bool) (c : Chip) (a : Told) → P true a → P false (replied Outside c) → P b (cond b a (replied Outside c))
by_bounds P true c a p q = p
by_bounds P false c a p q = q

pub either : {A : Type 0} (P : A → Type 0) (b : Bool) (x y : A) → P x → P y → P (cond b x y)
either P true x y p q = p
either P false x y p q = q

-- where it is so that something is not
pub not_true : (b : Bool) → not b ≡ true → b ≡ false
not_true true e = sym e
not_true false e = refl

-- what the bounds say of each part
module _ (c : Chip) (h : inside c ≡ true) where
  pub inside_queue_lem : inside_queue (widths First) c.queue ≡ true
  inside_queue_lem = both_left _ _ h

  pub inside_phase : c.switches.phase < divisor_of c.switches.hundredth
  inside_phase = ltb-true _ _ (both_left _ _ (both_right (inside_queue (widths First) c.queue) _ h))

  pub inside_stamp : c.stamp < 2 ^ 56
  inside_stamp = ltb-true _ _ (both_right (ltb c.switches.phase (divisor_of c.switches.hundredth)) _ (both_right (inside_queue (widths First) c.queue) _ h))

pub inside_by : (c : Chip) → inside_queue (widths First) c.queue ≡ true → c.switches.phase < divisor_of c.switches.hundredth → c.stamp < 2 ^ 56 → inside c ≡ true
inside_by c q p s = λ i. q i && (lt-ltb c.switches.phase (divisor_of c.switches.hundredth) p i && lt-ltb c.stamp (2 ^ 56) s i)
