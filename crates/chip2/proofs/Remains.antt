-- What a reset leaves of the record before it: nothing after a hardware reset, and after a software reset nothing but the Timestamp. So two chips
-- that differ only in counters, shadows and High Order register are one chip after it: the bounds look at none of these. Assumes records inside the
-- bounds.
use Prim.Native.Nat.{ℕ}
use mathlib.Core.Path.{◌≡◌, refl, ap}
use mathlib.Core.Bool.{true}
use mathlib.Core.List.{List}
use Rattle.counters.specs.declared.bank.Bank.{Bank}
use Rattle.chip2.specs.Chip2.{inside, with_bank, with_high}
use Rattle.chip2.specs.Operation.{Operation, op_reset, op_write, step}
use Rattle.chip2.specs.Told.{Told}
use Rattle.chip2.specs.declared.chip2.Chip2.{Chip2}
use Rattle.chip2.proofs.Resets.{soft_reset_same}

-- "every part becomes zero": one answer and one record of any two
pub hard_forgets : (c d : Chip2) → step op_reset c ≡ step op_reset d
hard_forgets c d = refl

module _ (bits lines bits' lines' : ℕ) (c : Chip2) (h : inside c ≡ true) where
  -- "Everything becomes as after a hardware reset except the Timestamp": the records of two chips with one Timestamp are equal
  pub soft_forgets : (d : Chip2) → inside d ≡ true → c.stamp ≡ d.stamp → (step (op_write 0 bits lines) c).chip ≡ (step (op_write 0 bits' lines') d).chip
  soft_forgets d k e = ap (λ (t : Told). t.chip) (soft_reset_same bits lines bits' lines' c d h k e)

  -- so whatever is done next is answered alike
  pub answers_same : (d : Chip2) → inside d ≡ true → c.stamp ≡ d.stamp → (op : Operation) → step op (step (op_write 0 bits lines) c).chip ≡ step op (step (op_write 0 bits' lines') d).chip
  answers_same d k e op = ap (step op) (soft_forgets d k e)

  -- two chips that differ only in counters, shadows and High Order register; only in the shadows
  pub counters_forgotten : (bank : Bank) (high : ℕ) → step (op_write 0 bits lines) c ≡ step (op_write 0 bits' lines') (with_high high (with_bank bank c))
  counters_forgotten bank high = soft_reset_same bits lines bits' lines' c (with_high high (with_bank bank c)) h h refl

  pub shadows_forgotten : (shadows : List ℕ) → step (op_write 0 bits lines) c ≡ step (op_write 0 bits' lines') (with_bank (record { values = c.bank.values; shadows = shadows }) c)
  shadows_forgotten shadows = counters_forgotten (record { values = c.bank.values; shadows = shadows }) c.high
