-- A hardware reset gives a fresh record but for its choice, whatever came in, and a software reset inside the bounds one but for the Timestamp
-- and the choice in force: by computation. Such a record is inside the bounds, and its CSR reads 4. Assumes nothing.
use Prim.Native.Nat.{ℕ, ◌^◌, ◌<◌}
use native.Mathlib.Omega.{arith}
use mathlib.Core.Path.{◌≡◌, refl, sym, ap, ap₂, ◌∙◌}
use mathlib.Core.Bool.{Bool, true, false, cond}
use mathlib.Core.List.{◌∷◌}
use lib.ListN.{replicate}
use Rattle.counters.proofs.TickLaws.{divisor_some}
use Rattle.queue.specs.Queue.{any_resource}
use Rattle.chip.specs.Chip.{done, fresh, inside, read, read_at, soft_reset, with_choice, with_stamp, write, write_at}
use Rattle.chip.specs.Operation.{op_read, op_reset, op_write, step}
use Rattle.chip.specs.Parts.{numbers_of}
use Rattle.chip.specs.Place.{place_of, register_of}
use Rattle.chip.specs.Told.{Told}
use Rattle.chip.specs.declared.chip.Chip.{Chip}
use Rattle.chip.proofs.ChipLaws.{guard_in, inside_by, inside_stamp}

-- "Hardware reset: every part becomes zero, Timestamp included. That is a fresh chip"; document 02, Wish 2: "Let a hardware reset choose by a
-- yes or no"
pub hard_reset_lem : (hundredth : Bool) (c : Chip) → step (op_reset hundredth) c ≡ done 0 (with_choice hundredth fresh)
hard_reset_lem hundredth c = refl

-- "A fresh chip has the tenth"
pub hard_fresh : (c : Chip) → step (op_reset false) c ≡ done 0 fresh
hard_fresh c = refl

-- "every part becomes zero": Timestamp and choice, then, after write wait, 2 numbers and 8 places of 4 numbers of the queue, 16 counters and
-- shadows, 8 Source Addresses, 7 numbers and 5 marks of the settings; document 02, Wish 7: "write wait shall be set", the one 1
pub fresh_numbers : numbers_of fresh ≡ 0 ∷ 0 ∷ 1 ∷ replicate 86 0
fresh_numbers = refl

-- so a hardware reset leaves its choice, write wait and zeros
pub hard_numbers : (hundredth : Bool) (c : Chip) → numbers_of (step (op_reset hundredth) c).chip ≡ 0 ∷ cond hundredth 1 0 ∷ 1 ∷ replicate 86 0
hard_numbers hundredth c = refl

-- what a reset leaves is inside the bounds, and the CSR reads 4 there: write wait, and nothing else
module _ (stamp : ℕ) (hundredth : Bool) (s : stamp < 2 ^ 56) where
  abbrev reset_to : Chip
  reset_to = with_stamp stamp (with_choice hundredth fresh)

  pub reset_inside : inside reset_to ≡ true
  reset_inside = inside_by reset_to refl (divisor_some hundredth) s

  reset_csr : step (op_read 1) reset_to ≡ done 4 reset_to
  unfolding read read_at place_of register_of any_resource
  reset_csr = sym (guard_in reset_to (done 4 reset_to) reset_inside)

pub fresh_reads_4 : step (op_read 1) fresh ≡ done 4 fresh
fresh_reads_4 = reset_csr 0 false (omega arith)

pub hard_csr : (hundredth : Bool) (c : Chip) → step (op_read 1) (step (op_reset hundredth) c).chip ≡ done 4 (with_choice hundredth fresh)
hard_csr hundredth c = reset_csr 0 hundredth (omega arith)

-- what a software reset makes of a record
pub reset_record : (c : Chip) → soft_reset c ≡ with_stamp c.stamp (with_choice c.switches.hundredth fresh)
reset_record c = refl

module _ (bits lines : ℕ) (c : Chip) (h : inside c ≡ true) where
  -- "Software reset. Everything becomes as after a hardware reset except the Timestamp"; document 02, Wish 2: "Software reset keeps the
  -- choice, so demand 2's "but for the Timestamp" now names this too"
  pub soft_reset_lem : step (op_write 0 bits lines) c ≡ done 0 (with_stamp c.stamp (with_choice c.switches.hundredth fresh))
  unfolding write write_at place_of register_of
  soft_reset_lem = sym (guard_in c (done 0 (soft_reset c)) h) ∙ ap (done 0) (reset_record c)

  -- number by number
  pub soft_numbers : numbers_of (step (op_write 0 bits lines) c).chip ≡ c.stamp ∷ cond c.switches.hundredth 1 0 ∷ 1 ∷ replicate 86 0
  soft_numbers = ap (λ (t : Told). numbers_of t.chip) soft_reset_lem

  -- and its CSR
  pub soft_csr : step (op_read 1) (step (op_write 0 bits lines) c).chip ≡ done 4 (with_stamp c.stamp (with_choice c.switches.hundredth fresh))
  soft_csr = ap (λ (t : Told). step (op_read 1) t.chip) soft_reset_lem ∙ reset_csr c.stamp c.switches.hundredth (inside_stamp c h)

-- so of two records nothing but the Timestamp and the choice can be read after it
pub soft_reset_same : (bits lines bits' lines' : ℕ) (c d : Chip) → inside c ≡ true → inside d ≡ true → c.stamp ≡ d.stamp → c.switches.hundredth ≡ d.switches.hundredth → step (op_write 0 bits lines) c ≡ step (op_write 0 bits' lines') d
soft_reset_same bits lines bits' lines' c d h k e f =
    soft_reset_lem bits lines c h
    ∙ ap₂ (λ (n : ℕ) (b : Bool). done 0 (with_stamp n (with_choice b fresh))) e f
    ∙ sym (soft_reset_lem bits' lines' d k)
