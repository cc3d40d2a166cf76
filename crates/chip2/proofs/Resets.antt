-- A hardware reset gives a fresh record, whatever came in, and a software reset inside the bounds one but for the Timestamp: by computation. Such
-- a record is inside the bounds, and its CSR reads 32,772 and is left as it was by that. Assumes nothing.
use Prim.Native.Nat.{ℕ, ◌^◌, ◌<◌}
use native.Mathlib.Omega.{arith}
use mathlib.Core.Path.{◌≡◌, refl, sym, ap, ◌∙◌}
use mathlib.Core.Bool.{true}
use mathlib.Core.List.{◌∷◌}
use lib.ListN.{replicate}
use Rattle.queue.specs.Queue.{any_resource}
use Rattle.chip2.specs.Chip2.{done, fresh, inside, read, read_at, soft_reset, with_stamp, write, write_at}
use Rattle.chip2.specs.Operation.{op_read, op_reset, op_write, step}
use Rattle.chip2.specs.Parts.{numbers_of}
use Rattle.chip2.specs.Place.{place_of, register_of}
use Rattle.chip2.specs.Told.{Told}
use Rattle.chip2.specs.declared.chip2.Chip2.{Chip2}
use Rattle.chip2.proofs.ChipLaws.{guard_in, inside_by, inside_stamp}

-- "Hardware reset: every part becomes zero, Timestamp included. That is a fresh chip"
pub hard_reset_lem : (c : Chip2) → step op_reset c ≡ done 0 fresh
hard_reset_lem c = refl

-- "every part becomes zero": the Timestamp, then, after write wait and the three registers of fields, 2 numbers and 8 places of 4 numbers of the
-- queue, 16 counters and shadows, 8 Source Addresses, 5 numbers and 6 marks of the settings; document 02, Wish 7: "write wait shall be set"; the
-- tables' defaults, 0001 in each field of Enable, 0100 in each of Mode and of Clock Select
pub fresh_numbers : numbers_of fresh ≡ 0 ∷ 1 ∷ 0x1111_1111_1111_1111 ∷ 0x4444_4444_4444_4444 ∷ 0x4444_4444_4444_4444 ∷ replicate 85 0
fresh_numbers = refl

-- so a hardware reset leaves write wait, the defaults and zeros
pub hard_numbers : (c : Chip2) → numbers_of (step op_reset c).chip ≡ 0 ∷ 1 ∷ 0x1111_1111_1111_1111 ∷ 0x4444_4444_4444_4444 ∷ 0x4444_4444_4444_4444 ∷ replicate 85 0
hard_numbers c = refl

-- what a reset leaves is inside the bounds, and the CSR reads 32,772 there: write wait and 64-bit mode, and nothing else. Its upper half, zero,
-- is what stood in the High Order register
module _ (stamp : ℕ) (s : stamp < 2 ^ 56) where
  abbrev reset_to : Chip2
  reset_to = with_stamp stamp fresh

  pub reset_inside : inside reset_to ≡ true
  reset_inside = inside_by reset_to refl (omega arith) s

  reset_csr : step (op_read 1) reset_to ≡ done 32772 reset_to
  unfolding read read_at place_of register_of any_resource
  reset_csr = sym (guard_in reset_to (done 32772 reset_to) reset_inside)

pub fresh_reads_32772 : step (op_read 1) fresh ≡ done 32772 fresh
fresh_reads_32772 = reset_csr 0 (omega arith)

pub hard_csr : (c : Chip2) → step (op_read 1) (step op_reset c).chip ≡ done 32772 fresh
hard_csr c = reset_csr 0 (omega arith)

module _ (bits lines : ℕ) (c : Chip2) (h : inside c ≡ true) where
  -- "Software reset. Everything becomes as after a hardware reset except the Timestamp"
  pub soft_reset_lem : step (op_write 0 bits lines) c ≡ done 0 (with_stamp c.stamp fresh)
  unfolding write write_at place_of register_of
  soft_reset_lem = sym (guard_in c (done 0 (soft_reset c)) h)

  -- number by number
  pub soft_numbers : numbers_of (step (op_write 0 bits lines) c).chip ≡ c.stamp ∷ 1 ∷ 0x1111_1111_1111_1111 ∷ 0x4444_4444_4444_4444 ∷ 0x4444_4444_4444_4444 ∷ replicate 85 0
  soft_numbers = ap (λ (t : Told). numbers_of t.chip) soft_reset_lem

  -- and its CSR
  pub soft_csr : step (op_read 1) (step (op_write 0 bits lines) c).chip ≡ done 32772 (with_stamp c.stamp fresh)
  soft_csr = ap (λ (t : Told). step (op_read 1) t.chip) soft_reset_lem ∙ reset_csr c.stamp (inside_stamp c h)

-- so of two records nothing but the Timestamp can be read after it
pub soft_reset_same : (bits lines bits' lines' : ℕ) (c d : Chip2) → inside c ≡ true → inside d ≡ true → c.stamp ≡ d.stamp → step (op_write 0 bits lines) c ≡ step (op_write 0 bits' lines') d
soft_reset_same bits lines bits' lines' c d h k e =
    soft_reset_lem bits lines c h ∙ ap (λ (n : ℕ). done 0 (with_stamp n fresh)) e ∙ sym (soft_reset_lem bits' lines' d k)
