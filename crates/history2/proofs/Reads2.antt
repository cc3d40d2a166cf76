-- Every read of the MultiKron II gives what the ledger says, and leaves what it says. Address by address below 13, range by range above. Assumes nothing.
use Prim.Native.Nat.{ℕ, ◌+◌, ◌-◌, ◌*◌, ◌/◌, ◌%◌, ◌^◌}
use native.Mathlib.Nat.{add_comm}
use native.Mathlib.Omega.{arith}
use mathlib.Core.Path.{◌≡◌, refl, sym, ap, ap₂, ◌∙◌, subst}
use mathlib.Core.Bool.{Bool, true, false, cond, not}
use lib.Dec.{leb}
use lib.ListN.{get_or}
use Rattle.samples.specs.declared.edition.Edition.TheVariants.{Second}
use Rattle.counters.specs.Bank.{copied}
use Rattle.queue.specs.Queue.{busy}
use Rattle.queue.specs.declared.queue.Queue.{Queue}
use Rattle.control.specs.Control.{csr_of, one, waited}
use Rattle.control.specs.declared.reply.Reply.TheVariants.{Busy, Wait}
use Rattle.chip2.specs.Chip2.{given, ones_above, read_at, read_counter, replied, status_of, with_bank, with_control}
use Rattle.chip2.specs.Place.{place_of, register_of}
use Rattle.chip2.specs.Told.{Told}
use Rattle.chip2.specs.declared.place.Place.{Place}
use Rattle.chip2.specs.declared.place.Place.TheVariants.{Beyond, Nowhere, Source, Counter, Shadow, Trigger}
use Rattle.history.specs.Ledger.{waited_one}
use Rattle.history.specs.Stream.{any_held, is_full}
use Rattle.history.proofs.ControlLaws.{csr_same}
use Rattle.history.proofs.HoldsLaws.{holds_copied}
use Rattle.history2.specs.Counts2.{flat}
use Rattle.history2.specs.Ledger2.{Entry, Ledger, answers, by_range, counter_read, csr_in, held, ones_over, read_in, read_low, tells, vacant, with_errors, with_high, with_shadows}
use Rattle.history2.proofs.Addresses2.{by_place, range_beyond, range_counter, range_shadow, range_source, range_trigger, range_vacant}
use Rattle.history2.proofs.Agrees2.{Good, Kept, chip_for, control_of, kept}
use Rattle.history2.proofs.Counters2.{bank_of}
use Rattle.history2.proofs.Triggers2.{busy_same, full_same, told}

-- "any unused bit positions return a logical 1"
ones_same : (width n : ℕ) → ones_above width n ≡ ones_over width n
ones_same width n = add_comm n (2 ^ 64 - 2 ^ width)

-- 32-bit and 64-bit mode in the CSR
mode_bits : (n : ℕ) (b : Bool) → n + 2 ^ 14 * one b + 2 ^ 15 * one (not b) ≡ n + cond b 16384 32768
mode_bits n true = omega arith
mode_bits n false = omega arith

module _ (l : Ledger) (q : Queue) (g : Good l q) where
  -- a read that is answered 0
  given_kept : (v v' : ℕ) → v' ≡ v → Kept (answers v l) (given v' (chip_for l q))
  given_kept v v' e = kept 0 v _ q _ g (ap (λ (n : ℕ). chip_for (with_high (n / 2 ^ 32) l) q) e) refl e

  -- 1
  status_same : status_of (chip_for l q) ≡ csr_in l
  status_same =
      ap (λ (n : ℕ). n + 2 ^ 14 * one l.narrow + 2 ^ 15 * one (not l.narrow))
      (ap₂ (λ (a b : Bool). csr_of a b (control_of l)) (full_same l q g) (busy_same l q g)
      ∙ csr_same (is_full (held l)) (any_held (held l)) l.settings l.errors)
      ∙ mode_bits _ l.narrow

  -- 64 to 79
  counter_told : ℕ → Bool → Bool → Told
  counter_told i b w =
      cond b
      (cond w (replied Wait (with_control (waited (control_of l)) (chip_for l q))) (replied Busy (chip_for l q)))
      (given (ones_above 32 (get_or (flat l.counts) i 0)) (with_bank (copied (bank_of l.counts l.shadows)) (chip_for l q)))

  counter_entry : ℕ → Bool → Bool → Entry
  counter_entry i b w =
      cond b (cond w (tells 10 0 (with_errors (waited_one l.errors) l)) (tells 11 (2 ^ 63) l))
      (answers (ones_over 32 (get_or (flat l.counts) i 0)) (with_shadows (flat l.counts) l))

  counter_by : (i : ℕ) (b w : Bool) → busy q ≡ b → Kept (counter_entry i b w) (counter_told i b w)
  unfolding counter_entry counter_told
  counter_by i true true e = told l q g
  counter_by i true false e = kept 11 (2 ^ 63) l q _ g refl refl refl
  counter_by i false w e =
      let v : ℕ = get_or (flat l.counts) i 0 in
      kept 0 (ones_over 32 v) _ q _
      (record { holds = holds_copied Second l.taken l.sent l.shadows q g.holds (flat l.counts) e; sixteen = g.sixteen; paired = g.paired })
      (ap (λ (n : ℕ). chip_for (with_high (n / 2 ^ 32) (with_shadows (flat l.counts) l)) q) (ones_same 32 v))
      refl
      (ones_same 32 v)

  counter_kept : (i : ℕ) → Kept (counter_read i l) (read_counter i (chip_for l q))
  unfolding read_counter counter_entry counter_told
  counter_kept i =
      subst (Kept (counter_read i l)) (λ k. counter_told i (sym (busy_same l q g) k) l.settings.readwait)
      (counter_by i (any_held (held l)) l.settings.readwait (busy_same l q g))

  -- every address
  pub read_kept : (a : ℕ) → Kept (read_in a l) (read_at (place_of a) (chip_for l q))
  unfolding read_in read_at by_range vacant read_low register_of
  read_kept =
      by_place (λ a p. Kept (read_in a l) (read_at p (chip_for l q)))
      (given_kept _ _ refl, (kept 2 0 l q _ g refl refl refl, (given_kept _ _ refl, (kept 2 0 l q _ g refl refl refl, (given_kept _ _ refl, (kept 0 _ l q _ g refl refl (ones_same 32 l.high), (given_kept _ _ (ones_same 32 (l.errors.lost % 2 ^ 32)), (given_kept _ _ (ones_same 32 (l.errors.waits % 2 ^ 32)), (given_kept _ _ (ones_same 16 l.settings.filter), (kept 2 0 l q _ g refl refl refl, (given_kept _ _ (ones_same 56 (l.clock % 2 ^ 56)), (given_kept _ _ status_same, (kept 3 0 l q _ g refl refl refl, tt)))))))))))))
      (λ a p h. there (Source (a - 32)) (range_source a l _ _ _ _ _ p h) (given_kept _ _ (ones_same 32 (get_or l.sources (a - 32) 0))))
      (λ a p h. there (Counter (a - 64)) (range_counter a l _ _ _ _ _ p h) (counter_kept (a - 64)))
      (λ a p h. there (Shadow (a - 80)) (range_shadow a l _ _ _ _ _ p h) (given_kept _ _ (ones_same 32 (get_or l.shadows (a - 80) 0))))
      (λ a p h. there (Trigger (leb 112 a) (a % 16)) (range_trigger a l _ _ _ _ _ p h) (kept 3 0 l q _ g refl refl refl))
      (λ a p v. there Nowhere (range_vacant a l _ _ _ _ _ p v) (kept 2 0 l q _ g refl refl refl))
      (λ a p. there Beyond (range_beyond a l _ _ _ _ _ p) (kept 1 0 l q _ g refl refl refl))
    where
      there : {e x : Entry} (place : Place) → e ≡ x → Kept x (read_at place (chip_for l q)) → Kept e (read_at place (chip_for l q))
      there place d k = subst (λ (y : Entry). Kept y (read_at place (chip_for l q))) (sym d) k
