-- Every write does to the MultiKron II what the ledger says, and replies so; so does a reset. Address by address below 13, range by range above. Assumes nothing.
use Prim.Native.Nat.{ℕ, ◌-◌, ◌/◌, ◌%◌, ◌^◌}
use native.Mathlib.Nat.{mod-lt}
use mathlib.Core.Path.{◌≡◌, refl, sym, ap, subst}
use mathlib.Core.List.{List}
use lib.Dec.{eqb, leb}
use lib.ListN.{replicate}
use lib.Pow.{pow_pos}
use Rattle.samples.specs.declared.edition.Edition.TheVariants.{Second}
use Rattle.counters.specs.declared.bank.Bank.{Bank}
use Rattle.counters2.specs.declared.fields.Fields.{Fields}
use Rattle.queue.specs.Queue.{empty_queue}
use Rattle.queue.specs.declared.queue.Queue.{Queue}
use Rattle.chip2.specs.Chip2.{configured_all, done, enabled_all, fresh, with_bank, with_control, with_fields, with_narrow, with_stamp, write_at}
use Rattle.chip2.specs.Place.{place_of, register_of}
use Rattle.chip2.specs.declared.place.Place.{Place}
use Rattle.chip2.specs.declared.place.Place.TheVariants.{Beyond, Nowhere, Mode, Select, Source, Counter, Shadow, Trigger}
use Rattle.history.specs.Ledger.{configured, each_from, turned}
use Rattle.history.proofs.ControlLaws.{configured_control, pair_turned}
use Rattle.history.proofs.HoldsLaws.{holds_empty}
use Rattle.history2.specs.Counts2.{Control2, Count, due_software, enabling, flat, moding, packed, pairs, restarts, selecting}
use Rattle.history2.specs.Ledger2.{Entry, Ledger, by_range, happened, loaded, moded, reset_at, tells, vacant, with_counters, with_settings, written, written_low}
use Rattle.history2.proofs.Addresses2.{by_place, range_beyond, range_counter, range_shadow, range_source, range_trigger, range_vacant}
use Rattle.history2.proofs.Agrees2.{Good, Kept, Paired, chip_for, kept, paired_controls, paired_moded, paired_reset}
use Rattle.history2.proofs.CountLaws2.{paired_values}
use Rattle.history2.proofs.Counters2.{bank_of, counted_paired, enabled_fields, loaded_values, moded_fields, put_paired, restarted_values, selected_fields, software_happened}
use Rattle.history2.proofs.DueLaws2.{fields_of}
use Rattle.history2.proofs.Triggers2.{trigger_kept}

-- a reset record, whatever was before
pub reset_record : (clock : ℕ) → with_stamp (clock % 2 ^ 56) fresh ≡ chip_for (reset_at clock) empty_queue
unfolding packed flat
reset_record clock = refl

pub reset_good : (clock : ℕ) → Good (reset_at clock) empty_queue
reset_good clock = record { holds = holds_empty Second (replicate 16 0); sixteen = tt; paired = paired_reset }

module _ (l : Ledger) (q : Queue) (g : Good l q) where
  -- 1
  configured_kept : (bits : ℕ) → Kept (tells 0 0 (with_settings (configured bits l.settings) (turned (bits / 2 ^ 14 % 4) l.narrow) l)) (done 0 (configured_all bits (chip_for l q)))
  configured_kept bits =
      kept 0 0 _ q _ g
      (λ i. with_narrow (pair_turned 14 bits l.narrow i) (with_control (configured_control bits l.settings l.errors i) (chip_for l q)))
      refl refl

  -- other fields and counts
  counters_kept : (ks : List Control2) (cs : List Count) (f : Fields) (b : Bank) → Paired ks cs → f ≡ fields_of ks → b ≡ bank_of cs l.shadows → Kept (tells 0 0 (with_counters ks cs l)) (done 0 (with_fields f (with_bank b (chip_for l q))))
  counters_kept ks cs f b p e v =
      kept 0 0 _ q _ (record { holds = g.holds; sixteen = g.sixteen; paired = p }) (λ i. with_fields (e i) (with_bank (v i) (chip_for l q))) refl refl

  values : List ℕ → Bank
  values vs = record { values = vs; shadows = l.shadows }

  -- 8, 10 and 12
  enabled_kept : (bits : ℕ) → Kept (tells 0 0 (loaded (restarts bits) 0 (with_counters (each_from 0 (enabling bits) l.controls) l.counts l))) (done 0 (enabled_all bits (chip_for l q)))
  unfolding values
  enabled_kept bits =
      let p = g.paired in
      counters_kept _ _ _ _ (put_paired _ l.counts (paired_controls l.controls l.counts p (enabling bits) (λ i k. refl)) (restarts bits) 0) (enabled_fields l.controls l.counts p bits)
      (ap values (restarted_values l.controls l.counts p bits))

  moded_kept : (bits : ℕ) → Kept (tells 0 0 (moded (each_from 0 (moding bits) l.controls) l)) (write_at Mode bits 0 (chip_for l q))
  unfolding write_at values
  moded_kept bits =
      let p = g.paired in
      counters_kept _ _ _ _ (paired_moded l.controls l.counts p bits) (moded_fields l.controls l.counts p bits)
      (ap values (paired_values (pairs (each_from 0 (moding bits) l.controls)) 0 l.counts))

  selected_kept : (bits : ℕ) → Kept (tells 0 0 (with_counters (each_from 0 (selecting bits) l.controls) l.counts l)) (write_at Select bits 0 (chip_for l q))
  unfolding write_at
  selected_kept bits =
      let p = g.paired in
      counters_kept _ _ _ _ (paired_controls l.controls l.counts p (selecting bits) (λ i k. refl)) (selected_fields l.controls l.counts p bits) refl

  -- 64 to 79, and 80 to 95
  loaded_kept : (i bits : ℕ) → Kept (tells 0 0 (loaded (λ j. eqb j i) (bits % 2 ^ 32) l)) (write_at (Counter i) bits 0 (chip_for l q))
  unfolding write_at values
  loaded_kept i bits =
      let p = g.paired in
      counters_kept _ _ _ _ (put_paired l.controls l.counts p (λ j. eqb j i) (bits % 2 ^ 32)) refl
      (ap values (loaded_values l.controls l.counts p i (bits % 2 ^ 32) (mod-lt bits (pow_pos 32))))

  fired_kept : (i : ℕ) → Kept (tells 0 0 (happened (due_software i) l)) (write_at (Shadow i) 0 0 (chip_for l q))
  unfolding write_at
  fired_kept i =
      let p = g.paired in
      counters_kept _ _ _ _ (counted_paired l.controls l.counts p (due_software i)) refl (software_happened l.controls l.counts p l.shadows i)

  -- every address
  pub write_kept : (bits lines a : ℕ) → Kept (written a bits lines l) (write_at (place_of a) bits lines (chip_for l q))
  unfolding written write_at by_range vacant written_low register_of
  write_kept bits lines =
      by_place (λ a p. Kept (written a bits lines l) (write_at p bits lines (chip_for l q)))
      (selected_kept bits, (kept 2 0 l q _ g refl refl refl, (moded_kept bits, (kept 2 0 l q _ g refl refl refl, (enabled_kept bits, (kept 0 0 _ q _ g refl refl refl, (kept 0 0 _ q _ g refl refl refl, (kept 0 0 _ q _ g refl refl refl, (kept 0 0 _ q _ g refl refl refl, (kept 2 0 l q _ g refl refl refl, (kept 3 0 l q _ g refl refl refl, (configured_kept bits, (kept 0 0 _ empty_queue _ (reset_good l.clock) (reset_record l.clock) refl refl, tt)))))))))))))
      (λ a p h. there (Source (a - 32)) (range_source a l _ _ _ _ _ p h) (kept 0 0 _ q _ g refl refl refl))
      (λ a p h. there (Counter (a - 64)) (range_counter a l _ _ _ _ _ p h) (loaded_kept (a - 64) bits))
      (λ a p h. there (Shadow (a - 80)) (range_shadow a l _ _ _ _ _ p h) (fired_kept (a - 80)))
      (λ a p h. there (Trigger (leb 112 a) (a % 16)) (range_trigger a l _ _ _ _ _ p h) (trigger_kept l q g (leb 112 a) (a % 16) bits lines))
      (λ a p v. there Nowhere (range_vacant a l _ _ _ _ _ p v) (kept 2 0 l q _ g refl refl refl))
      (λ a p. there Beyond (range_beyond a l _ _ _ _ _ p) (kept 1 0 l q _ g refl refl refl))
    where
      there : {e x : Entry} (place : Place) → e ≡ x → Kept x (write_at place bits lines (chip_for l q)) → Kept e (write_at place bits lines (chip_for l q))
      there place d k = subst (λ (y : Entry). Kept y (write_at place bits lines (chip_for l q))) (sym d) k
