-- A trigger does to the MultiKron II what its fate by the list says. By the laws of the stream over the edition, and fate by fate. Assumes nothing.
use Prim.Native.Nat.{ℕ, ◌*◌, ◌%◌, ◌^◌, ◌<◌}
use mathlib.Core.Path.{◌≡◌, refl, sym, ap, ap₂, ◌∙◌, subst}
use mathlib.Core.Bool.{Bool, true, false, cond, ◌&&◌, ◌||◌}
use mathlib.Core.List.{List, [], ◌∷◌, ◌++◌}
use lib.Dec.{ltb}
use lib.ListN.{length, get_or, replicate}
use borrow.Author.Tests.{leb-false, ltb-true}
use Rattle.samples.specs.Layout.{resource}
use Rattle.samples.specs.declared.edition.Edition.TheVariants.{Second}
use Rattle.samples.specs.declared.sample.Sample.{Sample}
use Rattle.counters.specs.Bank.{bit, copied}
use Rattle.counters.specs.declared.bank.Bank.{Bank}
use Rattle.queue.specs.Queue.{busy, full, held_sample, pushed}
use Rattle.queue.specs.declared.queue.Held.{Held}
use Rattle.queue.specs.declared.queue.Queue.{Queue}
use Rattle.control.specs.Control.{header_of, waited}
use Rattle.control.specs.Fate.{fate}
use Rattle.control.specs.declared.fate.Fate.{Fate as Chip-as-Fate}
use Rattle.control.specs.declared.control.Control.{Control}
use Rattle.control.specs.declared.reply.Reply.TheVariants.{Lines, Wait}
use Rattle.control.proofs.HeaderLaws.{header_kind}
use Rattle.chip.specs.Chip.{blocked, lacks_room, line_of}
use Rattle.chip2.specs.Chip2.{fate_of, replied, sample_now, trigger, trigger_by, with_control}
use Rattle.chip2.specs.declared.chip2.Chip2.{Chip2}
use Rattle.history.specs.Ledger.{Fate, line_in, unmarked, waited_one, was_filtered, was_lost, was_off, was_taken, was_told}
use Rattle.history.specs.Stream.{any_held, is_blocked, is_full}
use Rattle.history.proofs.Addresses.{line_is, line_same}
use Rattle.history.proofs.ControlLaws.{lost_control, waited_control}
use Rattle.history.proofs.HeldLaws.{HasSixteen, every_more}
use Rattle.history.proofs.HoldsLaws.{Holds, holds_busy, holds_copied, holds_full, holds_pushed}
use Rattle.history.proofs.Triggers.{Roomy, chip_fate, fate_by_lem, header_same, or_left, or_right}
use Rattle.history2.specs.Counts2.{flat}
use Rattle.history2.specs.Ledger2.{Ledger, after_fate, by_fate, fate_in, held, sample_in, tells, triggered, with_errors}
use Rattle.history2.proofs.Agrees2.{Good, Kept, chip_for, control_of, kept}
use Rattle.history2.proofs.CountLaws2.{flat_length}
use Rattle.history2.proofs.DueLaws2.{fields_of}

module _ (l : Ledger) (q : Queue) (g : Good l q) where
  pub full_same : full q ≡ is_full (held l)
  full_same = holds_full Second l.taken l.sent l.shadows q g.holds

  pub busy_same : busy q ≡ any_held (held l)
  busy_same = holds_busy Second l.taken l.sent l.shadows q g.holds

  blocked_same : (r : Bool) → blocked r q ≡ is_blocked r (held l)
  blocked_same r = ap (λ (b : Bool). r && b) busy_same

  room_same : (r : Bool) → lacks_room r q ≡ (is_full (held l) || is_blocked r (held l))
  room_same r = ap₂ (λ (a b : Bool). a || b) full_same (blocked_same r)

  -- the chip's fate is the ledger's
  fate_same : (r : Bool) (level : ℕ) → fate_of r level (chip_for l q) ≡ chip_fate (fate_in r level l)
  fate_same r level =
      let s = l.settings in
      ap (λ (b : Bool). fate s.sampling (bit s.filter level) b s.writewait) (room_same r)
      ∙ (fate_by_lem s.sampling (bit s.filter level) (is_full (held l) || is_blocked r (held l)) s.writewait).0

  fate_room : (r : Bool) (level : ℕ) → Roomy (fate_in r level l) (lacks_room r q)
  fate_room r level =
      let s = l.settings in
      subst (Roomy (fate_in r level l)) (sym (room_same r))
      (fate_by_lem s.sampling (bit s.filter level) (is_full (held l) || is_blocked r (held l)) s.writewait).1

  -- the shadows after a trigger that is taken
  abbrev shadows_by : Bool → List ℕ
  shadows_by r = cond r (flat l.counts) l.shadows

  -- the sample that the place then holds is the ledger's
  sample_same : (r : Bool) (line bits : ℕ) → line < 8 → held_sample (shadows_by r) (sample_now r line bits (chip_for l q)) ≡ sample_in r line bits l
  sample_same r line bits h =
      let counters : cond (resource (header_of line r l.errors.mark)) (shadows_by r) (replicate 16 0) ≡ cond r (flat l.counts) (replicate 16 0) =
      ap (λ (b : Bool). cond b (shadows_by r) (replicate 16 0)) (header_kind line h r l.errors.mark) ∙ twice r in
      λ i. record { user = bits % 2 ^ 64; stamp = l.clock % 2 ^ 56; source = get_or l.sources line 0; header = header_same line r l.errors.mark i; counters = counters i }
    where
      twice : (b : Bool) → cond b (shadows_by b) (replicate 16 0) ≡ cond b (flat l.counts) (replicate 16 0)
      twice true = refl
      twice false = refl

  sample_sixteen : (r : Bool) (line bits : ℕ) → length (sample_in r line bits l).counters ≡ 16
  sample_sixteen true line bits = flat_length l.counts ∙ ap (λ (n : ℕ). 2 * n) g.paired.eight
  sample_sixteen false line bits = refl

  -- the shadows may be written by a Resource trigger that finds room
  shadowed : (r : Bool) → blocked r q ≡ false → Holds Second l.taken l.sent (shadows_by r) q
  shadowed true free = holds_copied Second l.taken l.sent l.shadows q g.holds (flat l.counts) free
  shadowed false free = g.holds

  taken_holds : (r : Bool) (line bits : ℕ) → line < 8 → lacks_room r q ≡ false → Holds Second (l.taken ++ (sample_in r line bits l ∷ [])) l.sent (shadows_by r) (pushed (sample_now r line bits (chip_for l q)) q)
  taken_holds r line bits h room =
      let place : Held = sample_now r line bits (chip_for l q) in
      subst (λ (s : Sample). Holds Second (l.taken ++ (s ∷ [])) l.sent (shadows_by r) (pushed place q)) (sample_same r line bits h)
      (holds_pushed Second l.taken l.sent (shadows_by r) q (shadowed r (or_right (full q) (blocked r q) room)) place (leb-false 8 q.held (or_left (full q) (blocked r q) room)))

  bank_same : (r : Bool) → ◌≡◌ {A = Bank} (cond r (copied (record { values = flat l.counts; shadows = l.shadows })) (record { values = flat l.counts; shadows = l.shadows })) (record { values = flat l.counts; shadows = shadows_by r })
  bank_same true = refl
  bank_same false = refl

  -- one wait more
  pub told : Kept (tells 10 0 (with_errors (waited_one l.errors) l)) (replied Wait (with_control (waited (control_of l)) (chip_for l q)))
  told = kept 10 0 _ q _ g (ap (λ (k : Control). with_control k (chip_for l q)) (waited_control l.settings l.errors)) refl refl

  -- what each fate does
  by_fate_lem : (f : Fate) (r : Bool) (line bits : ℕ) → line < 8 → Roomy f (lacks_room r q) → Kept (by_fate f r line bits l) (trigger_by (chip_fate f) r line bits (chip_for l q))
  unfolding after_fate trigger_by
  by_fate_lem was_off r line bits h e = kept 6 0 l q _ g refl refl refl
  by_fate_lem was_filtered r line bits h e = kept 7 0 l q _ g refl refl refl
  by_fate_lem was_lost r line bits h e =
      kept 8 0 _ q _ g (ap (λ (k : Control). with_control k (chip_for l q)) (lost_control l.settings l.errors _ _ _ _ full_same (blocked_same r))) refl refl
  by_fate_lem was_told r line bits h e = told
  by_fate_lem was_taken r line bits h e =
      let q' : Queue = pushed (sample_now r line bits (chip_for l q)) q in
      kept 0 0 _ q' _
      (record {
        holds = taken_holds r line bits h e;
        sixteen = every_more HasSixteen l.taken (sample_in r line bits l) g.sixteen (sample_sixteen r line bits);
        paired = g.paired;
      })
      (ap (λ (b : Bank). record { stamp = l.clock % 2 ^ 56; queue = q'; fields = fields_of l.controls; bank = b; sources = l.sources; control = control_of (with_errors (unmarked l.errors) l); high = l.high; narrow = l.narrow; phase = l.nodes % 100 })
      (bank_same r))
      refl
      refl

  -- a trigger, refused with 4 or by its fate
  pub trigger_kept : (r : Bool) (level bits lines : ℕ) → Kept (triggered r level bits lines l) (trigger r level bits lines (chip_for l q))
  unfolding triggered trigger
  trigger_kept r level bits lines =
      subst (λ (b : Bool). Kept (triggered r level bits lines l) (cond b (trigger_by (fate_of r level c) r (line_of lines) bits c) (replied Lines c)))
      (sym (line_same lines))
      (go (ltb (line_in lines) 8) refl)
    where
      c : Chip2
      c = chip_for l q

      go : (b : Bool) → ltb (line_in lines) 8 ≡ b → Kept (cond b (by_fate (fate_in r level l) r (line_in lines) bits l) (tells 4 0 l)) (cond b (trigger_by (fate_of r level c) r (line_of lines) bits c) (replied Lines c))
      go true e =
          subst (λ (n : ℕ). Kept (by_fate (fate_in r level l) r (line_in lines) bits l) (trigger_by (fate_of r level c) r n bits c)) (sym (line_is lines e))
          (subst (λ (f : Chip-as-Fate). Kept (by_fate (fate_in r level l) r (line_in lines) bits l) (trigger_by f r (line_in lines) bits c)) (sym (fate_same r level))
          (by_fate_lem (fate_in r level l) r (line_in lines) bits (ltb-true (line_in lines) 8 e) (fate_room r level)))
      go false e = kept 4 0 l q _ g refl refl refl
