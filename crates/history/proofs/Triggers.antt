-- A trigger does to the chip what its fate by the list says. Assumes nothing.
use Prim.Native.Nat.{ℕ, ◌+◌, ◌%◌, ◌^◌, ◌<◌}
use mathlib.Core.Path.{◌≡◌, refl, sym, ap, ap₂, ◌∙◌, subst}
use mathlib.Core.Bool.{Bool, true, false, cond, ◌&&◌, ◌||◌, false≢true}
use mathlib.Core.List.{List, [], ◌∷◌, ◌++◌, map}
use lib.Dec.{ltb}
use lib.ListN.{length, get_or, replicate, length-map}
use lib.Pow.{mod-mod-pow}
use borrow.Author.Tests.{leb-false, ltb-true}
use Rattle.samples.specs.Layout.{resource}
use Rattle.samples.specs.declared.edition.Edition.TheVariants.{First}
use Rattle.samples.specs.declared.sample.Sample.{Sample}
use Rattle.counters.specs.Bank.{bit, copied}
use Rattle.queue.specs.Queue.{busy, full, held_sample, pushed}
use Rattle.queue.specs.declared.queue.Held.{Held}
use Rattle.queue.specs.declared.queue.Queue.{Queue}
use Rattle.control.specs.Control.{header_of, waited}
use Rattle.control.specs.Fate.{fate}
use Rattle.control.specs.declared.fate.Fate.TheVariants.{Off as is_off, Filtered as is_filtered, Lost as is_lost, Wait as is_told, Taken as is_taken}
use Rattle.control.specs.declared.fate.Fate.{Fate as Chip-as-Fate}
use Rattle.control.specs.declared.control.Control.{Control}
use Rattle.control.specs.declared.reply.Reply.TheVariants.{Lines, Wait}
use Rattle.control.proofs.HeaderLaws.{header_kind}
use Rattle.chip.specs.Chip.{blocked, fate_of, lacks_room, line_of, replied, sample_now, trigger, trigger_by, with_control}
use Rattle.chip.specs.declared.chip.Chip.{Chip}
use Rattle.counters.specs.declared.bank.Bank.{Bank}
use Rattle.history.specs.Ledger.{Fate, Ledger, after_fate, by_fate, fate_in, held, line_in, sample_in, tells, triggered, unmarked, waited_one, was_filtered, was_lost, was_off, was_taken, was_told, with_errors}
use Rattle.history.specs.Stream.{any_held, is_blocked, is_full}
use Rattle.history.proofs.Addresses.{line_is, line_same}
use Rattle.history.proofs.Agrees.{Good, Kept, chip_for, control_of, switches_of}
use Rattle.history.proofs.ControlLaws.{lost_control, waited_control}
use Rattle.history.proofs.CountLaws.{value_of}
use Rattle.history.proofs.HeldLaws.{HasSixteen, every_more}
use Rattle.history.proofs.HoldsLaws.{Holds, holds_busy, holds_copied, holds_full, holds_pushed}

-- the chip's name for a fate
abbrev pub chip_fate : Fate → Chip-as-Fate
chip_fate was_off = is_off
chip_fate was_filtered = is_filtered
chip_fate was_lost = is_lost
chip_fate was_told = is_told
chip_fate was_taken = is_taken

-- what is shown of a taken trigger's room, and of nothing else
abbrev pub Roomy : Fate → Bool → Type 0
Roomy was_off b = Unit {0}
Roomy was_filtered b = Unit {0}
Roomy was_lost b = Unit {0}
Roomy was_told b = Unit {0}
Roomy was_taken b = b ≡ false

-- settings, level and room give both the same fate, and a trigger that is taken lacks no room
abbrev pub fate_by : Bool → Bool → Bool → Bool → Fate
fate_by s p r w = cond s (cond p (cond r (cond w was_told was_lost) was_taken) was_filtered) was_off

pub fate_by_lem : (s p r w : Bool) → (fate s p r w ≡ chip_fate (fate_by s p r w)) × Roomy (fate_by s p r w) r
fate_by_lem true true true true = (refl, tt)
fate_by_lem true true true false = (refl, tt)
fate_by_lem true true false w = (refl, refl)
fate_by_lem true false r w = (refl, tt)
fate_by_lem false p r w = (refl, tt)

-- the header's bits as numbers
pub header_same : (line : ℕ) (r m : Bool) → header_of line r m ≡ line + cond r 8 0 + cond m 16 0
header_same line true true = refl
header_same line true false = refl
header_same line false true = refl
header_same line false false = refl

-- where neither of two is so
pub or_left : (a b : Bool) → (a || b) ≡ false → a ≡ false
or_left true b e = e
or_left false b e = refl

pub or_right : (a b : Bool) → (a || b) ≡ false → b ≡ false
or_right true b e = absurd (false≢true (sym e))
or_right false b e = e

-- where one of two is so
pub or_true : (b : Bool) → (b || true) ≡ true
or_true true = refl
or_true false = refl

module _ (l : Ledger) (q : Queue) (sh : List ℕ) (g : Good l q sh) where
  full_same : full q ≡ is_full (held l)
  full_same = holds_full First l.taken l.sent sh q g.holds

  busy_same : busy q ≡ any_held (held l)
  busy_same = holds_busy First l.taken l.sent sh q g.holds

  blocked_same : (r : Bool) → blocked r q ≡ is_blocked r (held l)
  blocked_same r = ap (λ (b : Bool). r && b) busy_same

  room_same : (r : Bool) → lacks_room r q ≡ (is_full (held l) || is_blocked r (held l))
  room_same r = ap₂ (λ (a b : Bool). a || b) full_same (blocked_same r)

  -- the chip's fate is the ledger's
  fate_same : (r : Bool) (level : ℕ) → fate_of r level (chip_for l q sh) ≡ chip_fate (fate_in r level l)
  fate_same r level =
      let s = l.settings in
      ap (λ (b : Bool). fate s.sampling (bit s.filter level) b s.writewait) (room_same r)
      ∙ (fate_by_lem s.sampling (bit s.filter level) (is_full (held l) || is_blocked r (held l)) s.writewait).0

  fate_room : (r : Bool) (level : ℕ) → Roomy (fate_in r level l) (lacks_room r q)
  fate_room r level =
      let s = l.settings in
      subst (Roomy (fate_in r level l)) (sym (room_same r))
      (fate_by_lem s.sampling (bit s.filter level) (is_full (held l) || is_blocked r (held l)) s.writewait).1

  -- the sample that the place then holds is the ledger's
  sample_same : (r : Bool) (line bits : ℕ) → line < 8 → held_sample (cond r (map value_of l.counters) sh) (sample_now r line bits (chip_for l q sh)) ≡ sample_in r line bits l
  sample_same r line bits h =
      let stamp : l.clock % 2 ^ 56 % 2 ^ 40 ≡ l.clock % 2 ^ 40 = mod-mod-pow l.clock 16 40 in
      let counters : cond (resource (header_of line r l.errors.mark)) (cond r (map value_of l.counters) sh) (replicate 16 0) ≡ cond r (map value_of l.counters) (replicate 16 0) =
      ap (λ (b : Bool). cond b (cond r (map value_of l.counters) sh) (replicate 16 0)) (header_kind line h r l.errors.mark) ∙ twice r in
      λ i. record { user = bits % 2 ^ 48; stamp = stamp i; source = get_or l.sources line 0; header = header_same line r l.errors.mark i; counters = counters i }
    where
      twice : (b : Bool) → cond b (cond b (map value_of l.counters) sh) (replicate 16 0) ≡ cond b (map value_of l.counters) (replicate 16 0)
      twice true = refl
      twice false = refl

  sample_sixteen : (r : Bool) (line bits : ℕ) → length (sample_in r line bits l).counters ≡ 16
  sample_sixteen true line bits = length-map l.counters value_of ∙ g.counters
  sample_sixteen false line bits = refl

  -- the shadows may be written by a Resource trigger that finds room
  shadowed : (r : Bool) → blocked r q ≡ false → Holds First l.taken l.sent (cond r (map value_of l.counters) sh) q
  shadowed true free = holds_copied First l.taken l.sent sh q g.holds (map value_of l.counters) free
  shadowed false free = g.holds

  taken_holds : (r : Bool) (line bits : ℕ) → line < 8 → lacks_room r q ≡ false → Holds First (l.taken ++ (sample_in r line bits l ∷ [])) l.sent (cond r (map value_of l.counters) sh) (pushed (sample_now r line bits (chip_for l q sh)) q)
  taken_holds r line bits h room =
      let sh' : List ℕ = cond r (map value_of l.counters) sh in
      let place : Held = sample_now r line bits (chip_for l q sh) in
      subst (λ (s : Sample). Holds First (l.taken ++ (s ∷ [])) l.sent sh' (pushed place q)) (sample_same r line bits h)
      (holds_pushed First l.taken l.sent sh' q (shadowed r (or_right (full q) (blocked r q) room)) place (leb-false 8 q.held (or_left (full q) (blocked r q) room)))

  bank_same : (r : Bool) → ◌≡◌ {A = Bank} (cond r (copied (record { values = map value_of l.counters; shadows = sh })) (record { values = map value_of l.counters; shadows = sh })) (record { values = map value_of l.counters; shadows = cond r (map value_of l.counters) sh })
  bank_same true = refl
  bank_same false = refl

  -- one wait more
  pub told : Kept (tells 10 0 (with_errors (waited_one l.errors) l)) (replied Wait (with_control (waited (control_of l)) (chip_for l q sh)))
  told =
      record {
        agrees =
            record {
              queue = q;
              shadows = sh;
              is = ap (λ (k : Control). with_control k (chip_for l q sh)) (waited_control l.settings l.errors);
              good = record { holds = g.holds; sixteen = g.sixteen; counters = g.counters };
            };
        number = refl;
        value = refl;
      }

  -- what each fate does
  by_fate_lem : (f : Fate) (r : Bool) (line bits : ℕ) → line < 8 → Roomy f (lacks_room r q) → Kept (by_fate f r line bits l) (trigger_by (chip_fate f) r line bits (chip_for l q sh))
  unfolding after_fate trigger_by
  by_fate_lem was_off r line bits h e = record { agrees = record { queue = q; shadows = sh; is = refl; good = g }; number = refl; value = refl }
  by_fate_lem was_filtered r line bits h e = record { agrees = record { queue = q; shadows = sh; is = refl; good = g }; number = refl; value = refl }
  by_fate_lem was_lost r line bits h e =
      record {
        agrees = record { queue = q; shadows = sh; is = ap (λ (k : Control). with_control k (chip_for l q sh)) (lost_control l.settings l.errors _ _ _ _ full_same (blocked_same r)); good = record { holds = g.holds; sixteen = g.sixteen; counters = g.counters } };
        number = refl;
        value = refl;
      }
  by_fate_lem was_told r line bits h e = told
  by_fate_lem was_taken r line bits h e =
      let room : lacks_room r q ≡ false = e in
      let sh' : List ℕ = cond r (map value_of l.counters) sh in
      let q' : Queue = pushed (sample_now r line bits (chip_for l q sh)) q in
      record {
        agrees =
            record {
              queue = q';
              shadows = sh';
              is =
                  ap (λ (b : Bank). record { stamp = l.clock % 2 ^ 56; queue = q'; bank = b; sources = l.sources; control = control_of (with_errors (unmarked l.errors) l); switches = switches_of l })
                  (bank_same r);
              good =
                  record {
                    holds = taken_holds r line bits h room;
                    sixteen = every_more HasSixteen l.taken (sample_in r line bits l) g.sixteen (sample_sixteen r line bits);
                    counters = g.counters;
                  };
            };
        number = refl;
        value = refl;
      }

  -- a trigger, refused with 4 or by its fate
  pub trigger_kept : (r : Bool) (level bits lines : ℕ) → Kept (triggered r level bits lines l) (trigger r level bits lines (chip_for l q sh))
  unfolding triggered trigger
  trigger_kept r level bits lines =
      subst (λ (b : Bool). Kept (triggered r level bits lines l) (cond b (trigger_by (fate_of r level c) r (line_of lines) bits c) (replied Lines c)))
      (sym (line_same lines))
      (go (ltb (line_in lines) 8) refl)
    where
      c : Chip
      c = chip_for l q sh

      go : (b : Bool) → ltb (line_in lines) 8 ≡ b → Kept (cond b (by_fate (fate_in r level l) r (line_in lines) bits l) (tells 4 0 l)) (cond b (trigger_by (fate_of r level c) r (line_of lines) bits c) (replied Lines c))
      go true e =
          subst (λ (n : ℕ). Kept (by_fate (fate_in r level l) r (line_in lines) bits l) (trigger_by (fate_of r level c) r n bits c)) (sym (line_is lines e))
          (subst (λ (f : Chip-as-Fate). Kept (by_fate (fate_in r level l) r (line_in lines) bits l) (trigger_by f r (line_in lines) bits c)) (sym (fate_same r level))
          (by_fate_lem (fate_in r level l) r (line_in lines) bits (ltb-true (line_in lines) 8 e) (fate_room r level)))
      go false e = record { agrees = record { queue = q; shadows = sh; is = refl; good = g }; number = refl; value = refl }
