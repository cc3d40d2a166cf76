-- The relation between a ledger and a record of the MultiKron II: every part of the record is a function of the ledger, but for the queue, which holds what the
-- ledger says is held; and each count is one number exactly where its even counter's Mode field pairs it. Assumes nothing.
use Prim.Native.Nat.{ℕ, ◌*◌, ◌/◌, ◌%◌, ◌^◌, ◌<◌}
use native.Mathlib.Nat.{mod-lt}
use native.Mathlib.Omega.{arith}
use mathlib.Core.Path.{◌≡◌, refl, sym, ap, ap₂, ◌∙◌, subst}
use mathlib.Core.Bool.{Bool, true, false, cond, ◌&&◌}
use mathlib.Core.List.{List}
use lib.Dec.{eqb, leb}
use lib.ListN.{length, get_or, replicate, get_or-replicate}
use lib.Pow.{pow_pos}
use borrow.Author.Tests.{lt-ltb}
use Rattle.samples.specs.declared.edition.Edition.TheVariants.{Second}
use Rattle.samples.specs.declared.sample.Sample.{Sample}
use Rattle.queue.specs.declared.queue.Queue.{Queue}
use Rattle.control.specs.declared.control.Control.{Control}
use Rattle.chip2.specs.Chip2.{guarded, inside}
use Rattle.chip2.specs.Told.{Told}
use Rattle.chip2.specs.declared.chip2.Chip2.{Chip2}
use Rattle.chip2.proofs.ChipLaws.{guard_in}
use Rattle.history.specs.Ledger.{each_from}
use Rattle.history.proofs.ControlLaws.{control_by}
use Rattle.history.proofs.CountLaws.{each_at, each_length}
use Rattle.history.proofs.HeldLaws.{Sixteen}
use Rattle.history.proofs.HoldsLaws.{Holds, holds_inside}
use Rattle.history2.specs.Counts2.{Control2, Count, apart, field_in, flat, is_joined, joined, moding, no_control, no_count, paired, pairs}
use Rattle.history2.specs.Ledger2.{Entry, Ledger, tells}
use Rattle.history2.proofs.DueLaws2.{fields_of}

abbrev pub control_of : Ledger → Control
control_of l = control_by l.settings l.errors

-- the record that a ledger leaves, with a queue
abbrev pub chip_for : Ledger → Queue → Chip2
chip_for l q =
    record {
      stamp = l.clock % 2 ^ 56;
      queue = q;
      fields = fields_of l.controls;
      bank = record { values = flat l.counts; shadows = l.shadows };
      sources = l.sources;
      control = control_of l;
      high = l.high;
      narrow = l.narrow;
      phase = l.nodes % 100;
    }

-- sixteen counters in eight twos, each one number exactly where the Mode field of its even counter is 8 or more
pub record Paired (ks : List Control2) (cs : List Count) : Type 0 where
  pub sixteen : length ks ≡ 16
  pub eight : length cs ≡ 8
  pub small : (i : ℕ) → i < 16 → (get_or ks i no_control).mode < 16
  pub same : (j : ℕ) → j < 8 → is_joined (get_or cs j no_count) ≡ pairs ks j

-- what is known of the queue and of the pairs: over these parts alone, so that an operation which changes none of them has nothing to show
pub record GoodOf (taken : List Sample) (sent : ℕ) (shadows : List ℕ) (ks : List Control2) (cs : List Count) (q : Queue) : Type 0 where
  pub holds : Holds Second taken sent shadows q
  pub sixteen : Sixteen taken
  pub paired : Paired ks cs

abbrev pub Good : Ledger → Queue → Type 0
Good l q = GoodOf l.taken l.sent l.shadows l.controls l.counts q

pub record Agrees (l : Ledger) (c : Chip2) : Type 0 where
  pub queue : Queue
  pub is : c ≡ chip_for l queue
  pub good : Good l queue

-- what the chip tells is the ledger's number and value, and leaves a record for the ledger after it
pub record Kept (e : Entry) (t : Told) : Type 0 where
  pub agrees : Agrees e.ledger t.chip
  pub number : t.number ≡ e.number
  pub value : t.value ≡ e.value

pub kept : (n v : ℕ) (l : Ledger) (q : Queue) (t : Told) → Good l q → t.chip ≡ chip_for l q → t.number ≡ n → t.value ≡ v → Kept (tells n v l) t
kept n v l q t g e p r = record { agrees = record { queue = q; is = e; good = g }; number = p; value = r }

-- such a record is inside its bounds, so no operation replies 15
pub for_inside : (l : Ledger) (q : Queue) → Good l q → inside (chip_for l q) ≡ true
for_inside l q g =
    ap₂ (λ (a b : Bool). a && b) (holds_inside Second l.taken l.sent l.shadows q g.holds)
    (ap₂ (λ (a b : Bool). a && b) (lt-ltb (l.nodes % 100) 100 (mod-lt l.nodes (omega arith))) (lt-ltb (l.clock % 2 ^ 56) (2 ^ 56) (mod-lt l.clock (pow_pos 56))))

pub kept_guarded : (l : Ledger) (q : Queue) (e : Entry) (t : Told) → Good l q → Kept e t → Kept e (guarded (chip_for l q) t)
kept_guarded l q e t g k = subst (Kept e) (guard_in (chip_for l q) t (for_inside l q g)) k

-- ---- what keeps the pairs

pub paired_reset : Paired (replicate 16 no_control) (replicate 8 no_count)
paired_reset =
    record {
      sixteen = refl;
      eight = refl;
      small = λ i h. subst (λ (k : Control2). k.mode < 16) (sym (get_or-replicate 16 i no_control no_control h)) (omega arith);
      same = λ j h. ap is_joined (get_or-replicate 8 j no_count no_count h) ∙ ap (λ (k : Control2). leb 8 k.mode) (sym (get_or-replicate 16 (2 * j) no_control no_control (omega arith)));
    }

module _ (ks : List Control2) (cs : List Count) (p : Paired ks cs) where
  control_at : (f : ℕ → Control2 → Control2) (i : ℕ) → i < 16 → get_or (each_from 0 f ks) i no_control ≡ f i (get_or ks i no_control)
  control_at f i h = each_at no_control f ks i (rw p.sixteen h)

  count_at : (f : ℕ → Count → Count) (j : ℕ) → j < 8 → get_or (each_from 0 f cs) j no_count ≡ f j (get_or cs j no_count)
  count_at f j h = each_at no_count f cs j (rw p.eight h)

  -- a change of other fields than Mode's
  pub paired_controls : (f : ℕ → Control2 → Control2) → ((i : ℕ) (k : Control2) → (f i k).mode ≡ k.mode) → Paired (each_from 0 f ks) cs
  paired_controls f m = record { sixteen = each_length 0 f ks ∙ p.sixteen; eight = p.eight; small = small; same = λ j h. p.same j h ∙ ap (leb 8) (sym (mode_at (2 * j) (omega arith))) }
    where
      mode_at : (i : ℕ) → i < 16 → (get_or (each_from 0 f ks) i no_control).mode ≡ (get_or ks i no_control).mode
      mode_at i h = ap (λ (k : Control2). k.mode) (control_at f i h) ∙ m i (get_or ks i no_control)

      small : (i : ℕ) → i < 16 → (get_or (each_from 0 f ks) i no_control).mode < 16
      small i h = subst (λ (n : ℕ). n < 16) (sym (mode_at i h)) (p.small i h)

  -- events and numbers written
  pub paired_counts : (f : ℕ → Count → Count) → ((j : ℕ) (c : Count) → is_joined (f j c) ≡ is_joined c) → Paired ks (each_from 0 f cs)
  paired_counts f m =
      record { sixteen = p.sixteen; eight = each_length 0 f cs ∙ p.eight; small = p.small; same = λ j h. ap is_joined (count_at f j h) ∙ m j (get_or cs j no_count) ∙ p.same j h }

  -- a write of Mode
  pub paired_moded : (bits : ℕ) → let ks' = each_from 0 (moding bits) ks in Paired ks' (each_from 0 (λ j c. paired (pairs ks' j) c) cs)
  paired_moded bits =
      record {
        sixteen = each_length 0 (moding bits) ks ∙ p.sixteen;
        eight = each_length 0 _ cs ∙ p.eight;
        small = λ i h. subst (λ (k : Control2). k.mode < 16) (sym (control_at (moding bits) i h)) (held i h (eqb (field_in bits i % 8) 0));
        same = λ j h. ap is_joined (count_at (λ k c. paired (pairs (each_from 0 (moding bits) ks) k) c) j h) ∙ asked (pairs (each_from 0 (moding bits) ks) j) (get_or cs j no_count);
      }
    where
      held : (i : ℕ) → i < 16 → (b : Bool) → cond b (get_or ks i no_control).mode (field_in bits i) < 16
      held i h true = p.small i h
      held i h false = mod-lt (bits / 16 ^ i) (omega arith)

      asked : (b : Bool) (c : Count) → is_joined (paired b c) ≡ b
      asked true (apart x y) = refl
      asked true (joined t) = refl
      asked false (apart x y) = refl
      asked false (joined t) = refl
