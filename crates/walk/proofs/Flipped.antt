-- A sample with one word of wrong parity is one gap, number 22, decided at that word, and costs no other sample: for every sample and every
-- word of it, where the word in its place is at most 1023, has an even number of ones in bits 0 to 8 and the end mark as it was, and so for
-- every flip of one of bits 0 to 8. Its words are then a damaged stretch: the words before it are good, and the last alone is a boundary.
-- Assumes nothing.
use Prim.Native.Nat.{ℕ, zero, suc, ◌-◌, ◌≤◌, ◌<◌}
use native.Mathlib.Omega.{arith}
use mathlib.Core.Path.{◌≡◌, refl, sym, ap, ◌∙◌, subst}
use mathlib.Core.Bool.{Bool, true, false}
use mathlib.Core.List.{List, ◌++◌, map}
use lib.Dec.{eqb}
use lib.ListN.{get_or, length, set, length-set}
use lib.Seq.{get_or-set_other, get_or-set_same}
use borrow.Author.Tests.{eq-eqb, eqb-false, eqb-true, le-ltb, ltb-false, ne_eqb}
use Rattle.words.specs.Word.{marked, odd_ones, too_large}
use Rattle.std.specs.Prelude.{Some}
use Rattle.samples.specs.Layout.{Widths, sample_words}
use Rattle.samples.specs.Read.{fault_at, is_good, read_part, verdict_number, wanted}
use Rattle.samples.specs.Write.{writable}
use Rattle.samples.specs.declared.sample.Sample.{Sample}
use Rattle.samples.specs.declared.reader.Fault.TheVariants.{Parity}
use Rattle.samples.proofs.Decided.{written_wanted, written_whole}
use Rattle.samples.proofs.Numbers.{Reached, broken_told, fault_in, same_faults, same_wanted}
use Rattle.samples.proofs.ReadLaws.{fault_by_lem}
use Rattle.samples.proofs.RoundTrip.{sixteen_fit, word_passed}
use Rattle.samples.proofs.SampleLaws.{sample_length_lem}
use Rattle.walk.specs.Pieces.{AllFit, Boundary, Damaged, flip, gap_between, laid, sound}
use Rattle.walk.specs.Walk.{walk}
use Rattle.walk.proofs.BoundaryLaws.{boundary_range, unmarked}
use Rattle.walk.proofs.SkipLaws.{boundary_by}
use Rattle.walk.proofs.Damage.{walk_damage}
use Rattle.walk.proofs.FlipLaws.{flip_even, flip_mark, flip_small}

module _ (w : Widths) (s : Sample) (fit : writable w s ≡ true) where
  abbrev words : List ℕ
  words = sample_words w s

  size : wanted w words ≡ length words
  size = written_wanted w s fit ∙ sym (sample_length_lem w s (sixteen_fit w s fit))

  good : (k : ℕ) → k < length words → is_good (fault_in w words k) ≡ true
  good k h = (written_whole w s fit).1 k (omega (arith, size))

  -- no word is above 1023, each has its parity, and the last alone is marked
  passed : (k : ℕ) → k < length words → (too_large (get_or words k 0) ≡ false) × (odd_ones (get_or words k 0) ≡ true) × (marked (get_or words k 0) ≡ eqb (suc k) (length words))
  passed k h = let p = word_passed (wanted w words) k (get_or words k 0) (good k h) in (p.0, p.1, p.3 ∙ ap (eqb (suc k)) size)

  module _ (j x : ℕ) (there : j < length words) (few : x ≤ 1023) (even : odd_ones x ≡ false) (mark : marked x ≡ marked (get_or words j 0)) where
    abbrev changed : List ℕ
    changed = set words j x

    -- still no word is above 1023, and the last alone is marked
    word_mark : (k : ℕ) → k < length words → (too_large (get_or changed k 0) ≡ false) × (marked (get_or changed k 0) ≡ eqb (suc k) (length words))
    word_mark k h = go (eqb k j) refl
      where
        go : (t : Bool) → eqb k j ≡ t → (too_large (get_or changed k 0) ≡ false) × (marked (get_or changed k 0) ≡ eqb (suc k) (length words))
        go true e =
            let same : k ≡ j = eqb-true k j e in
            let here : get_or changed k 0 ≡ x = ap (λ (i : ℕ). get_or changed i 0) same ∙ get_or-set_same words j x 0 there in
            (ap too_large here ∙ le-ltb 1023 x few, ap marked here ∙ mark ∙ (passed j there).2 ∙ ap (λ (i : ℕ). eqb (suc i) (length words)) (sym same))
        go false e = let here = get_or-set_other words j k x 0 (eqb-false k j e) in (ap too_large here ∙ (passed k h).0, ap marked here ∙ (passed k h).2)

    -- the words before it are good
    other : (i : ℕ) → i < j → get_or changed i 0 ≡ get_or words i 0
    other i h = get_or-set_other words j i x 0 (λ e. omega (arith, e, h))

    before : (k : ℕ) → k < j → is_good (fault_in w changed k) ≡ true
    before k h = ap is_good (same_faults w changed words j other k h) ∙ good k (omega arith)

    inside : (i : ℕ) → i ≡ j → j < wanted w changed
    inside zero e = omega arith
    inside (suc i) e = subst (λ (n : ℕ). j < n) (sym (same_wanted w changed words j other (omega arith) ∙ size)) there

    long : length changed ≡ length words
    long = length-set words j x

    reached : Reached w changed j
    reached = record { there = subst (λ (n : ℕ). j < n) (sym long) there; inside = inside j refl; before = before }

    fault : fault_in w changed j ≡ Some Parity
    fault =
        ap (fault_at (wanted w changed) j) (get_or-set_same words j x 0 there)
        ∙ fault_by_lem (wanted w changed) j x (le-ltb 1023 x few) even refl refl refl

    -- the reader's number and place
    flipped_told : ((read_part w changed).number ≡ 22) × ((read_part w changed).place ≡ j)
    flipped_told = let t = broken_told w changed j reached (ap is_good fault) in (t.0 ∙ ap verdict_number fault, t.1)

    pub flipped_damaged : Damaged w changed
    flipped_damaged =
        record {
          bad = omega (arith, flipped_told.0);
          others = λ k low high at. no_mark k (omega (arith, high, long)) at;
          last = (boundary_range (get_or changed end 0)).0 (boundary_by (get_or changed end 0) (word_mark end inside_end).0 ((word_mark end inside_end).1 ∙ eq-eqb (suc end) (length words) (omega (arith, there, long))));
        }
      where
        end : ℕ
        end = length changed - 1

        inside_end : end < length words
        inside_end = omega (arith, there, long)

        no_mark : (k : ℕ) → suc k < length words → Boundary (get_or changed k 0) → ⊥
        no_mark k h = unmarked (get_or changed k 0) ((word_mark k (omega arith)).1 ∙ ne_eqb (suc k) (length words) (λ e. omega (arith, e, h)))

    -- so samples before and after are given, and nothing but this one is skipped
    pub walk_flipped : (before after : List Sample) → AllFit w (map sound before) → AllFit w (map sound after) → walk w (laid w (map sound before) ++ (set (sample_words w s) j x ++ laid w (map sound after))) ≡ gap_between w before 22 j (length (sample_words w s)) after
    walk_flipped before after f g =
        walk_damage w before after changed f flipped_damaged g ∙ (λ i. gap_between w before (flipped_told.0 i) (flipped_told.1 i) (long i) after)

  -- a flip of one of bits 0 to 8 does that, in any word of the sample
  pub walk_bit : (j i : ℕ) → j < length (sample_words w s) → i < 9 → (before after : List Sample) → AllFit w (map sound before) → AllFit w (map sound after) → walk w (laid w (map sound before) ++ (set (sample_words w s) j (flip i (get_or (sample_words w s) j 0)) ++ laid w (map sound after))) ≡ gap_between w before 22 j (length (sample_words w s)) after
  walk_bit j i there inside =
      let x : ℕ = get_or words j 0 in
      let p = passed j there in
      walk_flipped j (flip i x) there (flip_small i x inside (ltb-false 1023 x p.0)) (flip_even i x inside p.1) (flip_mark i x inside)
