-- Document 02, Wish 12, "Say where it broke", in two ways. By the words: those before the place are good, and there the word has the fault
-- that the number names, or the part ends, or the sample does. And by the writer, without a word on faults: the place is the most words at
-- the start of the part that some written sample starts with. By the three cases of a part. And what comes after the deciding word isn't looked at
-- (`after_bad`). Assumes nothing.
use Prim.Native.Nat.{ℕ, zero, suc, ◌+◌, ◌≤◌, ◌<◌}
use native.Mathlib.Nat.{lt_of_lt_of_le}
use native.Mathlib.Omega.{arith}
use mathlib.Core.Path.{◌≡◌, refl, sym, ap, ap₂, ◌∙◌, subst}
use mathlib.Core.Bool.{Bool, true, false, cond, not, ◌&&◌, false≢true}
use Rattle.std.specs.Prelude.{None}
use mathlib.Core.List.{List, [], ◌++◌, map, append-nil}
use lib.Dec.{eqb, leb, ltb, lit<}
use lib.ListN.{get_or, length, replicate, take, length-append, length-map, length-replicate, get_or-append, get_or-map}
use lib.Seq.{get_or-take, length-take-le}
use borrow.Author.Tests.{leb-false, ltb-false, ltb-true, ne_eqb}
use Rattle.words.specs.Word.{byte_of, marked, odd_ones, too_large, word_of}
use Rattle.words.proofs.WordLaws.{word_back}
use Rattle.samples.specs.Layout.{Widths, resource, sample_bytes, sample_length, sample_words}
use Rattle.samples.specs.Write.{writable}
use Rattle.samples.specs.Read.{Found, found_by, is_good, read_part, sample_of, verdict_number, wanted}
use Rattle.samples.specs.declared.sample.Sample.{Sample}
use Rattle.samples.proofs.Numbers.{GoodBelow, Part, Reached, broken, broken_told, fault_numbers, fault_in, number_good, one_of_three, reads_0, reads_20, same_faults, same_wanted, unfinished, unfinished_told, whole, whole_told}
use Rattle.samples.proofs.ReadLaws.{map_below}
use Rattle.samples.proofs.RoundTrip.{bytes_back, sixteen_fit, word_passed}
use Rattle.samples.proofs.SampleLaws.{sample_length_lem, sample_word}
use Rattle.samples.proofs.Theorems.{read_size, read_writable, read_written}

-- ---- by the words

module _ (w : Widths) (ws : List ℕ) where
  -- what holds of the place in each of the three cases
  at_place : (P : ℕ → Type 0) → ((p : ℕ) → Reached w ws p → is_good (fault_in w ws p) ≡ false → P p) → (length ws < wanted w ws → GoodBelow w ws (length ws) → P (length ws)) → (wanted w ws ≤ length ws → GoodBelow w ws (wanted w ws) → P (wanted w ws)) → P (read_part w ws).place
  at_place P b u h = go (one_of_three w ws)
    where
      go : Part w ws → P (read_part w ws).place
      go (broken p r bad) = subst P (sym (broken_told w ws p r bad).1) (b p r bad)
      go (unfinished few good) = subst P (sym (unfinished_told w ws few good).1) (u few good)
      go (whole enough good) = subst P (sym (whole_told w ws enough good).1) (h enough good)

  -- every word before the place is good in its place
  pub place_good : GoodBelow w ws (read_part w ws).place
  place_good = at_place (GoodBelow w ws) (λ p r bad. r.before) (λ few good. good) (λ enough good. good)

  -- there are as many words, and no more are wanted
  pub place_within : ((read_part w ws).place ≤ length ws) × ((read_part w ws).place ≤ wanted w ws)
  place_within =
      at_place (λ (p : ℕ). (p ≤ length ws) × (p ≤ wanted w ws)) (λ p r bad. (omega (arith, r.there), omega (arith, r.inside))) (λ few good. (omega arith, omega arith)) (λ enough good. (enough, omega arith))

  -- "with 20, the number of good words": all of the part
  pub place_20 : (read_part w ws).number ≡ 20 → (read_part w ws).place ≡ length ws
  place_20 e = let few = (reads_20 w ws).0 e in (unfinished_told w ws few.0 few.1).1

  -- "With 21 to 24 .. the place of the deciding word": a bad word with none before it stands there and nowhere else
  pub place_only : (p : ℕ) → Reached w ws p → is_good (fault_in w ws p) ≡ false → (read_part w ws).place ≡ p
  place_only p r bad = (broken_told w ws p r bad).1

  -- and with 21 to 24 one does: no word before the place is bad, and the word there has the fault of that number
  pub place_fault : 21 ≤ (read_part w ws).number → Reached w ws (read_part w ws).place × (verdict_number (fault_in w ws (read_part w ws).place) ≡ (read_part w ws).number)
  place_fault large =
      at_place (λ (p : ℕ). Reached w ws p × (verdict_number (fault_in w ws p) ≡ (read_part w ws).number))
      (λ p r bad. (r, sym (broken_told w ws p r bad).0))
      (λ few good. absurd (other 20 (unfinished_told w ws few good).0 (lit< tt)))
      (λ enough good. absurd (other 0 (whole_told w ws enough good).0 (lit< tt)))
    where
      other : (k : ℕ) → (read_part w ws).number ≡ k → k < 21 → ⊥
      other k e h = omega arith

  -- so its tests are those of the number: above 1023; else parity; else, of the first, header bits 5 to 7; else the end mark missing on the
  -- last word or set on another
  pub place_tests : 21 ≤ (read_part w ws).number → let x = get_or ws (read_part w ws).place 0 in (eqb (read_part w ws).number 21 ≡ too_large x) × (eqb (read_part w ws).number 22 ≡ (not (too_large x) && not (odd_ones x))) × (eqb (read_part w ws).number 23 ≡ (not (too_large x) && (odd_ones x && (eqb (read_part w ws).place 0 && leb 32 (byte_of x))))) × (eqb (read_part w ws).number 24 ≡ (not (too_large x) && (odd_ones x && (not (eqb (read_part w ws).place 0 && leb 32 (byte_of x)) && cond (eqb (suc (read_part w ws).place) (wanted w ws)) (not (marked x)) (marked x)))))
  place_tests large =
      let tests = fault_numbers (wanted w ws) (read_part w ws).place (get_or ws (read_part w ws).place 0) in
      let is : (k : ℕ) → eqb (read_part w ws).number k ≡ eqb (verdict_number (fault_in w ws (read_part w ws).place)) k = λ k. ap (λ (m : ℕ). eqb m k) (sym (place_fault large).1) in
      (is 21 ∙ tests.1, is 22 ∙ tests.2, is 23 ∙ tests.3, is 24 ∙ tests.4)

-- what comes after the deciding word isn't looked at
module _ (w : Widths) (ws rest : List ℕ) (large : 21 ≤ (read_part w ws).number) where
  abbrev p : ℕ
  p = (read_part w ws).place

  there : p < length ws
  there = (place_fault w ws large).0.there

  kept : (j : ℕ) → j < suc p → get_or (ws ++ rest) j 0 ≡ get_or ws j 0
  kept j h = get_or-append ws rest 0 j (omega (arith, there))

  fault_kept : (j : ℕ) → j < suc p → fault_in w (ws ++ rest) j ≡ fault_in w ws j
  fault_kept = same_faults w (ws ++ rest) ws (suc p) kept

  pub after_bad : ((read_part w (ws ++ rest)).number ≡ (read_part w ws).number) × ((read_part w (ws ++ rest)).place ≡ (read_part w ws).place)
  after_bad =
      let fault = place_fault w ws large in
      let reached : Reached w (ws ++ rest) p =
      record {
        there = omega (arith, there, length-append ws rest);
        inside = subst (λ (n : ℕ). p < n) (sym (same_wanted w (ws ++ rest) ws (suc p) kept (omega arith))) fault.0.inside;
        before = λ j h. ap is_good (fault_kept j (omega arith)) ∙ fault.0.before j h;
      } in
      let bad : is_good (fault_in w (ws ++ rest) p) ≡ false =
      ap is_good (fault_kept p (omega arith)) ∙ number_good (fault_in w ws p) ∙ ne_eqb (verdict_number (fault_in w ws p)) 0 (λ e. omega (arith, e, fault.1, large)) in
      let told = broken_told w (ws ++ rest) p reached bad in
      (told.0 ∙ ap verdict_number (fault_kept p (omega arith)) ∙ fault.1, told.1)

-- ---- by the writer

-- the part has k words at its start that are the first k of a sample which the writer takes
pub record Starts (w : Widths) (ws : List ℕ) (k : ℕ) : Type 0 where
  pub there : k ≤ length ws
  pub sample : Sample
  pub fits : writable w sample ≡ true
  pub long : k ≤ length (sample_words w sample)
  pub same : (j : ℕ) → j < k → get_or ws j 0 ≡ get_or (sample_words w sample) j 0

-- a written sample's words are read whole, so they are wanted and good
module _ (w : Widths) (s : Sample) (fit : writable w s ≡ true) where
  abbrev words : List ℕ
  words = sample_words w s

  written_read : read_part w words ≡ found_by None s (sample_length w (resource s.header)) (sample_length w (resource s.header))
  written_read = ap (read_part w) (sym (append-nil words)) ∙ read_written w s [] fit

  pub written_whole : (wanted w words ≤ length words) × GoodBelow w words (wanted w words)
  written_whole = (reads_0 w words).0 (ap (λ (f : Found). f.number) written_read)

  pub written_wanted : wanted w words ≡ sample_length w (resource s.header)
  written_wanted = sym (whole_told w words written_whole.0 written_whole.1).1 ∙ ap (λ (f : Found). f.place) written_read

-- no sample that the writer takes starts with more words of the part
pub place_most : (w : Widths) (ws : List ℕ) (k : ℕ) → Starts w ws k → k ≤ (read_part w ws).place
place_most w ws k st = at_place w ws (λ (m : ℕ). k ≤ m) (λ p r bad. decides p bad (ltb p k) refl) (λ few good. st.there) (λ enough good. all k refl)
  where
    s : Sample
    s = st.sample

    short : k ≤ wanted w (sample_words w s)
    short = subst (λ (m : ℕ). k ≤ m) (sample_length_lem w s (sixteen_fit w s st.fits) ∙ sym (written_wanted w s st.fits)) st.long

    below : (p : ℕ) → p < k → is_good (fault_in w ws p) ≡ true
    below p h = ap is_good (same_faults w ws (sample_words w s) k st.same p h) ∙ (written_whole w s st.fits).1 p (lt_of_lt_of_le h short)

    decides : (p : ℕ) → is_good (fault_in w ws p) ≡ false → (t : Bool) → ltb p k ≡ t → k ≤ p
    decides p bad true e = absurd (false≢true (sym bad ∙ below p (ltb-true p k e)))
    decides p bad false e = ltb-false p k e

    all : (m : ℕ) → m ≡ k → k ≤ wanted w ws
    all zero e = omega arith
    all (suc m) e = subst (λ (x : ℕ). k ≤ x) (sym (same_wanted w ws (sample_words w s) k st.same (omega arith))) short

-- Words that are good in their places start a sample: with words of zeros after them they give it.
module _ (w : Widths) (ws : List ℕ) where
  abbrev filled : ℕ → List ℕ
  filled p = take p ws ++ replicate (suc (sample_length w true)) 256

  filled_at : (p j : ℕ) → p ≤ length ws → j < p → get_or (filled p) j 0 ≡ get_or ws j 0
  filled_at p j there h =
      get_or-append (take p ws) (replicate (suc (sample_length w true)) 256) 0 j (rw (length-take-le p ws there) h) ∙ get_or-take p ws j 0 h

  header_small : (p : ℕ) → p ≤ length ws → GoodBelow w ws p → byte_of (get_or (filled p) 0 0) < 32
  header_small zero there good = lit< tt
  header_small (suc p) there good =
      subst (λ (x : ℕ). byte_of x < 32) (sym (filled_at (suc p) 0 there (omega arith))) (leb-false 32 (byte_of (get_or ws 0 0)) (word_passed (wanted w ws) 0 (get_or ws 0 0) (good 0 (omega arith))).2)

  module _ (p : ℕ) (there : p ≤ length ws) (inside : p ≤ wanted w ws) (good : GoodBelow w ws p) where
    abbrev given : Sample
    given = sample_of w (map byte_of (filled p))

    fits : writable w given ≡ true
    fits = read_writable w (filled p) (header_small p there good)

    abbrev size : ℕ
    size = sample_length w (resource given.header)

    -- of the words wanted, unless there are none
    given_size : 0 < p → size ≡ wanted w ws
    given_size some = read_size w (filled p) ∙ same_wanted w (filled p) ws p (λ j. filled_at p j there) some

    kind_long : (r : Bool) → sample_length w r ≤ sample_length w true
    kind_long true = omega arith
    kind_long false = omega arith

    enough : size ≤ length (map byte_of (filled p))
    enough =
        let long : length (map byte_of (filled p)) ≡ length (take p ws) + suc (sample_length w true) =
        length-map (filled p) byte_of
        ∙ length-append (take p ws) (replicate (suc (sample_length w true)) 256)
        ∙ ap (λ (k : ℕ). length (take p ws) + k) (length-replicate (suc (sample_length w true)) 256) in
        omega (arith, long, kind_long (resource given.header))

    given_word : (j : ℕ) → j < p → get_or ws j 0 ≡ get_or (sample_words w given) j 0
    given_word j h =
        let sized : size ≡ wanted w ws = given_size (omega arith) in
        let near : j < size = subst (λ (n : ℕ). j < n) (sym sized) (lt_of_lt_of_le h inside) in
        let passed = word_passed (wanted w ws) j (get_or ws j 0) (good j h) in
        let byte : get_or (sample_bytes w given) j 0 ≡ byte_of (get_or ws j 0) =
        ap (λ (l : List ℕ). get_or l j 0) (bytes_back w (map byte_of (filled p)) (map_below (filled p)) enough)
        ∙ get_or-take size (map byte_of (filled p)) j 0 near
        ∙ get_or-map byte_of (filled p) j 0
        ∙ ap byte_of (filled_at p j there h) in
        let mark : eqb (suc j) size ≡ marked (get_or ws j 0) = ap (eqb (suc j)) sized ∙ sym passed.3 in
        sym (sample_word w given (sixteen_fit w given fits) j near ∙ ap₂ word_of mark byte ∙ word_back (get_or ws j 0) passed.0 passed.1)

    given_long : (q : ℕ) → q ≡ p → p ≤ size
    given_long zero e = omega arith
    given_long (suc q) e = subst (λ (n : ℕ). p ≤ n) (sym (given_size (omega arith))) inside

    pub good_starts : Starts w ws p
    good_starts =
        record {
          there = there;
          sample = given;
          fits = fits;
          long = subst (λ (n : ℕ). p ≤ n) (sym (sample_length_lem w given (sixteen_fit w given fits))) (given_long p refl);
          same = given_word;
        }

-- so one starts with the words before the place
pub place_starts : (w : Widths) (ws : List ℕ) → Starts w ws (read_part w ws).place
place_starts w ws = good_starts w ws (read_part w ws).place (place_within w ws).0 (place_within w ws).1 (place_good w ws)
