-- Document 01's numbers of the writer's and the reader's answers, each exactly in its case. 17, 18 and, of a word, 21 to 24 are equations
-- between tests, so both ways. A part of a stream is in one of three cases, with three different answers: the first bad word decides; the
-- words are good but too few, 20; as many as are wanted are good, a sample, whatever comes after. So each number of a part is told both
-- ways, and with each case document 02's place. By cases on the tests, and by induction on the words. Assumes nothing.
use Prim.Native.Nat.{ℕ, zero, suc, ◌+◌, ◌-◌, ◌≤◌, ◌<◌}
use native.Mathlib.Nat.{not-suc-le-zero, zero-add}
use native.Mathlib.Omega.{arith}
use mathlib.Core.Path.{◌≡◌, refl, sym, ap, ◌∙◌, subst}
use mathlib.Core.Logic.{◌↔◌}
use mathlib.Core.Bool.{Bool, true, false, cond, not, ◌&&◌, false≢true}
use Rattle.std.specs.Prelude.{Result, Ok, Err, None, Some}
use mathlib.Core.List.{List, [], ◌++◌, map}
use lib.Dec.{eqb, leb, ltb}
use lib.ListN.{drop, get_or, length, take, get_or-replicate}
use borrow.Author.Tests.{eq-eqb, eqb-false, eqb-true, ltb-false, ltb-true, ne_eqb}
use Rattle.words.specs.Word.{byte_of, marked, odd_ones, too_large}
use Rattle.samples.specs.Layout.{Widths, resource, sample_length}
use Rattle.samples.specs.Write.{Row, row, writable, write_answer, written_row}
use Rattle.samples.specs.Read.{Found, Verdict, decided_at, fault_at, fault_number, found, found_by, is_good, nothing, read_part, sample_of, scan, verdict_number, wanted}
use Rattle.samples.specs.declared.sample.Sample.{Sample}
use Rattle.samples.specs.declared.reader.Reading.{Reading}
use Rattle.samples.specs.declared.reader.Fault.{Fault}
use Rattle.samples.specs.declared.reader.Fault.TheVariants.{Unfinished, TooLarge, Parity, Header, Mark}
use Rattle.samples.specs.declared.reader.Refusal.{Refusal}
use Rattle.samples.specs.declared.writer.WriteError.{WriteError}
use Rattle.samples.specs.declared.writer.WriteError.TheVariants.{Short, Unfit}
use Rattle.samples.proofs.ReadLaws.{fault_by, scan_bad, scan_end, scan_last, scan_next}
use Rattle.samples.proofs.Theorems.{accepted_count, accepted_place, accepted_words, accepted_writable, read_written}

-- ---- the writer: 17 exactly for a sample that isn't writable, 18 for a writable one without room

by_two : Bool → Bool → ℕ → Row
by_two fit room n = cond fit (cond room (row 0 n) (row 18 0)) (row 17 0)

written_tests : (fit room : Bool) (n : ℕ) → (eqb (by_two fit room n).number 17 ≡ not fit) × (eqb (by_two fit room n).number 18 ≡ (fit && not room)) × ((by_two fit room n).count ≡ cond (fit && room) n 0)
unfolding by_two
written_tests true true n = (refl, refl, refl)
written_tests true false n = (refl, refl, refl)
written_tests false room n = (refl, refl, refl)

module _ (w : Widths) (s : Sample) (room : ℕ) where
  pub writes_17 : eqb (write_answer w s room).number 17 ≡ not (writable w s)
  unfolding write_answer by_two
  writes_17 = (written_tests (writable w s) (leb (sample_length w (resource s.header)) room) (sample_length w (resource s.header))).0

  pub writes_18 : eqb (write_answer w s room).number 18 ≡ (writable w s && not (leb (sample_length w (resource s.header)) room))
  unfolding write_answer by_two
  writes_18 = (written_tests (writable w s) (leb (sample_length w (resource s.header)) room) (sample_length w (resource s.header))).1

  pub writes_count : (write_answer w s room).count ≡ cond (writable w s && leb (sample_length w (resource s.header)) room) (sample_length w (resource s.header)) 0
  unfolding write_answer by_two
  writes_count = (written_tests (writable w s) (leb (sample_length w (resource s.header)) room) (sample_length w (resource s.header))).2

-- two answers with equal rows are equal, so the writer's contract leaves one
pub written_one : (a b : Result ℕ WriteError) → written_row a ≡ written_row b → a ≡ b
written_one a b e = sym (back a) ∙ ap of e ∙ back b
  where
    of : Row → Result ℕ WriteError
    of r = cond (eqb r.number 17) (Err Unfit) (cond (eqb r.number 18) (Err Short) (Ok r.count))

    back : (a : Result ℕ WriteError) → of (written_row a) ≡ a
    back (Ok n) = refl
    back (Err Unfit) = refl
    back (Err Short) = refl

-- ---- the reader: number and place of the scan, and within a word the order 21, 22, 23, 24

reads_scan : (w : Widths) (ws : List ℕ) → ((read_part w ws).number ≡ verdict_number (scan (wanted w ws) 0 ws)) × ((read_part w ws).place ≡ decided_at (wanted w ws) 0 ws)
unfolding read_part
reads_scan w ws = go (scan (wanted w ws) 0 ws) (sample_of w (map byte_of ws)) (wanted w ws) (decided_at (wanted w ws) 0 ws)
  where
    go : (v : Verdict) (s : Sample) (n p : ℕ) → ((found_by v s n p).number ≡ verdict_number v) × ((found_by v s n p).place ≡ p)
    go None s n p = (refl, refl)
    go (Some f) s n p = (refl, refl)

-- verdicts of one number are one
pub verdict_one : (a b : Verdict) → verdict_number a ≡ verdict_number b → a ≡ b
verdict_one a b e = sym (back a) ∙ ap of e ∙ back b
  where
    of : ℕ → Verdict
    of n = cond (eqb n 0) None (Some (cond (eqb n 20) Unfinished (cond (eqb n 21) TooLarge (cond (eqb n 22) Parity (cond (eqb n 23) Header Mark)))))

    back : (v : Verdict) → of (verdict_number v) ≡ v
    back None = refl
    back (Some Unfinished) = refl
    back (Some TooLarge) = refl
    back (Some Parity) = refl
    back (Some Header) = refl
    back (Some Mark) = refl

-- no fault has a sample's number
fault_some : (f : Fault) → eqb (fault_number f) 0 ≡ false
fault_some Unfinished = refl
fault_some TooLarge = refl
fault_some Parity = refl
fault_some Header = refl
fault_some Mark = refl

-- and faults of one number are one
pub fault_one : (a b : Fault) → fault_number a ≡ fault_number b → a ≡ b
fault_one a b e = let same : ◌≡◌ {A = Verdict} (Some a) (Some b) = verdict_one (Some a) (Some b) e in cc

-- so two readings that are told alike are equal, and the reader's contract leaves one
pub reading_one : (a b : Result Reading Refusal) → found a ≡ found b → a ≡ b
reading_one (Ok a) (Ok b) e = λ i. Ok (record { sample = (e i).sample; count = (e i).count })
reading_one (Ok a) (Err b) e = absurd (eqb-false (fault_number b.fault) 0 (fault_some b.fault) (ap (λ (f : Found). f.number) (sym e)))
reading_one (Err a) (Ok b) e = absurd (eqb-false (fault_number a.fault) 0 (fault_some a.fault) (ap (λ (f : Found). f.number) e))
reading_one (Err a) (Err b) e =
    let same : a.fault ≡ b.fault = fault_one a.fault b.fault (ap (λ (f : Found). f.number) e) in
    λ i. Err (record { fault = same i; place = (e i).place })

fault_tests : (large odd header last mark : Bool) → (eqb (verdict_number (fault_by large odd header last mark)) 20 ≡ false) × (eqb (verdict_number (fault_by large odd header last mark)) 21 ≡ large) × (eqb (verdict_number (fault_by large odd header last mark)) 22 ≡ (not large && not odd)) × (eqb (verdict_number (fault_by large odd header last mark)) 23 ≡ (not large && (odd && header))) × (eqb (verdict_number (fault_by large odd header last mark)) 24 ≡ (not large && (odd && (not header && cond last (not mark) mark)))) × (eqb (verdict_number (fault_by large odd header last mark)) 0 ≡ (not large && (odd && (not header && cond last mark (not mark)))))
fault_tests true odd header last mark = (refl, refl, refl, refl, refl, refl)
fault_tests false false header last mark = (refl, refl, refl, refl, refl, refl)
fault_tests false true true last mark = (refl, refl, refl, refl, refl, refl)
fault_tests false true false true true = (refl, refl, refl, refl, refl, refl)
fault_tests false true false true false = (refl, refl, refl, refl, refl, refl)
fault_tests false true false false true = (refl, refl, refl, refl, refl, refl)
fault_tests false true false false false = (refl, refl, refl, refl, refl, refl)

-- the word at a place of a sample of n words, which alone is never 20: above 1023; else parity; else, of the first, header bits 5 to 7;
-- else the end mark missing on the last word or set on another. A word with none of these is good, 0
pub fault_numbers : (n place w : ℕ) → (eqb (verdict_number (fault_at n place w)) 20 ≡ false) × (eqb (verdict_number (fault_at n place w)) 21 ≡ too_large w) × (eqb (verdict_number (fault_at n place w)) 22 ≡ (not (too_large w) && not (odd_ones w))) × (eqb (verdict_number (fault_at n place w)) 23 ≡ (not (too_large w) && (odd_ones w && (eqb place 0 && leb 32 (byte_of w))))) × (eqb (verdict_number (fault_at n place w)) 24 ≡ (not (too_large w) && (odd_ones w && (not (eqb place 0 && leb 32 (byte_of w)) && cond (eqb (suc place) n) (not (marked w)) (marked w))))) × (eqb (verdict_number (fault_at n place w)) 0 ≡ (not (too_large w) && (odd_ones w && (not (eqb place 0 && leb 32 (byte_of w)) && cond (eqb (suc place) n) (marked w) (not (marked w))))))
unfolding fault_at
fault_numbers n place w = fault_tests (too_large w) (odd_ones w) (eqb place 0 && leb 32 (byte_of w)) (eqb (suc place) n) (marked w)

-- "With 20 to 24 the reader's sample is all zeros and its word count 0", part by part
pub record AllZeros (f : Found) : Type 0 where
  pub header : f.sample.header ≡ 0
  pub source : f.sample.source ≡ 0
  pub stamp : f.sample.stamp ≡ 0
  pub user : f.sample.user ≡ 0
  pub sixteen : length f.sample.counters ≡ 16
  pub counter : (i : ℕ) → i < 16 → get_or f.sample.counters i 0 ≡ 0
  pub count : f.count ≡ 0

-- with every number but a sample's there is nothing beside number and place
pub refused_nothing : (w : Widths) (ws : List ℕ) → eqb (read_part w ws).number 0 ≡ false → read_part w ws ≡ nothing (read_part w ws).number (read_part w ws).place
unfolding read_part
refused_nothing w ws e = go (scan (wanted w ws) 0 ws) (sample_of w (map byte_of ws)) (wanted w ws) (decided_at (wanted w ws) 0 ws) e
  where
    go : (v : Verdict) (s : Sample) (n p : ℕ) → eqb (found_by v s n p).number 0 ≡ false → found_by v s n p ≡ nothing (found_by v s n p).number (found_by v s n p).place
    go None s n p q = absurd (false≢true (sym q))
    go (Some f) s n p q = refl

-- so all is zero
pub refused_zeros : (w : Widths) (ws : List ℕ) → eqb (read_part w ws).number 0 ≡ false → AllZeros (read_part w ws)
refused_zeros w ws e = subst AllZeros (sym (refused_nothing w ws e)) (zeros (read_part w ws).number (read_part w ws).place)
  where
    zeros : (number place : ℕ) → AllZeros (nothing number place)
    zeros number place =
        record {
          header = refl;
          source = refl;
          stamp = refl;
          user = refl;
          sixteen = refl;
          counter = λ i h. get_or-replicate 16 i 0 0 h;
          count = refl;
        }

-- and the number is one of 20 to 24
pub refused_numbers : (w : Widths) (ws : List ℕ) → eqb (read_part w ws).number 0 ≡ false → (20 ≤ (read_part w ws).number) × ((read_part w ws).number ≤ 24)
refused_numbers w ws e = subst (λ (n : ℕ). (20 ≤ n) × (n ≤ 24)) (sym (reads_scan w ws).0) (go (scan (wanted w ws) 0 ws) (ap (λ (n : ℕ). eqb n 0) (sym (reads_scan w ws).0) ∙ e))
  where
    go : (v : Verdict) → eqb (verdict_number v) 0 ≡ false → (20 ≤ verdict_number v) × (verdict_number v ≤ 24)
    go None q = absurd (false≢true (sym q))
    go (Some Unfinished) q = (omega arith, omega arith)
    go (Some TooLarge) q = (omega arith, omega arith)
    go (Some Parity) q = (omega arith, omega arith)
    go (Some Header) q = (omega arith, omega arith)
    go (Some Mark) q = (omega arith, omega arith)

-- whatever the reader answers, the part has the words that it counts
pub count_within : (w : Widths) (ws : List ℕ) → (read_part w ws).count ≤ length ws
count_within w ws = go (eqb (read_part w ws).number 0) refl
  where
    go : (t : Bool) → eqb (read_part w ws).number 0 ≡ t → (read_part w ws).count ≤ length ws
    go true e = (accepted_count w ws (eqb-true (read_part w ws).number 0 e)).1
    go false e = omega (arith, (refused_zeros w ws e).count)

-- ---- the reader, over the words of a part

-- what is wrong with the word at a place of a part, whose header says how many words its sample wants
abbrev pub fault_in : Widths → List ℕ → ℕ → Verdict
fault_in w ws p = fault_at (wanted w ws) p (get_or ws p 0)

-- the words below a place are good in their places
abbrev pub GoodBelow : Widths → List ℕ → ℕ → Type 0
GoodBelow w ws p = (j : ℕ) → j < p → is_good (fault_in w ws j) ≡ true

-- two parts with the same words below a place want as many, unless that is the first, and have the same faults there
module _ (w : Widths) (ws vs : List ℕ) (p : ℕ) (same : (j : ℕ) → j < p → get_or ws j 0 ≡ get_or vs j 0) where
  pub same_wanted : 0 < p → wanted w ws ≡ wanted w vs
  same_wanted some = ap (λ (x : ℕ). sample_length w (resource (byte_of x))) (same 0 some)

  pub same_faults : (j : ℕ) → j < p → fault_in w ws j ≡ fault_in w vs j
  same_faults j h = λ i. fault_at (same_wanted (omega arith) i) j (same j h i)

-- a place of the part and of its sample, with no bad word before it
pub record Reached (w : Widths) (ws : List ℕ) (p : ℕ) : Type 0 where
  pub there : p < length ws
  pub inside : p < wanted w ws
  pub before : GoodBelow w ws p

module _ (w : Widths) (ws : List ℕ) where
  -- fewer good words than are wanted leave it to the words after them
  scan_past : (p : ℕ) → p ≤ length ws → p < wanted w ws → GoodBelow w ws p → (scan (wanted w ws) 0 ws ≡ scan (wanted w ws) p (drop p ws)) × (decided_at (wanted w ws) 0 ws ≡ decided_at (wanted w ws) p (drop p ws))
  scan_past zero there inside good = (refl, refl)
  scan_past (suc p) there inside good =
      let past = scan_past p (omega arith) (omega arith) (λ j h. good j (omega arith)) in
      let next = scan_next (wanted w ws) p ws (omega arith) (good p (omega arith)) (λ e. omega arith) in
      (past.0 ∙ next.0, past.1 ∙ next.1)

  -- what the scan gives, and where, is what the reader gives
  told : (v : Verdict) (p : ℕ) → scan (wanted w ws) 0 ws ≡ v → decided_at (wanted w ws) 0 ws ≡ p → ((read_part w ws).number ≡ verdict_number v) × ((read_part w ws).place ≡ p)
  told v p a b = ((reads_scan w ws).0 ∙ ap verdict_number a, (reads_scan w ws).1 ∙ b)

  -- "The first bad word decides", whatever comes after it; Wish 12: "the place of the deciding word"
  pub broken_told : (p : ℕ) → Reached w ws p → is_good (fault_in w ws p) ≡ false → ((read_part w ws).number ≡ verdict_number (fault_in w ws p)) × ((read_part w ws).place ≡ p)
  broken_told p r bad =
      let past = scan_past p (omega (arith, r.there)) r.inside r.before in
      let here = scan_bad (wanted w ws) p ws r.there bad in
      told (fault_in w ws p) p (past.0 ∙ here.0) (past.1 ∙ here.1)

  -- "20 the words so far are good but unfinished"; "with 20, the number of good words"
  pub unfinished_told : length ws < wanted w ws → GoodBelow w ws (length ws) → ((read_part w ws).number ≡ 20) × ((read_part w ws).place ≡ length ws)
  unfinished_told few good =
      let past = scan_past (length ws) (omega arith) few good in
      let end = scan_end (wanted w ws) (length ws) ws (omega arith) in
      told (Some Unfinished) (length ws) (past.0 ∙ end.0) (past.1 ∙ end.1)

  -- as many good words as are wanted are a sample; the place is after them
  pub whole_told : wanted w ws ≤ length ws → GoodBelow w ws (wanted w ws) → ((read_part w ws).number ≡ 0) × ((read_part w ws).place ≡ wanted w ws)
  whole_told enough good =
      let p : ℕ = wanted w ws - 1 in
      let past = scan_past p (omega arith) (omega arith) (λ j h. good j (omega arith)) in
      let last = scan_last (wanted w ws) p ws (omega arith) (good p (omega arith)) (omega arith) in
      told None (wanted w ws) (past.0 ∙ last.0) (past.1 ∙ last.1)

  -- the number alone
  pub first_bad_decides : (p : ℕ) → Reached w ws p → is_good (fault_in w ws p) ≡ false → (read_part w ws).number ≡ verdict_number (fault_in w ws p)
  first_bad_decides p r bad = (broken_told p r bad).0

-- the three cases, which have these three answers
pub data Part (w : Widths) (ws : List ℕ) : Type 0 where
  broken : (p : ℕ) → Reached w ws p → is_good (fault_in w ws p) ≡ false → Part w ws
  unfinished : length ws < wanted w ws → GoodBelow w ws (length ws) → Part w ws
  whole : wanted w ws ≤ length ws → GoodBelow w ws (wanted w ws) → Part w ws

one_more : (w : Widths) (ws : List ℕ) (p : ℕ) → GoodBelow w ws p → is_good (fault_in w ws p) ≡ true → GoodBelow w ws (suc p)
one_more w ws p good here j h = go (ltb j p) refl
  where
    go : (t : Bool) → ltb j p ≡ t → is_good (fault_in w ws j) ≡ true
    go true e = good j (ltb-true j p e)
    go false e = let last : p ≡ j = omega (arith, ltb-false j p e) in subst (λ (k : ℕ). is_good (fault_in w ws k) ≡ true) last here

parts : (w : Widths) (ws : List ℕ) (m p : ℕ) → p + m ≡ length ws → p < wanted w ws → GoodBelow w ws p → Part w ws
parts w ws zero p e inside good = let all : p ≡ length ws = omega arith in unfinished (omega arith) (subst (GoodBelow w ws) all good)
parts w ws (suc m) p e inside good = go (is_good (fault_in w ws p)) refl (eqb (suc p) (wanted w ws)) refl (parts w ws m (suc p))
  where
    go : (g : Bool) → is_good (fault_in w ws p) ≡ g → (t : Bool) → eqb (suc p) (wanted w ws) ≡ t → (suc p + m ≡ length ws → suc p < wanted w ws → GoodBelow w ws (suc p) → Part w ws) → Part w ws
    go false here t q more = broken p (record { there = omega arith; inside = inside; before = good }) here
    go true here true q more =
        let all : suc p ≡ wanted w ws = eqb-true (suc p) (wanted w ws) q in
        whole (omega arith) (subst (GoodBelow w ws) all (one_more w ws p good here))
    go true here false q more = more (omega arith) (omega (arith, eqb-false (suc p) (wanted w ws) q)) (one_more w ws p good here)

-- every part is in one of them
pub one_of_three : (w : Widths) (ws : List ℕ) → Part w ws
one_of_three w ws = parts w ws (length ws) 0 (zero-add (length ws)) (omega arith) (λ j h. absurd (not-suc-le-zero h))

-- ---- the reader's numbers, each exactly in its case

-- a verdict's number is 0 with a sample, and with nothing else
pub number_good : (v : Verdict) → is_good v ≡ eqb (verdict_number v) 0
number_good None = refl
number_good (Some f) = sym (fault_some f)

module _ (w : Widths) (ws : List ℕ) where
  -- 0, a sample: as many good words as are wanted
  pub reads_0 : (read_part w ws).number ≡ 0 ↔ ((wanted w ws ≤ length ws) × GoodBelow w ws (wanted w ws))
  reads_0 = (λ e. go e (one_of_three w ws), λ h. (whole_told w ws h.0 h.1).0)
    where
      go : (read_part w ws).number ≡ 0 → Part w ws → (wanted w ws ≤ length ws) × GoodBelow w ws (wanted w ws)
      go e (broken p r bad) =
          absurd
          (eqb-false (verdict_number (fault_in w ws p)) 0 (sym (number_good (fault_in w ws p)) ∙ bad) (sym (first_bad_decides w ws p r bad) ∙ e))
      go e (unfinished few good) = absurd (eqb-false 20 0 refl (sym (unfinished_told w ws few good).0 ∙ e))
      go e (whole enough good) = (enough, good)

  -- 20: all words of the part are good, and fewer than are wanted
  pub reads_20 : (read_part w ws).number ≡ 20 ↔ ((length ws < wanted w ws) × GoodBelow w ws (length ws))
  reads_20 = (λ e. go e (one_of_three w ws), λ h. (unfinished_told w ws h.0 h.1).0)
    where
      go : (read_part w ws).number ≡ 20 → Part w ws → (length ws < wanted w ws) × GoodBelow w ws (length ws)
      go e (broken p r bad) =
          absurd
          (eqb-false (verdict_number (fault_in w ws p)) 20 (fault_numbers (wanted w ws) p (get_or ws p 0)).0 (sym (first_bad_decides w ws p r bad) ∙ e))
      go e (unfinished few good) = (few, good)
      go e (whole enough good) = absurd (eqb-false 0 20 refl (sym (whole_told w ws enough good).0 ∙ e))

  -- any other number k: a word with no bad one before it, of which the test of k holds
  reads_fault : (k : ℕ) (test : ℕ → Bool) → eqb 0 k ≡ false → eqb 20 k ≡ false → ((p : ℕ) → eqb (verdict_number (fault_in w ws p)) k ≡ test p) → (read_part w ws).number ≡ k ↔ ((p : ℕ) × Reached w ws p × (test p ≡ true))
  reads_fault k test not0 not20 given = (λ e. go e (one_of_three w ws), back)
    where
      go : (read_part w ws).number ≡ k → Part w ws → (p : ℕ) × Reached w ws p × (test p ≡ true)
      go e (broken p r bad) =
          (p, r, sym (given p) ∙ eq-eqb (verdict_number (fault_in w ws p)) k (sym (first_bad_decides w ws p r bad) ∙ e))
      go e (unfinished few good) = absurd (eqb-false 20 k not20 (sym (unfinished_told w ws few good).0 ∙ e))
      go e (whole enough good) = absurd (eqb-false 0 k not0 (sym (whole_told w ws enough good).0 ∙ e))

      back : ((p : ℕ) × Reached w ws p × (test p ≡ true)) → (read_part w ws).number ≡ k
      back h =
          let v : Verdict = fault_in w ws h.0 in
          let here : verdict_number v ≡ k = eqb-true (verdict_number v) k (given h.0 ∙ h.2) in
          let bad : is_good v ≡ false = number_good v ∙ ne_eqb (verdict_number v) 0 (λ q. eqb-false 0 k not0 (sym q ∙ here)) in
          first_bad_decides w ws h.0 h.1 bad ∙ here

  -- 21: the first bad word is above 1023
  pub reads_21 : (read_part w ws).number ≡ 21 ↔ ((p : ℕ) × Reached w ws p × (too_large (get_or ws p 0) ≡ true))
  reads_21 = reads_fault 21 _ refl refl (λ p. (fault_numbers (wanted w ws) p (get_or ws p 0)).1)

  -- 22: not so, but it has an even number of ones
  pub reads_22 : (read_part w ws).number ≡ 22 ↔ ((p : ℕ) × Reached w ws p × ((not (too_large (get_or ws p 0)) && not (odd_ones (get_or ws p 0))) ≡ true))
  reads_22 = reads_fault 22 _ refl refl (λ p. (fault_numbers (wanted w ws) p (get_or ws p 0)).2)

  -- 23: neither, but it is the first word and has header bits 5 to 7 set
  pub reads_23 : (read_part w ws).number ≡ 23 ↔ ((p : ℕ) × Reached w ws p × ((not (too_large (get_or ws p 0)) && (odd_ones (get_or ws p 0) && (eqb p 0 && leb 32 (byte_of (get_or ws p 0))))) ≡ true))
  reads_23 = reads_fault 23 _ refl refl (λ p. (fault_numbers (wanted w ws) p (get_or ws p 0)).3)

  -- 24: none of these, but the end mark is missing on the sample's last word or set on another
  pub reads_24 : (read_part w ws).number ≡ 24 ↔ ((p : ℕ) × Reached w ws p × ((not (too_large (get_or ws p 0)) && (odd_ones (get_or ws p 0) && (not (eqb p 0 && leb 32 (byte_of (get_or ws p 0))) && cond (eqb (suc p) (wanted w ws)) (not (marked (get_or ws p 0))) (marked (get_or ws p 0))))) ≡ true))
  reads_24 = reads_fault 24 _ refl refl (λ p. (fault_numbers (wanted w ws) p (get_or ws p 0)).4)

-- "(an empty part too)"
pub empty_20 : (w : Widths) → (read_part w []).number ≡ 20
empty_20 w = (unfinished_told w [] (omega arith) (λ j h. absurd (not-suc-le-zero h))).0

-- "Words after the sample aren't looked at": with any others behind the sample's own the whole answer is the same
pub rest_not_looked_at : (w : Widths) (ws rest : List ℕ) → (read_part w ws).number ≡ 0 → read_part w (take (read_part w ws).count ws ++ rest) ≡ read_part w ws
rest_not_looked_at w ws rest taken =
    let s : Sample = (read_part w ws).sample in
    let size : (read_part w ws).count ≡ sample_length w (resource s.header) = (accepted_count w ws taken).0 in
    ap (λ (l : List ℕ). read_part w (l ++ rest)) (accepted_words w ws taken)
    ∙ read_written w s rest (accepted_writable w ws taken)
    ∙ (λ i. record { sample = s; count = sym size i; place = sym (accepted_place w ws taken ∙ size) i; number = sym taken i })
