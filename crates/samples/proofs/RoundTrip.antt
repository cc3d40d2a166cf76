-- What the theorems on writing and reading stand on: the scan of written words is good, and words whose scan is good are
-- written ones. Assumes nothing.
use Prim.Native.Nat.{ℕ, zero, suc, ◌+◌, ◌^◌, ◌≤◌, ◌<◌}
use native.Mathlib.Nat.{add-zero}
use native.Mathlib.Omega.{arith}
use mathlib.Core.Path.{◌≡◌, refl, sym, ap, ap₂, ◌∙◌}
use mathlib.Core.Bool.{Bool, true, false, cond, ◌&&◌, ◌||◌, false≢true}
use Rattle.std.specs.Prelude.{None}
use mathlib.Core.List.{List, [], ◌∷◌, ◌++◌, map, append_assoc, append-nil}
use lib.Dec.{eqb, leb, ltb, eqb-suc-zero}
use lib.ListN.{length, get_or, take, drop, replicate, length-drop}
use lib.Seq.{drop_at, take-add}
use borrow.Author.Tests.{eq-eqb, ne_eqb, eqb-true, ltb-true}
use Rattle.words.specs.Bytes.{number}
use Rattle.words.specs.Word.{word_of, words_of, too_large, odd_ones, marked, byte_of}
use Rattle.words.proofs.WordLaws.{both_left, both_right, word_small, word_odd, word_byte, word_marked, word_back}
use Rattle.samples.specs.Layout.{Widths, field_widths, counter_widths, counter_bytes, field_bytes, sample_bytes, sample_length, resource, spread, total}
use Rattle.samples.specs.Write.{within, all_zero, writable}
use Rattle.samples.specs.Read.{fault_at, gather, is_good, sample_of, scan}
use Rattle.samples.specs.declared.sample.Sample.{Sample}
use Rattle.samples.proofs.Gather.{gather_spread, spread_gather}
use Rattle.samples.proofs.ReadLaws.{fault_by, fault_by_lem, drop_below, scan_first, scan_word}
use Rattle.samples.proofs.SampleLaws.{fields_length}

-- ---- the scan of written words

same_mark : (e : Bool) → fault_by false true false e e ≡ None
same_mark true = refl
same_mark false = refl

-- the word of a byte is good at a place where its mark belongs
fault_word : (n i b : ℕ) (last : Bool) → b < 256 → (eqb i 0 && leb 32 b) ≡ false → eqb (suc i) n ≡ last → fault_at n i (word_of last b) ≡ None
fault_word n i b last h p q =
    fault_by_lem n i (word_of last b) (word_small last b h) (word_odd last b h)
    (ap (λ (x : ℕ). eqb i 0 && leb 32 x) (word_byte last b h) ∙ p)
    q
    (word_marked last b h)
    ∙ same_mark last

after_first : (i b : ℕ) → (eqb (suc i) 0 && leb 32 b) ≡ false
after_first i b = ap (λ (t : Bool). t && leb 32 b) (eqb-suc-zero i)

pub scan_written : (n i b : ℕ) (bs rest : List ℕ) → ((j : ℕ) → get_or (b ∷ bs) j 0 < 256) → n ≡ suc (i + length bs) → (eqb i 0 && leb 32 b) ≡ false → scan n i (words_of (b ∷ bs) ++ rest) ≡ None
unfolding words_of
scan_written n i b [] rest h e p =
    let last : eqb (suc i) n ≡ true = eq-eqb (suc i) n (omega arith) in
    scan_word n i (word_of true b) rest (ap is_good (fault_word n i b true (h zero) p last))
    ∙ ap (λ (t : Bool). cond t None (scan n (suc i) rest)) last
scan_written n i b (c ∷ bs) rest h e p =
    let other : eqb (suc i) n ≡ false = ne_eqb (suc i) n (λ q. omega arith) in
    scan_word n i (word_of false b) (words_of (c ∷ bs) ++ rest) (ap is_good (fault_word n i b false (h zero) p other))
    ∙ ap (λ (t : Bool). cond t None (scan n (suc i) (words_of (c ∷ bs) ++ rest))) other
    ∙ scan_written n (suc i) c bs rest (λ j. h (suc j)) (omega arith) (after_first i c)

-- ---- a good scan

-- what a word without a fault has passed
passed : (large odd header last mark : Bool) → is_good (fault_by large odd header last mark) ≡ true → (large ≡ false) × (odd ≡ true) × (header ≡ false) × (mark ≡ last)
passed true odd header last mark e = absurd (false≢true e)
passed false false header last mark e = absurd (false≢true e)
passed false true true last mark e = absurd (false≢true e)
passed false true false true true e = (refl, refl, refl, refl)
passed false true false true false e = absurd (false≢true e)
passed false true false false true e = absurd (false≢true e)
passed false true false false false e = (refl, refl, refl, refl)

pub word_passed : (n i w : ℕ) → is_good (fault_at n i w) ≡ true → (too_large w ≡ false) × (odd_ones w ≡ true) × ((eqb i 0 && leb 32 (byte_of w)) ≡ false) × (marked w ≡ eqb (suc i) n)
word_passed n i w good =
    passed (too_large w) (odd_ones w) (eqb i 0 && leb 32 (byte_of w)) (eqb (suc i) n) (marked w) (ap is_good (sym (fault_by_lem n i w refl refl refl refl refl)) ∙ good)

module _ (n i w : ℕ) (ws : List ℕ) (good : is_good (scan n i (w ∷ ws)) ≡ true) where
  pub first_passed : (too_large w ≡ false) × (odd_ones w ≡ true) × ((eqb i 0 && leb 32 (byte_of w)) ≡ false) × (marked w ≡ eqb (suc i) n)
  unfolding scan
  first_passed = word_passed n i w (scan_first (fault_at n i w) (eqb (suc i) n) (scan n (suc i) ws) good).0

  rest_passed : eqb (suc i) n ≡ false → is_good (scan n (suc i) ws) ≡ true
  unfolding scan
  rest_passed = (scan_first (fault_at n i w) (eqb (suc i) n) (scan n (suc i) ws) good).1

-- words whose scan is good are the words of their bytes
pub scan_words : (n i k : ℕ) (ws : List ℕ) → n ≡ suc (i + k) → is_good (scan n i ws) ≡ true → words_of (map byte_of (take (suc k) ws)) ≡ take (suc k) ws
unfolding words_of scan
scan_words n i k [] e good = absurd (false≢true good)
scan_words n i zero (w ∷ ws) e good =
    let p = first_passed n i w ws good in
    let last : marked w ≡ true = p.3 ∙ eq-eqb (suc i) n (omega arith) in
    ap (λ (x : ℕ). x ∷ []) (ap (λ (m : Bool). word_of m (byte_of w)) (sym last) ∙ word_back w p.0 p.1)
scan_words n i (suc k) (w ∷ []) e good =
    absurd (false≢true (rest_passed n i w [] good (ne_eqb (suc i) n (λ q. omega arith))))
scan_words n i (suc k) (w ∷ v ∷ ws) e good =
    let p = first_passed n i w (v ∷ ws) good in
    let other : eqb (suc i) n ≡ false = ne_eqb (suc i) n (λ q. omega arith) in
    ap₂ (λ (x : ℕ) (r : List ℕ). x ∷ r)
    (ap (λ (m : Bool). word_of m (byte_of w)) (sym (p.3 ∙ other)) ∙ word_back w p.0 p.1)
    (scan_words n (suc i) k (v ∷ ws) (omega arith) (rest_passed n i w (v ∷ ws) good other))

-- ---- a sample from its bytes, and its bytes from it

-- all zeros are zeros
zeros : (xs : List ℕ) → all_zero xs ≡ true → xs ≡ replicate (length xs) 0
unfolding all_zero
zeros [] e = refl
zeros (x ∷ xs) e = ap₂ (λ (a : ℕ) (r : List ℕ). a ∷ r) (eqb-true x 0 (both_left (eqb x 0) (all_zero xs) e)) (zeros xs (both_right (eqb x 0) (all_zero xs) e))

-- numbers within as many widths are as many
pub within_length : (ns xs : List ℕ) → within ns xs ≡ true → length xs ≡ length ns
unfolding within
within_length [] [] e = refl
within_length [] (x ∷ xs) e = absurd (false≢true e)
within_length (n ∷ ns) [] e = absurd (false≢true e)
within_length (n ∷ ns) (x ∷ xs) e = ap suc (within_length ns xs (both_right (ltb x (256 ^ n)) (within ns xs) e))

four : (a b c d : Bool) → (a && (b && (c && d))) ≡ true → (a ≡ true) × (b ≡ true) × (c ≡ true) × (d ≡ true)
four true true true d e = (refl, refl, refl, e)
four true true false d e = absurd (false≢true e)
four true false c d e = absurd (false≢true e)
four false b c d e = absurd (false≢true e)

-- what the writer's test says, part by part
module _ (w : Widths) (s : Sample) (fit : writable w s ≡ true) where
  parts : (within (field_widths w) (s.header ∷ s.source ∷ s.stamp ∷ s.user ∷ []) ≡ true) × (within counter_widths s.counters ≡ true) × (ltb s.header 32 ≡ true) × ((resource s.header || all_zero s.counters) ≡ true)
  unfolding writable
  parts = four (within (field_widths w) (s.header ∷ s.source ∷ s.stamp ∷ s.user ∷ [])) (within counter_widths s.counters) (ltb s.header 32) (resource s.header || all_zero s.counters) fit

  pub header_fit : s.header < 32
  header_fit = ltb-true s.header 32 parts.2

  pub sixteen_fit : length s.counters ≡ 16
  sixteen_fit = within_length counter_widths s.counters parts.1

  counters_back : (rest : List ℕ) (r : Bool) → (r || all_zero s.counters) ≡ true → cond r (gather counter_widths (cond r (counter_bytes s.counters) [] ++ rest)) (replicate 16 0) ≡ s.counters
  unfolding counter_bytes
  counters_back rest true e = gather_spread counter_widths s.counters rest parts.1
  counters_back rest false e = ap (λ (k : ℕ). replicate k 0) (sym sixteen_fit) ∙ sym (zeros s.counters e)

  -- the bytes of a sample that is written give it back, whatever comes after
  pub sample_back : (rest : List ℕ) → sample_of w (sample_bytes w s ++ rest) ≡ s
  unfolding sample_of sample_bytes field_bytes
  sample_back rest =
      let vs : List ℕ = s.header ∷ s.source ∷ s.stamp ∷ s.user ∷ [] in
      let cs : List ℕ = cond (resource s.header) (counter_bytes s.counters) [] in
      let whole : sample_bytes w s ++ rest ≡ spread (field_widths w) vs ++ (cs ++ rest) = append_assoc (spread (field_widths w) vs) cs rest in
      let f : gather (field_widths w) (sample_bytes w s ++ rest) ≡ vs = ap (gather (field_widths w)) whole ∙ gather_spread (field_widths w) vs (cs ++ rest) parts.0 in
      let d : drop (total (field_widths w)) (sample_bytes w s ++ rest) ≡ cs ++ rest = ap (drop (total (field_widths w))) whole ∙ drop_at (spread (field_widths w) vs) (cs ++ rest) (total (field_widths w)) (fields_length w s.header s.source s.stamp s.user) in
      let c : cond (resource (get_or (gather (field_widths w) (sample_bytes w s ++ rest)) 0 0)) (gather counter_widths (drop (total (field_widths w)) (sample_bytes w s ++ rest))) (replicate 16 0) ≡ s.counters =
      ap₂ (λ (l m : List ℕ). cond (resource (get_or l 0 0)) (gather counter_widths m) (replicate 16 0)) f d ∙ counters_back rest (resource s.header) parts.3 in
      λ i. record { user = get_or (f i) 3 0; stamp = get_or (f i) 2 0; source = get_or (f i) 1 0; header = get_or (f i) 0 0; counters = c i }

-- the sample that bytes give has those bytes
pub bytes_back : (w : Widths) (bs : List ℕ) → ((i : ℕ) → get_or bs i 0 < 256) → sample_length w (resource (sample_of w bs).header) ≤ length bs → sample_bytes w (sample_of w bs) ≡ take (sample_length w (resource (sample_of w bs).header)) bs
unfolding sample_of sample_bytes field_bytes counter_bytes gather
bytes_back w bs h long = go (resource (number (take 1 bs))) long
  where
    go : (r : Bool) → sample_length w r ≤ length bs → spread (field_widths w) (gather (field_widths w) bs) ++ cond r (spread counter_widths (cond r (gather counter_widths (drop (total (field_widths w)) bs)) (replicate 16 0))) [] ≡ take (sample_length w r) bs
    go true k =
        let rest : total counter_widths ≤ length (drop (total (field_widths w)) bs) = rw length-drop (omega arith) in
        ap₂ (λ (x y : List ℕ). x ++ y) (spread_gather (field_widths w) bs h (omega arith)) (spread_gather counter_widths (drop (total (field_widths w)) bs) (drop_below (total (field_widths w)) bs h) rest)
        ∙ sym (take-add (total (field_widths w)) (total counter_widths) bs)
    go false k =
        append-nil _ ∙ spread_gather (field_widths w) bs h (omega arith) ∙ ap (λ (n : ℕ). take n bs) (sym (add-zero (total (field_widths w))))
