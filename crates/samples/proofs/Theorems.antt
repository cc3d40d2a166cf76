-- Demand 2 of samples and words, for all widths of Timestamp and user data: reading a written sample gives it back, words that are
-- accepted are what writing their sample gives, and each place of the writer's buffer is told. Assumes nothing.
use Prim.Native.Nat.{ℕ, zero, suc, ◌+◌, ◌-◌, ◌≤◌, ◌<◌, ◌%◌}
use native.Mathlib.Nat.{add-sub_of_le, zero-add, mod-eq_of_lt, lt_trans, suc-ne-zero}
use native.Mathlib.Omega.{arith}
use mathlib.Core.Path.{◌≡◌, refl, sym, ap, ap₂, ◌∙◌, subst}
use mathlib.Core.Bool.{Bool, true, false, cond, ◌&&◌, ◌||◌, false≢true}
use Rattle.std.specs.Prelude.{None, Some}
use Rattle.samples.specs.declared.reader.Fault.TheVariants.{Unfinished, TooLarge, Parity, Header, Mark}
use mathlib.Core.List.{List, [], ◌∷◌, ◌++◌, map, map-append}
use lib.Dec.{eqb, leb, ltb, lit<}
use lib.ListN.{length, get_or, take, drop, replicate, length-append, length-drop, length-map, get_or-append}
use lib.Seq.{get_or-append-add, get_or-drop, get_or-take, take_all}
use borrow.Author.Tests.{lt-leb, leb-false, leb-true, lt-ltb, ltb-false, ltb-true}
use Rattle.words.specs.Bytes.{low_bytes, number}
use Rattle.words.specs.Word.{words_of, is_last, byte_of}
use Rattle.words.proofs.WordLaws.{words_bytes, word_byte}
use Rattle.samples.specs.Layout.{Widths, field_widths, counter_widths, field_bytes, sample_bytes, sample_words, sample_length, resource, spread, total}
use Rattle.samples.specs.Write.{Row, all_zero, row, within, writable, write_answer, write_buffer}
use Rattle.samples.specs.Read.{Found, Verdict, decided_at, found_by, gather, is_good, read_part, sample_of, scan, wanted}
use Rattle.samples.specs.declared.sample.Sample.{Sample}
use Rattle.samples.proofs.Gather.{within_gather}
use Rattle.samples.proofs.ReadLaws.{header_byte, map_below, drop_below, read_good, scan_whole}
use Rattle.samples.proofs.RoundTrip.{bytes_back, first_passed, header_fit, sample_back, scan_words, scan_written, sixteen_fit}
use Rattle.samples.proofs.SampleLaws.{bytes_below, bytes_length, sample_length_lem}
use Rattle.samples.proofs.WriteLaws.{wrote, wrote_short, wrote_unfit}

-- the header's byte comes first
rest_of : Widths → Sample → List ℕ
rest_of w s = drop 1 (sample_bytes w s)

header_first : (w : Widths) (s : Sample) → sample_bytes w s ≡ s.header % 256 ∷ rest_of w s
unfolding sample_bytes field_bytes spread low_bytes rest_of
header_first w s = refl

-- 1. Reading what the writer wrote, with any words after it, gives the sample and its count back.
pub read_written : (w : Widths) (s : Sample) (rest : List ℕ) → writable w s ≡ true → read_part w (sample_words w s ++ rest) ≡ found_by None s (sample_length w (resource s.header)) (sample_length w (resource s.header))
unfolding sample_words words_of
read_written w s rest fit =
    let n : ℕ = sample_length w (resource s.header) in
    let b : ℕ = s.header % 256 in
    let bs : List ℕ = rest_of w s in
    let small : s.header < 32 = header_fit w s fit in
    let byte : b ≡ s.header = mod-eq_of_lt (lt_trans small (lit< tt)) in
    let head : sample_bytes w s ≡ b ∷ bs = header_first w s in
    let long : n ≡ suc (0 + length bs) = sym (bytes_length w s (sixteen_fit w s fit)) ∙ ap length head ∙ ap suc (sym (zero-add (length bs))) in
    let below : (j : ℕ) → get_or (b ∷ bs) j 0 < 256 = λ j. subst (λ (l : List ℕ). get_or l j 0 < 256) head (bytes_below w s j) in
    let first : byte_of (get_or (words_of (sample_bytes w s) ++ rest) 0 0) ≡ s.header =
    ap (λ (l : List ℕ). byte_of (get_or (words_of l ++ rest) 0 0)) head ∙ word_byte (is_last bs) b (below 0) ∙ byte in
    let good : is_good (scan n 0 (words_of (sample_bytes w s) ++ rest)) ≡ true =
    ap (λ (l : List ℕ). is_good (scan n 0 (words_of l ++ rest))) head
    ∙ ap is_good (scan_written n 0 b bs rest below long (lt-leb 32 b (subst (λ (x : ℕ). x < 32) (sym byte) small))) in
    let given : s ≡ sample_of w (map byte_of (words_of (sample_bytes w s) ++ rest)) =
    sym
    (ap (sample_of w)
    (map-append byte_of (words_of (sample_bytes w s)) rest
    ∙ ap (λ (l : List ℕ). l ++ map byte_of rest) (words_bytes (sample_bytes w s) (bytes_below w s)))
    ∙ sample_back w s fit (map byte_of rest)) in
    sym
    (read_good w (words_of (sample_bytes w s) ++ rest) n s n
    (ap (λ (h : ℕ). sample_length w (resource h)) (sym first))
    good
    given
    (sym (scan_whole n 0 (words_of (sample_bytes w s) ++ rest) good).1))

map_take : (n : ℕ) (ws : List ℕ) → map byte_of (take n ws) ≡ take n (map byte_of ws)
map_take zero ws = refl
map_take (suc n) [] = refl
map_take (suc n) (w ∷ ws) = ap (λ (r : List ℕ). byte_of w ∷ r) (map_take n ws)

-- the first word of a good scan has a header without bits 5 to 7
header_passed : (n : ℕ) (ws : List ℕ) → is_good (scan n 0 ws) ≡ true → byte_of (get_or ws 0 0) < 32
unfolding scan
header_passed n [] good = absurd (false≢true good)
header_passed n (w ∷ ws) good = leb-false 32 (byte_of w) (first_passed n 0 w ws good).2

-- a Trace sample's counters are zeros, and a Resource sample's what was read
pub within_kind : (r : Bool) (cs : List ℕ) → (r ≡ true → within counter_widths cs ≡ true) → within counter_widths (cond r cs (replicate 16 0)) ≡ true
unfolding within
within_kind true cs e = e refl
within_kind false cs e = refl

pub zeros_kind : (r : Bool) (cs : List ℕ) → (r || all_zero (cond r cs (replicate 16 0))) ≡ true
unfolding all_zero
zeros_kind true cs = refl
zeros_kind false cs = refl

-- the sample that words give is writable where the header has no bits 5 to 7
pub read_writable : (w : Widths) (ws : List ℕ) → byte_of (get_or ws 0 0) < 32 → writable w (sample_of w (map byte_of ws)) ≡ true
unfolding writable sample_of gather
read_writable w ws few =
    let bs : List ℕ = map byte_of ws in
    let h : ℕ = number (take 1 bs) in
    let cs : List ℕ = gather counter_widths (drop (total (field_widths w)) bs) in
    let fields : within (field_widths w) (gather (field_widths w) bs) ≡ true = within_gather (field_widths w) bs (map_below ws) in
    let counters : within counter_widths (cond (resource h) cs (replicate 16 0)) ≡ true =
    within_kind (resource h) cs (λ e. within_gather counter_widths (drop (total (field_widths w)) bs) (drop_below (total (field_widths w)) bs (map_below ws))) in
    let small : ltb h 32 ≡ true = ap (λ (x : ℕ). ltb x 32) (header_byte ws) ∙ lt-ltb (byte_of (get_or ws 0 0)) 32 few in
    let zeros : (resource h || all_zero (cond (resource h) cs (replicate 16 0))) ≡ true = zeros_kind (resource h) cs in
    λ i. fields i && (counters i && (small i && zeros i))

-- its header is the first word's byte, so it has as many words as are wanted
pub read_size : (w : Widths) (ws : List ℕ) → sample_length w (resource (sample_of w (map byte_of ws)).header) ≡ wanted w ws
unfolding sample_of gather
read_size w ws = ap (λ (h : ℕ). sample_length w (resource h)) (header_byte ws)

-- what an accepting reader has seen: a good scan, and its whole answer
module _ (w : Widths) (ws : List ℕ) (taken : (read_part w ws).number ≡ 0) where
  accepted_scan : is_good (scan (wanted w ws) 0 ws) ≡ true
  unfolding read_part
  accepted_scan = go (scan (wanted w ws) 0 ws) taken
    where
      go : (v : Verdict) → (found_by v (sample_of w (map byte_of ws)) (wanted w ws) (decided_at (wanted w ws) 0 ws)).number ≡ 0 → is_good v ≡ true
      go None t = refl
      go (Some Unfinished) t = absurd (suc-ne-zero _ t)
      go (Some TooLarge) t = absurd (suc-ne-zero _ t)
      go (Some Parity) t = absurd (suc-ne-zero _ t)
      go (Some Header) t = absurd (suc-ne-zero _ t)
      go (Some Mark) t = absurd (suc-ne-zero _ t)

  accepted : read_part w ws ≡ found_by None (sample_of w (map byte_of ws)) (wanted w ws) (wanted w ws)
  accepted =
      sym (read_good w ws (wanted w ws) (sample_of w (map byte_of ws)) (wanted w ws) refl accepted_scan refl (sym (scan_whole (wanted w ws) 0 ws accepted_scan).1))

  enough : wanted w ws ≤ length ws
  enough = rw zero-add at (scan_whole (wanted w ws) 0 ws accepted_scan).0

  given_words : take (wanted w ws) ws ≡ sample_words w (sample_of w (map byte_of ws))
  unfolding sample_words
  given_words =
      let n : ℕ = wanted w ws in
      let bs : List ℕ = map byte_of ws in
      let one : suc (n - 1) ≡ n = omega arith in
      let whole : words_of (map byte_of (take n ws)) ≡ take n ws =
      subst (λ (m : ℕ). words_of (map byte_of (take m ws)) ≡ take m ws) one (scan_words n 0 (n - 1) ws (omega arith) accepted_scan) in
      let long : sample_length w (resource (sample_of w bs).header) ≤ length bs =
      subst (λ (m : ℕ). m ≤ length bs) (sym (read_size w ws)) (subst (λ (m : ℕ). n ≤ m) (sym (length-map ws byte_of)) enough) in
      let bytes : sample_bytes w (sample_of w bs) ≡ take n bs = bytes_back w bs (map_below ws) long ∙ ap (λ (m : ℕ). take m bs) (read_size w ws) in
      sym whole ∙ ap words_of (map_take n ws ∙ sym bytes)

  given_writable : writable w (sample_of w (map byte_of ws)) ≡ true
  given_writable = read_writable w ws (header_passed (wanted w ws) ws accepted_scan)

  -- 2. Words that the reader accepts are exactly what writing their sample gives.
  pub accepted_words : take (read_part w ws).count ws ≡ sample_words w (read_part w ws).sample
  accepted_words = subst (λ (r : Found). take r.count ws ≡ sample_words w r.sample) (sym accepted) given_words

  pub accepted_count : ((read_part w ws).count ≡ sample_length w (resource (read_part w ws).sample.header)) × ((read_part w ws).count ≤ length ws)
  accepted_count = subst (λ (r : Found). (r.count ≡ sample_length w (resource r.sample.header)) × (r.count ≤ length ws)) (sym accepted) (sym (read_size w ws), enough)

  -- with a sample the place, which document 02's Wish 12 leaves open, is the number of words it took
  pub accepted_place : (read_part w ws).place ≡ (read_part w ws).count
  accepted_place = ap (λ (r : Found). r.place) accepted ∙ sym (ap (λ (r : Found). r.count) accepted)

  -- 3. Every accepted sample is one the writer takes (1 has that every sample the writer takes is accepted).
  pub accepted_writable : writable w (read_part w ws).sample ≡ true
  accepted_writable = subst (λ (r : Found). writable w r.sample ≡ true) (sym accepted) given_writable

-- the writer's buffer, in all cases: c words of the sample, then what was there
abbrev Wrote : Widths → Sample → List ℕ → ℕ → Type 0
Wrote w s out c = (write_buffer w s out ≡ take c (sample_words w s) ++ drop c out) × (length (take c (sample_words w s)) ≡ c) × (c ≤ length out)

module _ (w : Widths) (s : Sample) (out : List ℕ) where
  -- where c is the count of the answer
  wrote_count : Wrote w s out (write_answer w s (length out)).count
  wrote_count = go (writable w s) refl (leb (sample_length w (resource s.header)) (length out)) refl
    where
      n : ℕ
      n = sample_length w (resource s.header)

      counted : {r : Row} → r ≡ write_answer w s (length out) → Wrote w s out r.count → Wrote w s out (write_answer w s (length out)).count
      counted e = subst (λ (r : Row). Wrote w s out r.count) e

      go : (fit : Bool) → writable w s ≡ fit → (room : Bool) → leb n (length out) ≡ room → Wrote w s out (write_answer w s (length out)).count
      go false e room q = let p = wrote_unfit w s out e in counted p.0 (sym p.1, refl, omega arith)
      go true e false q = let p = wrote_short w s out n refl e (leb-false n (length out) q) in counted p.0 (sym p.1, refl, omega arith)
      go true e true q =
          let room : n ≤ length out = leb-true n (length out) q in
          let p = wrote w s out n refl e room in
          let long : length (sample_words w s) ≡ n = sample_length_lem w s (sixteen_fit w s e) in
          let whole : take n (sample_words w s) ≡ sample_words w s = take_all n (sample_words w s) (omega (arith, long)) in
          counted p.0 (sym p.1 ∙ ap (λ (l : List ℕ). l ++ drop n out) (sym whole), ap length whole ∙ long, room)

  -- 4. Each place of the buffer after writing, in all cases: word p of the sample for p below the count of words written, else what was
  -- there: "the rest untouched".
  pub written_places : (p : ℕ) → get_or (write_buffer w s out) p 0 ≡ cond (ltb p (write_answer w s (length out)).count) (get_or (sample_words w s) p 0) (get_or out p 0)
  written_places p = ap (λ (l : List ℕ). get_or l p 0) wrote_count.0 ∙ sides (ltb p c) refl
    where
      c : ℕ
      c = (write_answer w s (length out)).count

      front : List ℕ
      front = take c (sample_words w s)

      sides : (below : Bool) → ltb p c ≡ below → get_or (front ++ drop c out) p 0 ≡ cond below (get_or (sample_words w s) p 0) (get_or out p 0)
      sides true q =
          let here : p < c = ltb-true p c q in
          get_or-append front (drop c out) 0 p (subst (λ (m : ℕ). p < m) (sym wrote_count.1) here) ∙ get_or-take c (sample_words w s) p 0 here
      sides false q =
          let after : c ≤ p = ltb-false p c q in
          let past : length front + (p - c) ≡ p = ap (λ (m : ℕ). m + (p - c)) wrote_count.1 ∙ add-sub_of_le after in
          ap (λ (m : ℕ). get_or (front ++ drop c out) m 0) (sym past)
          ∙ get_or-append-add front (drop c out) (p - c) 0
          ∙ get_or-drop c out (p - c) 0
          ∙ ap (λ (m : ℕ). get_or out m 0) (add-sub_of_le after)

  -- and it has as many places as before
  pub written_length : length (write_buffer w s out) ≡ length out
  written_length =
      let c : ℕ = (write_answer w s (length out)).count in
      ap length wrote_count.0
      ∙ length-append (take c (sample_words w s)) (drop c out)
      ∙ ap₂ (λ (a b : ℕ). a + b) wrote_count.1 (length-drop c out)
      ∙ add-sub_of_le wrote_count.2

  -- "refuses, with 0 and nothing written"
  pub refused_untouched : eqb (write_answer w s (length out)).number 0 ≡ false → ((write_answer w s (length out)).count ≡ 0) × (write_buffer w s out ≡ out)
  unfolding write_answer write_buffer
  refused_untouched e = go (writable w s) (leb (sample_length w (resource s.header)) (length out)) e
    where
      n : ℕ
      n = sample_length w (resource s.header)

      go : (fit room : Bool) → eqb (cond fit (cond room (row 0 n) (row 18 0)) (row 17 0)).number 0 ≡ false → ((cond fit (cond room (row 0 n) (row 18 0)) (row 17 0)).count ≡ 0) × (cond fit (cond room (sample_words w s ++ drop n out) out) out ≡ out)
      go true true q = absurd (false≢true (sym q))
      go true false q = (refl, refl)
      go false room q = (refl, refl)
