-- Laws of the reader's definitions: a word's fault by its five tests, the scan one word at a time, and the numbers that bytes
-- give. Assumes nothing.
use Prim.Native.Nat.{ℕ, zero, suc, ◌+◌, ◌*◌, ◌^◌, ◌≤◌, ◌<◌}
use native.Mathlib.Nat.{mod-lt, zero-lt-suc, lt_of_lt_of_le, pow-le-pow_right, suc-ne-zero}
use native.Mathlib.Omega.{arith}
use mathlib.Core.Path.{◌≡◌, refl, sym, ap, ap₂, ◌∙◌}
use mathlib.Core.Bool.{Bool, true, false, beq, cond, not, ◌&&◌, false≢true}
use Rattle.std.specs.Prelude.{None, Some, Ok, Err}
use Rattle.samples.specs.declared.reader.Refusal.{Refusal}
use mathlib.Core.List.{List, [], ◌∷◌, map}
use lib.Dec.{eqb, leb, eqb-suc-zero}
use lib.ListN.{length, get_or, take, drop, replicate, drop_of_length-le, length-take, get_or-map}
use lib.Seq.{drop-cons, drop-drop, get_or-drop}
use borrow.Author.Tests.{eq-eqb, eqb-true, ne_eqb}
use Rattle.words.specs.Bytes.{number}
use Rattle.words.specs.Word.{too_large, odd_ones, marked, byte_of}
use Rattle.words.proofs.ByteLaws.{number_below}
use Rattle.samples.specs.Read.{Verdict, decided_at, fault_at, found, found_by, gather, is_good, or_else, read_part, sample_of, scan, scanned, wanted}
use Rattle.samples.specs.Layout.{Widths, counter_widths, field_widths, resource, total}
use Rattle.samples.specs.declared.sample.Sample.{Sample}
use Rattle.samples.specs.declared.reader.Fault.TheVariants.{Unfinished, TooLarge, Parity, Header, Mark}

-- a word's fault by what its tests say: too large, odd, a bad header, the last place, the mark
abbrev pub fault_by : Bool → Bool → Bool → Bool → Bool → Verdict
fault_by large odd header last mark =
    cond large (Some TooLarge) (cond (not odd) (Some Parity) (cond header (Some Header) (cond last (cond mark None (Some Mark)) (cond mark (Some Mark) None))))

pub fault_by_lem : (n place w : ℕ) {large odd header last mark : Bool} → too_large w ≡ large → odd_ones w ≡ odd → (eqb place 0 && leb 32 (byte_of w)) ≡ header → eqb (suc place) n ≡ last → marked w ≡ mark → fault_at n place w ≡ fault_by large odd header last mark
unfolding fault_at
fault_by_lem n place w a b c d e = λ i. fault_by (a i) (b i) (c i) (d i) (e i)

-- of how many words a sample has, only whether this one is the last counts
pub ends : (last : Bool) (place : ℕ) → eqb (suc place) (cond last (suc place) 0) ≡ last
ends true place = eq-eqb (suc place) (suc place) refl
ends false place = eqb-suc-zero place

-- its fault by the tests of a word that is the last, or isn't
pub fault_told : (last : Bool) (place w : ℕ) {large odd header mark : Bool} → large ≡ too_large w → odd ≡ odd_ones w → header ≡ (eqb place 0 && leb 32 (byte_of w)) → mark ≡ marked w → fault_by large odd header last mark ≡ fault_at (cond last (suc place) 0) place w
fault_told last place w a b c d = sym (fault_by_lem (cond last (suc place) 0) place w (sym a) (sym b) (sym c) (ends last place) (sym d))

-- a mark is wrong where it is not that of the place
pub fault_marked : (last mark : Bool) {wrong : Bool} → not (beq mark last) ≡ wrong → fault_by false true false last mark ≡ cond wrong (Some Mark) None
fault_marked true true e = ap (λ (b : Bool). cond b (Some Mark) None) e
fault_marked true false e = ap (λ (b : Bool). cond b (Some Mark) None) e
fault_marked false true e = ap (λ (b : Bool). cond b (Some Mark) None) e
fault_marked false false e = ap (λ (b : Bool). cond b (Some Mark) None) e

pub fault_ends : (n place w : ℕ) {last : Bool} → eqb (suc place) n ≡ last → fault_at (cond last (suc place) 0) place w ≡ fault_at n place w
fault_ends n place w {last} e = fault_by_lem (cond last (suc place) 0) place w refl refl refl (ends last place) refl ∙ sym (fault_by_lem n place w refl refl refl e refl)

-- one word of the scan: a good word leaves it to the rest, and a fault decides
pub scan_word : (n i w : ℕ) (ws : List ℕ) {good : Bool} → is_good (fault_at n i w) ≡ good → scan n i (w ∷ ws) ≡ cond good (cond (eqb (suc i) n) None (scan n (suc i) ws)) (fault_at n i w)
unfolding scan
scan_word n i w ws e = ap (λ (g : Bool). cond g (cond (eqb (suc i) n) None (scan n (suc i) ws)) (fault_at n i w)) e

-- and of where it is decided
pub decided_word : (n i w : ℕ) (ws : List ℕ) {good : Bool} → is_good (fault_at n i w) ≡ good → decided_at n i (w ∷ ws) ≡ cond good (cond (eqb (suc i) n) n (decided_at n (suc i) ws)) i
unfolding decided_at
decided_word n i w ws e = ap (λ (g : Bool). cond g (cond (eqb (suc i) n) n (decided_at n (suc i) ws)) i) e

-- the same of the words from a place of a part on: what decides, and where
module _ (n i : ℕ) (ws : List ℕ) (there : i < length ws) where
  scan_here : {good : Bool} → is_good (fault_at n i (get_or ws i 0)) ≡ good → (scan n i (drop i ws) ≡ cond good (cond (eqb (suc i) n) None (scan n (suc i) (drop (suc i) ws))) (fault_at n i (get_or ws i 0))) × (decided_at n i (drop i ws) ≡ cond good (cond (eqb (suc i) n) n (decided_at n (suc i) (drop (suc i) ws))) i)
  scan_here e =
      let here : drop i ws ≡ get_or ws i 0 ∷ drop (suc i) ws = drop-cons ws i 0 there in
      (ap (scan n i) here ∙ scan_word n i (get_or ws i 0) (drop (suc i) ws) e, ap (decided_at n i) here ∙ decided_word n i (get_or ws i 0) (drop (suc i) ws) e)

  -- a fault decides
  pub scan_bad : is_good (fault_at n i (get_or ws i 0)) ≡ false → (scan n i (drop i ws) ≡ fault_at n i (get_or ws i 0)) × (decided_at n i (drop i ws) ≡ i)
  scan_bad bad = scan_here bad

  -- a good word is the last that is wanted, or leaves it to the words after it
  pub scan_good : {last : Bool} → is_good (fault_at n i (get_or ws i 0)) ≡ true → eqb (suc i) n ≡ last → (scan n i (drop i ws) ≡ cond last None (scan n (suc i) (drop (suc i) ws))) × (decided_at n i (drop i ws) ≡ cond last n (decided_at n (suc i) (drop (suc i) ws)))
  scan_good good q =
      ((scan_here good).0 ∙ ap (λ (t : Bool). cond t None (scan n (suc i) (drop (suc i) ws))) q, (scan_here good).1 ∙ ap (λ (t : Bool). cond t n (decided_at n (suc i) (drop (suc i) ws))) q)

  pub scan_last : is_good (fault_at n i (get_or ws i 0)) ≡ true → suc i ≡ n → (scan n i (drop i ws) ≡ None) × (decided_at n i (drop i ws) ≡ n)
  scan_last good last = scan_good good (eq-eqb (suc i) n last)

  pub scan_next : is_good (fault_at n i (get_or ws i 0)) ≡ true → (suc i ≡ n → ⊥) → (scan n i (drop i ws) ≡ scan n (suc i) (drop (suc i) ws)) × (decided_at n i (drop i ws) ≡ decided_at n (suc i) (drop (suc i) ws))
  scan_next good more = scan_good good (ne_eqb (suc i) n more)

-- and past the part's end there is none
pub scan_end : (n i : ℕ) (ws : List ℕ) → length ws ≤ i → (scan n i (drop i ws) ≡ Some Unfinished) × (decided_at n i (drop i ws) ≡ i)
unfolding scan decided_at
scan_end n i ws past = (ap (scan n i) (drop_of_length-le ws past), ap (decided_at n i) (drop_of_length-le ws past))

-- the words before a place are good, so those from it on decide
abbrev pub Past : ℕ → ℕ → List ℕ → Type 0
Past n i ws = (scan n 0 ws ≡ scan n i (drop i ws)) × (decided_at n 0 ws ≡ decided_at n i (drop i ws))

-- a good scan has a good first word, and goes on to a good scan unless that word was the last
pub scan_first : (f : Verdict) (t : Bool) (rest : Verdict) → is_good (or_else f (cond t None rest)) ≡ true → (is_good f ≡ true) × (t ≡ false → is_good rest ≡ true)
scan_first None true rest e = (refl, λ q. absurd (false≢true (sym q)))
scan_first None false rest e = (refl, λ q. e)
scan_first (Some f) t rest e = absurd (false≢true e)

-- the bytes of words are bytes
pub map_below : (ws : List ℕ) (i : ℕ) → get_or (map byte_of ws) i 0 < 256
map_below ws i = rw (get_or-map byte_of ws i 0) (mod-lt (get_or ws i 0) (zero-lt-suc 255))

-- the byte of the word at a place, counted from a start
pub byte_there : (start k : ℕ) (ws : List ℕ) → byte_of (get_or ws (start + k) 0) ≡ get_or (drop start (map byte_of ws)) k 0
byte_there start k ws = sym (get_or-drop start (map byte_of ws) k 0 ∙ get_or-map byte_of ws (start + k) 0)

-- one byte more at the low end
pub number_step : (bs : List ℕ) (i k : ℕ) → i < length bs → number (take (suc k) (drop i bs)) ≡ get_or bs i 0 + 256 * number (take k (drop (suc i) bs))
unfolding number
number_step bs i k h = ap (λ (l : List ℕ). number (take (suc k) l)) (drop-cons bs i 0 h)

pub take_below : (k : ℕ) (bs : List ℕ) → ((i : ℕ) → get_or bs i 0 < 256) → (i : ℕ) → get_or (take k bs) i 0 < 256
take_below zero bs h i = zero-lt-suc 255
take_below (suc k) [] h i = zero-lt-suc 255
take_below (suc k) (b ∷ bs) h zero = h zero
take_below (suc k) (b ∷ bs) h (suc i) = take_below k bs (λ j. h (suc j)) i

-- k bytes give a number below 256 ^ k
pub number_take : (k : ℕ) (bs : List ℕ) → ((i : ℕ) → get_or bs i 0 < 256) → number (take k bs) < 256 ^ k
number_take k bs h =
    let short : length (take k bs) ≤ k = omega (arith, length-take k bs) in
    lt_of_lt_of_le (number_below (take k bs) (take_below k bs h)) (pow-le-pow_right (zero-lt-suc 255) short)

pub drop_below : (k : ℕ) (bs : List ℕ) → ((i : ℕ) → get_or bs i 0 < 256) → (i : ℕ) → get_or (drop k bs) i 0 < 256
drop_below zero bs h i = h i
drop_below (suc k) [] h i = zero-lt-suc 255
drop_below (suc k) (b ∷ bs) h i = drop_below k bs (λ j. h (suc j)) i

pub is_good_lem : (a : Verdict) → is_good a ≡ true → a ≡ None
is_good_lem None e = refl
is_good_lem (Some f) e = absurd (false≢true e)

-- a good scan has seen all the words that were wanted, and is decided after them
pub scan_whole : (n i : ℕ) (ws : List ℕ) → is_good (scan n i ws) ≡ true → (n ≤ i + length ws) × (decided_at n i ws ≡ n)
unfolding scan
scan_whole n i [] g = absurd (false≢true g)
scan_whole n i (w ∷ ws) g =
    let first = scan_first (fault_at n i w) (eqb (suc i) n) (scan n (suc i) ws) g in
    let here = go (eqb (suc i) n) refl first.1 (scan_whole n (suc i) ws) in
    (here.0, decided_word n i w ws first.0 ∙ here.1)
  where
    go : (t : Bool) → eqb (suc i) n ≡ t → (t ≡ false → is_good (scan n (suc i) ws) ≡ true) → (is_good (scan n (suc i) ws) ≡ true → (n ≤ suc i + length ws) × (decided_at n (suc i) ws ≡ n)) → (n ≤ i + suc (length ws)) × (cond (eqb (suc i) n) n (decided_at n (suc i) ws) ≡ n)
    go true e more ih = (omega (arith, eqb-true (suc i) n e), ap (λ (t : Bool). cond t n (decided_at n (suc i) ws)) e)
    go false e more ih = let after = ih (more refl) in (omega (arith, after.0), ap (λ (t : Bool). cond t n (decided_at n (suc i) ws)) e ∙ after.1)

-- the header is the first word's byte
pub header_byte : (ws : List ℕ) → number (take 1 (map byte_of ws)) ≡ byte_of (get_or ws 0 0)
unfolding number
header_byte [] = refl
header_byte (w ∷ ws) = omega arith

-- a sample put together from the numbers at their places; t and u are the bytes of Timestamp and user data, r is whether the header is a
-- Resource sample's
module _ (w : Widths) (bs : List ℕ) (t u : ℕ) (t-is : t ≡ w.stamp_bytes) (u-is : u ≡ w.user_bytes) where
  pub sample_read : (counters : List ℕ) (user stamp source header : ℕ) (r : Bool) → user ≡ number (take u (drop (5 + t) bs)) → stamp ≡ number (take t (drop 5 bs)) → source ≡ number (take 4 (drop 1 bs)) → header ≡ number (take 1 bs) → r ≡ resource header → counters ≡ cond r (gather counter_widths (drop (total (field_widths w)) bs)) (replicate 16 0) → ◌≡◌ {A = Sample} (record { user = user; stamp = stamp; source = source; header = header; counters = counters }) (sample_of w bs)
  unfolding sample_of gather
  sample_read counters user stamp source header r us st so he kind cs =
      let us' : user ≡ number (take w.user_bytes (drop w.stamp_bytes (drop 4 (drop 1 bs)))) =
      us ∙ ap₂ (λ (m n : ℕ). number (take m (drop (5 + n) bs))) u-is t-is
      ∙ ap (λ (l : List ℕ). number (take w.user_bytes l)) (sym (ap (drop w.stamp_bytes) (drop-drop 4 1 bs) ∙ drop-drop w.stamp_bytes 5 bs)) in
      let st' : stamp ≡ number (take w.stamp_bytes (drop 4 (drop 1 bs))) =
      st ∙ ap (λ (n : ℕ). number (take n (drop 5 bs))) t-is ∙ ap (λ (l : List ℕ). number (take w.stamp_bytes l)) (sym (drop-drop 4 1 bs)) in
      let cs' : counters ≡ cond (resource (number (take 1 bs))) (gather counter_widths (drop (total (field_widths w)) bs)) (replicate 16 0) =
      cs ∙ ap (λ (b : Bool). cond b (gather counter_widths (drop (total (field_widths w)) bs)) (replicate 16 0)) (kind ∙ ap resource he) in
      λ i. record { user = us' i; stamp = st' i; source = so i; header = he i; counters = cs' i }

-- a number read from k words is below 256 ^ k
pub number_read : (k start : ℕ) (ws : List ℕ) (x : ℕ) → x ≡ number (take k (drop start (map byte_of ws))) → x < 256 ^ k
number_read k start ws x e = rw e (number_take k (drop start (map byte_of ws)) (drop_below start (map byte_of ws) (map_below ws)))

-- a scan that went well is a good one
pub scanned_good : (v : Verdict) (p : ℕ) → Ok tt ≡ scanned v p → is_good v ≡ true
scanned_good None p e = refl
scanned_good (Some f) p e = cc

-- the reader's answer, case by case
module _ (w : Widths) (ws : List ℕ) where
  pub read_good : (n : ℕ) (s : Sample) (p : ℕ) → n ≡ wanted w ws → is_good (scan n 0 ws) ≡ true → s ≡ sample_of w (map byte_of ws) → p ≡ decided_at n 0 ws → found_by None s n p ≡ read_part w ws
  unfolding read_part
  read_good n s p size good given place =
      let whole : None ≡ scan n 0 ws = sym (is_good_lem (scan n 0 ws) good) in
      (λ i. found_by (whole i) (given i) n (place i)) ∙ ap (λ (k : ℕ). found_by (scan k 0 ws) (sample_of w (map byte_of ws)) k (decided_at k 0 ws)) size

  pub read_bad : (n : ℕ) (r : Refusal) → n ≡ wanted w ws → Err r ≡ scanned (scan n 0 ws) (decided_at n 0 ws) → found (Err r) ≡ read_part w ws
  unfolding read_part
  read_bad n r size bad = go (scan n 0 ws) bad ∙ ap (λ (k : ℕ). found_by (scan k 0 ws) (sample_of w (map byte_of ws)) k (decided_at k 0 ws)) size
    where
      go : (v : Verdict) → Err r ≡ scanned v (decided_at n 0 ws) → found (Err r) ≡ found_by v (sample_of w (map byte_of ws)) n (decided_at n 0 ws)
      go None e = cc
      go (Some f) e = cc

pub read_empty : (w : Widths) (ws : List ℕ) → length ws ≡ 0 → found (Err (record { fault = Unfinished; place = 0 })) ≡ read_part w ws
unfolding read_part scan decided_at
read_empty w [] e = refl
read_empty w (x ∷ ws) e = absurd (suc-ne-zero _ e)
