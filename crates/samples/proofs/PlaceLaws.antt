-- The bytes and words of a sample stand where the papers' numbers put them, and those numbers leave one list of bytes and one of words.
-- By the laws of fields laid one after the other. Assumes sixteen counters, where said.
use Prim.Native.Nat.{ℕ, suc, ◌+◌, ◌-◌, ◌*◌, ◌/◌, ◌%◌, ◌≤◌, ◌<◌}
use native.Mathlib.Nat.{add-sub_of_le, mod-lt, zero-lt-suc}
use native.Mathlib.Omega.{arith}
use mathlib.Core.Path.{◌≡◌, refl, sym, ap, ap₂, ◌∙◌, subst}
use mathlib.Core.Bool.{Bool, true, false}
use mathlib.Core.List.{List, [], ◌∷◌, map}
use lib.Arith.{lt-one}
use lib.Count.{ones_in}
use lib.Dec.{eqb, leb, ltb}
use lib.ListN.{get_or, length, length-map, take, get_or-map}
use lib.Seq.{ext_get_or}
use borrow.Author.Tests.{eq-eqb, eqb-false, eqb-true, le-leb, leb-true, lt-leb, ltb-false, ltb-true, ne_eqb}
use Rattle.words.specs.Bytes.{byte_at}
use Rattle.words.specs.Word.{mark_bit, odd_ones, word_of}
use Rattle.words.proofs.WordLaws.{word_odd, word_one, word_top, words_bytes}
use Rattle.samples.specs.Layout.{counter_bytes, field_widths, resource, sample_bytes, sample_length, sample_words, total, widths}
use Rattle.samples.specs.Places.{Placed, PlacedWords, counter_place, last_place, nth_byte, user_place}
use Rattle.samples.specs.Read.{read_part}
use Rattle.samples.specs.declared.edition.Edition.{Edition}
use Rattle.samples.specs.declared.sample.Sample.{Sample}
use Rattle.samples.proofs.EditionLaws.{counter_place_lem, last_of_lem, user_place_lem}
use Rattle.samples.proofs.RoundTrip.{sixteen_fit}
use Rattle.samples.proofs.SampleLaws.{at_field, bytes_below, bytes_length, sample_after, sample_before, sample_word}
use Rattle.samples.proofs.Spread.{spread_each}
use Rattle.samples.proofs.Theorems.{accepted_words, accepted_writable}

-- bit 3 is set exactly where the low four bits are at least 8
pub resource_number : (h : ℕ) → resource h ≡ leb 8 (h % 16)
resource_number h = go (resource h) refl
  where
    go : (t : Bool) → resource h ≡ t → resource h ≡ leb 8 (h % 16)
    go true e = e ∙ sym (le-leb 8 (h % 16) (omega (arith, eqb-true)))
    go false e = e ∙ sym (lt-leb 8 (h % 16) (omega (arith, eqb-false)))

module _ (ed : Edition) where
  -- so a sample's length is one more than its last place
  length_number : (h : ℕ) → sample_length (widths ed) (resource h) ≡ last_place ed h + 1
  length_number h = ap (sample_length (widths ed)) (resource_number h) ∙ last_of_lem ed (leb 8 (h % 16))

  -- byte j of field k, for the places that the fields begin at
  in_field : (s : Sample) (k start j : ℕ) → start ≡ total (take k (field_widths (widths ed))) → j < get_or (field_widths (widths ed)) k 0 → start + j < total (field_widths (widths ed)) → get_or (sample_bytes (widths ed) s) (start + j) 0 ≡ nth_byte (get_or (s.header ∷ s.source ∷ s.stamp ∷ s.user ∷ []) k 0) j
  in_field s k start j at h l =
      sample_before (widths ed) s (start + j) l
      ∙ at_field (widths ed) s.header s.source s.stamp s.user k (start + j) j h (ap (λ (t : ℕ). t + j) at)

module _ (ed : Edition) (s : Sample) (sixteen : length s.counters ≡ 16) where
  in_counter : (i k : ℕ) → 8 ≤ s.header % 16 → i < 16 → k < 4 → get_or (sample_bytes (widths ed) s) (counter_place ed + 4 * i + k) 0 ≡ nth_byte (get_or s.counters i 0) k
  unfolding counter_bytes
  in_counter i k r hi hk =
      let start : ℕ = counter_place ed in
      let p : ℕ = start + 4 * i + k in
      let whole : (p - start) / 4 ≡ i = omega arith in
      let part : (p - start) % 4 ≡ k = omega arith in
      sample_after (widths ed) s p start (counter_place_lem ed) (omega arith) (resource_number s.header ∙ le-leb 8 (s.header % 16) r)
      ∙ spread_each 4 16 s.counters (p - start) (zero-lt-suc 3) sixteen
      ∙ ap₂ (λ (m n : ℕ). byte_at (get_or s.counters m 0) n) whole part

  -- each byte of a sample is the one that the papers' numbers put there
  pub bytes_placed : Placed ed s (sample_bytes (widths ed) s)
  bytes_placed =
      record {
        size = bytes_length (widths ed) s sixteen ∙ length_number ed s.header;
        header = in_field ed s 0 0 0 refl (omega arith) (omega arith);
        source = λ k h. in_field ed s 1 1 k refl h (omega arith);
        stamp = λ k h. in_field ed s 2 5 k refl (omega (arith, user_place_lem ed)) (omega (arith, user_place_lem ed));
        user = λ k h. in_field ed s 3 (user_place ed) k (omega (arith, user_place_lem ed)) (omega (arith, user_place_lem ed, counter_place_lem ed)) (omega (arith, counter_place_lem ed));
        counter = in_counter;
      }

  -- each word is that byte's, marked at the last place
  word_here : (p : ℕ) → p ≤ last_place ed s.header → get_or (sample_words (widths ed) s) p 0 ≡ word_of (eqb (suc p) (last_place ed s.header + 1)) (get_or (sample_bytes (widths ed) s) p 0)
  word_here p h = subst (λ (n : ℕ). p < n → get_or (sample_words (widths ed) s) p 0 ≡ word_of (eqb (suc p) n) (get_or (sample_bytes (widths ed) s) p 0)) (length_number ed s.header) (sample_word (widths ed) s sixteen p) (omega arith)

  word_mark : (p : ℕ) (m : Bool) → p ≤ last_place ed s.header → eqb (suc p) (last_place ed s.header + 1) ≡ m → get_or (sample_words (widths ed) s) p 0 / 512 ≡ mark_bit m
  word_mark p m h q =
      ap (λ (w : ℕ). w / 512) (word_here p h ∙ ap (λ (b : Bool). word_of b (get_or (sample_bytes (widths ed) s) p 0)) q)
      ∙ word_top m (get_or (sample_bytes (widths ed) s) p 0) (bytes_below (widths ed) s p)

  word_ones : (p : ℕ) → p ≤ last_place ed s.header → ones_in 9 (get_or (sample_words (widths ed) s) p 0) % 2 ≡ 1
  unfolding odd_ones
  word_ones p h =
      ap (λ (w : ℕ). ones_in 9 w % 2) (word_here p h)
      ∙ eqb-true _ 1 (word_odd (eqb (suc p) (last_place ed s.header + 1)) (get_or (sample_bytes (widths ed) s) p 0) (bytes_below (widths ed) s p))

  word_data : map (λ (w : ℕ). w % 256) (sample_words (widths ed) s) ≡ sample_bytes (widths ed) s
  unfolding sample_words
  word_data = words_bytes (sample_bytes (widths ed) s) (bytes_below (widths ed) s)

  -- and so is each word
  pub words_placed : PlacedWords ed s (sample_words (widths ed) s)
  words_placed =
      record {
        bytes = rw word_data bytes_placed;
        odd = word_ones;
        last = word_mark (last_place ed s.header) true (omega arith) (eq-eqb (suc (last_place ed s.header)) (last_place ed s.header + 1) (omega arith));
        others = λ p h. word_mark p false (omega arith) (ne_eqb (suc p) (last_place ed s.header + 1) (λ q. omega arith));
      }

-- so what the reader accepts, it finds where the papers' numbers put it
pub accepted_placed : (ed : Edition) (ws : List ℕ) → (read_part (widths ed) ws).number ≡ 0 → PlacedWords ed (read_part (widths ed) ws).sample (take (read_part (widths ed) ws).count ws)
accepted_placed ed ws taken =
    let s : Sample = (read_part (widths ed) ws).sample in
    subst (PlacedWords ed s) (sym (accepted_words (widths ed) ws taken)) (words_placed ed s (sixteen_fit (widths ed) s (accepted_writable (widths ed) ws taken)))

-- the numbers leave one list of bytes
module _ (ed : Edition) (s : Sample) (a b : List ℕ) (x : Placed ed s a) (y : Placed ed s b) where
  -- a place at or after the first of a field
  same_at : (p start : ℕ) → start ≤ p → get_or a (start + (p - start)) 0 ≡ get_or b (start + (p - start)) 0 → get_or a p 0 ≡ get_or b p 0
  same_at p start h q = subst (λ (r : ℕ). get_or a r 0 ≡ get_or b r 0) (add-sub_of_le h) q

  -- a place from the counters' first on is a Resource sample's
  kind : (p : ℕ) → counter_place ed ≤ p → p < last_place ed s.header + 1 → (8 ≤ s.header % 16) × (p < counter_place ed + 64)
  kind p l h = go (leb 8 (s.header % 16)) refl (subst (λ (n : ℕ). p < n) (sym (last_of_lem ed (leb 8 (s.header % 16)))) h)
    where
      go : (r : Bool) → leb 8 (s.header % 16) ≡ r → p < sample_length (widths ed) r → (8 ≤ s.header % 16) × (p < counter_place ed + 64)
      go true q k = (leb-true 8 (s.header % 16) q, omega (arith, counter_place_lem ed))
      go false q k = absurd (omega (arith, counter_place_lem ed))

  -- the header's place, then the field that the place falls into, then the counters, which a Resource sample alone has
  same_byte : (p : ℕ) → p < length a → get_or a p 0 ≡ get_or b p 0
  same_byte p h = go (ltb p 1) refl (ltb p 5) refl (ltb p (user_place ed)) refl (ltb p (counter_place ed)) refl
    where
      go : (f : Bool) → ltb p 1 ≡ f → (so : Bool) → ltb p 5 ≡ so → (t : Bool) → ltb p (user_place ed) ≡ t → (u : Bool) → ltb p (counter_place ed) ≡ u → get_or a p 0 ≡ get_or b p 0
      go true q _ _ _ _ _ _ = rw (lt-one (ltb-true p 1 q)) (x.header ∙ sym y.header)
      go false q true f _ _ _ _ = let k : p - 1 < 4 = omega (arith, ltb-true p 5 f, ltb-false p 1 q) in same_at p 1 (ltb-false p 1 q) (x.source (p - 1) k ∙ sym (y.source (p - 1) k))
      go false q false f true g _ _ = let k : 5 + (p - 5) < user_place ed = omega (arith, ltb-true p (user_place ed) g, ltb-false p 5 f) in same_at p 5 (ltb-false p 5 f) (x.stamp (p - 5) k ∙ sym (y.stamp (p - 5) k))
      go false q false f false g true u = let k : user_place ed + (p - user_place ed) < counter_place ed = omega (arith, ltb-true p (counter_place ed) u, ltb-false p (user_place ed) g) in same_at p (user_place ed) (ltb-false p (user_place ed) g) (x.user (p - user_place ed) k ∙ sym (y.user (p - user_place ed) k))
      go false q false f false g false u =
          let l : counter_place ed ≤ p = ltb-false p (counter_place ed) u in
          let r = kind p l (subst (λ (n : ℕ). p < n) x.size h) in
          let i : ℕ = (p - counter_place ed) / 4 in
          let k : ℕ = (p - counter_place ed) % 4 in
          let place : counter_place ed + 4 * i + k ≡ p = omega arith in
          let few : i < 16 = omega (arith, r.1) in
          let part : k < 4 = mod-lt (p - counter_place ed) (zero-lt-suc 3) in
          subst (λ (t : ℕ). get_or a t 0 ≡ get_or b t 0) place (x.counter i k r.0 few part ∙ sym (y.counter i k r.0 few part))

  pub bytes_one : a ≡ b
  bytes_one = ext_get_or 0 a b (x.size ∙ sym y.size) same_byte

-- and one list of words
pub words_one : (ed : Edition) (s : Sample) (a b : List ℕ) → PlacedWords ed s a → PlacedWords ed s b → a ≡ b
words_one ed s a b x y = ext_get_or 0 a b (longer a x ∙ sym (longer b y)) same
  where
    longer : (ws : List ℕ) → PlacedWords ed s ws → length ws ≡ last_place ed s.header + 1
    longer ws z = sym (length-map ws (λ (w : ℕ). w % 256)) ∙ z.bytes.size

    data_same : (p : ℕ) → get_or a p 0 % 256 ≡ get_or b p 0 % 256
    data_same p =
        sym (get_or-map (λ (w : ℕ). w % 256) a p 0)
        ∙ ap (λ (bs : List ℕ). get_or bs p 0) (bytes_one ed s (map (λ (w : ℕ). w % 256) a) (map (λ (w : ℕ). w % 256) b) x.bytes y.bytes)
        ∙ get_or-map (λ (w : ℕ). w % 256) b p 0

    mark_same : (p : ℕ) (t : Bool) → ltb p (last_place ed s.header) ≡ t → p ≤ last_place ed s.header → get_or a p 0 / 512 ≡ get_or b p 0 / 512
    mark_same p true q h = let k : p < last_place ed s.header = ltb-true p (last_place ed s.header) q in x.others p k ∙ sym (y.others p k)
    mark_same p false q h =
        let end : last_place ed s.header ≡ p = omega (arith, ltb-false p (last_place ed s.header) q) in
        subst (λ (r : ℕ). get_or a r 0 / 512 ≡ get_or b r 0 / 512) end (x.last ∙ sym y.last)

    same : (p : ℕ) → p < length a → get_or a p 0 ≡ get_or b p 0
    same p h =
        let k : p ≤ last_place ed s.header = omega (arith, longer a x) in
        word_one (get_or a p 0) (get_or b p 0) (data_same p) (x.odd p k ∙ sym (y.odd p k)) (mark_same p (ltb p (last_place ed s.header)) refl k)
