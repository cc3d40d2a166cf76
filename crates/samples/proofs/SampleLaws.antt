-- Laws of a sample's bytes and words: the law of fields laid one after the other, at the fields and counters of a sample.
-- Assumes nothing.
use Prim.Native.Nat.{ℕ, suc, ◌+◌, ◌-◌, ◌≤◌, ◌<◌}
use native.Mathlib.Nat.{add-sub_of_le}
use native.Mathlib.Omega.{arith}
use mathlib.Core.Path.{◌≡◌, refl, sym, ap, ap₂, ◌∙◌, subst}
use mathlib.Core.Bool.{Bool, true, false, cond}
use mathlib.Core.List.{List, [], ◌∷◌}
use lib.Dec.{eqb}
use lib.ListN.{get_or, length, take, length-append, get_or-eq_default}
use Rattle.words.specs.Bytes.{byte_at}
use Rattle.words.specs.Table.{words_with}
use Rattle.words.specs.Word.{word_of}
use Rattle.words.proofs.WordLaws.{with_at, with_length, words_with_lem}
use Rattle.samples.specs.Layout.{Widths, field_bytes, field_widths, total, counter_bytes, counter_widths, sample_bytes, sample_words, sample_length, resource, spread}
use Rattle.samples.specs.declared.sample.Sample.{Sample}
use Rattle.samples.proofs.Spread.{at_add, at_before, below_append, spread_at, spread_below, spread_length}

pub fields_length : (w : Widths) (header source stamp user : ℕ) → length (field_bytes w header source stamp user) ≡ total (field_widths w)
unfolding field_bytes
fields_length w header source stamp user = spread_length (field_widths w) (header ∷ source ∷ stamp ∷ user ∷ []) refl

-- the bytes of a field stand after the widths of those before it: byte j of field k, counted from 0
pub at_field : (w : Widths) (header source stamp user k i j : ℕ) → j < get_or (field_widths w) k 0 → i ≡ total (take k (field_widths w)) + j → get_or (field_bytes w header source stamp user) i 0 ≡ byte_at (get_or (header ∷ source ∷ stamp ∷ user ∷ []) k 0) j
unfolding field_bytes
at_field w header source stamp user k i j h e =
    ap (λ (p : ℕ). get_or (field_bytes w header source stamp user) p 0) e
    ∙ spread_at (field_widths w) (header ∷ source ∷ stamp ∷ user ∷ []) k j refl h

pub at_none : (w : Widths) (header source stamp user i : ℕ) → total (field_widths w) ≤ i → get_or (field_bytes w header source stamp user) i 0 ≡ 0
at_none w header source stamp user i l = get_or-eq_default (field_bytes w header source stamp user) 0 (rw (fields_length w header source stamp user) l)

-- the counters of a Resource sample, and nothing of a Trace sample's
abbrev counter_part : Sample → List ℕ
counter_part s = cond (resource s.header) (counter_bytes s.counters) []

-- a sample's bytes at a place: of its fields below their number, of its counters after, and none after a Trace sample's fields
module _ (w : Widths) (s : Sample) (i : ℕ) where
  pub sample_before : i < total (field_widths w) → get_or (sample_bytes w s) i 0 ≡ get_or (field_bytes w s.header s.source s.stamp s.user) i 0
  unfolding sample_bytes
  sample_before h =
      at_before (field_bytes w s.header s.source s.stamp s.user) (counter_part s) (total (field_widths w)) i
      (fields_length w s.header s.source s.stamp s.user) h

  after : (n : ℕ) → n ≡ total (field_widths w) → n ≤ i → get_or (sample_bytes w s) i 0 ≡ get_or (counter_part s) (i - n) 0
  unfolding sample_bytes
  after n size h =
      ap (λ (j : ℕ). get_or (sample_bytes w s) j 0) (sym (add-sub_of_le h))
      ∙ at_add (field_bytes w s.header s.source s.stamp s.user) (counter_part s) n (i - n)
      (fields_length w s.header s.source s.stamp s.user ∙ sym size)

  -- n is the number of bytes of the fields
  pub sample_after : (n : ℕ) → n ≡ total (field_widths w) → n ≤ i → resource s.header ≡ true → get_or (sample_bytes w s) i 0 ≡ get_or (counter_bytes s.counters) (i - n) 0
  sample_after n size h r = after n size h ∙ ap (λ (b : Bool). get_or (cond b (counter_bytes s.counters) []) (i - n) 0) r

  pub sample_trace : total (field_widths w) ≤ i → resource s.header ≡ false → get_or (sample_bytes w s) i 0 ≡ 0
  sample_trace h r = after (total (field_widths w)) refl h ∙ ap (λ (b : Bool). get_or (cond b (counter_bytes s.counters) []) (i - total (field_widths w)) 0) r

-- a sample's bytes are bytes
pub bytes_below : (w : Widths) (s : Sample) (i : ℕ) → get_or (sample_bytes w s) i 0 < 256
unfolding sample_bytes field_bytes counter_bytes
bytes_below w s = below_append (spread (field_widths w) (s.header ∷ s.source ∷ s.stamp ∷ s.user ∷ [])) (cond (resource s.header) (spread counter_widths s.counters) []) (spread_below (field_widths w) (s.header ∷ s.source ∷ s.stamp ∷ s.user ∷ [])) (go (resource s.header))
  where
    go : (r : Bool) (i : ℕ) → get_or (cond r (spread counter_widths s.counters) []) i 0 < 256
    go true i = spread_below counter_widths s.counters i
    go false i = omega arith

-- how many bytes and words a sample has, whatever the widths
module _ (w : Widths) (s : Sample) (sixteen : length s.counters ≡ 16) where
  pub bytes_length : length (sample_bytes w s) ≡ sample_length w (resource s.header)
  unfolding sample_bytes counter_bytes
  bytes_length =
      length-append (field_bytes w s.header s.source s.stamp s.user) (counter_part s)
      ∙ ap₂ (λ (a b : ℕ). a + b) (fields_length w s.header s.source s.stamp s.user) (go (resource s.header))
    where
      go : (r : Bool) → length (cond r (counter_bytes s.counters) []) ≡ cond r (total counter_widths) 0
      go true = spread_length counter_widths s.counters sixteen
      go false = refl

  -- a word for each of them, whatever it is
  module _ (f : Bool → ℕ → ℕ) where
    pub sample_with_length : length (words_with f (sample_bytes w s)) ≡ sample_length w (resource s.header)
    sample_with_length = with_length f (sample_bytes w s) ∙ bytes_length

    pub sample_with_word : (i : ℕ) → i < sample_length w (resource s.header) → get_or (words_with f (sample_bytes w s)) i 0 ≡ f (eqb (suc i) (sample_length w (resource s.header))) (get_or (sample_bytes w s) i 0)
    sample_with_word i h = subst (λ (n : ℕ). i < n → get_or (words_with f (sample_bytes w s)) i 0 ≡ f (eqb (suc i) n) (get_or (sample_bytes w s) i 0)) bytes_length (with_at f (sample_bytes w s) i) h

  pub sample_length_lem : length (sample_words w s) ≡ sample_length w (resource s.header)
  unfolding sample_words
  sample_length_lem = ap length (words_with_lem (sample_bytes w s)) ∙ sample_with_length word_of

  -- each word is its byte's, marked where it is the last
  pub sample_word : (i : ℕ) → i < sample_length w (resource s.header) → get_or (sample_words w s) i 0 ≡ word_of (eqb (suc i) (sample_length w (resource s.header))) (get_or (sample_bytes w s) i 0)
  unfolding sample_words
  sample_word i h = ap (λ (ws : List ℕ). get_or ws i 0) (words_with_lem (sample_bytes w s)) ∙ sample_with_word word_of i h
