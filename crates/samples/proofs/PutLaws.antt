-- Laws of putting fields into a buffer, unmarked: the first one and then the others behind it, or the others first. Assumes nothing.
use Prim.Native.Nat.{ℕ, ◌+◌}
use native.Mathlib.Nat.{zero-add}
use mathlib.Core.Path.{◌≡◌, sym, ap, ap₂, ◌∙◌}
use mathlib.Core.Bool.{false, cond}
use mathlib.Core.List.{List, [], ◌∷◌, ◌++◌, map-append}
use lib.ListN.{length, length-map}
use lib.Seq.{sets}
use Rattle.words.specs.Bytes.{low_bytes}
use Rattle.words.specs.Word.{word_of}
use Rattle.words.proofs.ByteLaws.{low_length}
use Rattle.words.proofs.PutLaws.{plain, sets_append, sets_before}
use Rattle.samples.specs.Layout.{Widths, counter_bytes, field_bytes, field_widths, resource, sample_bytes, spread, total}
use Rattle.samples.specs.declared.sample.Sample.{Sample}
use Rattle.samples.proofs.SampleLaws.{fields_length}

plain_length : (n x : ℕ) → length (plain (low_bytes n x)) ≡ n
plain_length n x = length-map (low_bytes n x) (word_of false) ∙ low_length n x

module _ (l : List ℕ) (p n x : ℕ) (ns xs : List ℕ) where
  parted : plain (spread (n ∷ ns) (x ∷ xs)) ≡ plain (low_bytes n x) ++ plain (spread ns xs)
  unfolding spread
  parted = map-append (word_of false) (low_bytes n x) (spread ns xs)

  pub put_first : sets l p (plain (spread (n ∷ ns) (x ∷ xs))) ≡ sets (sets l p (plain (low_bytes n x))) (p + n) (plain (spread ns xs))
  put_first =
      ap (sets l p) parted
      ∙ sets_append l (plain (low_bytes n x)) (plain (spread ns xs)) p
      ∙ ap (λ (k : ℕ). sets (sets l p (plain (low_bytes n x))) (p + k) (plain (spread ns xs))) (plain_length n x)

  put_last : sets (sets l (p + n) (plain (spread ns xs))) p (plain (low_bytes n x)) ≡ sets l p (plain (spread (n ∷ ns) (x ∷ xs)))
  put_last =
      sets_before l (plain (low_bytes n x)) (plain (spread ns xs)) p (p + n) (ap (λ (k : ℕ). p + k) (plain_length n x))
      ∙ ap (sets l p) (sym parted)

-- the four fields of a sample, the last one first
pub put_all : (w : Widths) (header source stamp user s u : ℕ) (l a b c : List ℕ) → s ≡ w.stamp_bytes → u ≡ w.user_bytes → a ≡ sets l (5 + s) (plain (low_bytes u user)) → b ≡ sets a 5 (plain (low_bytes s stamp)) → c ≡ sets b 1 (plain (low_bytes 4 source)) → sets c 0 (plain (low_bytes 1 header)) ≡ sets l 0 (plain (field_bytes w header source stamp user))
unfolding field_bytes spread
put_all w header source stamp user s u l a b c es eu ea eb ec =
    let last : a ≡ sets l (5 + s) (plain (spread (u ∷ []) (user ∷ []))) = ea ∙ put_last l (5 + s) u user [] [] in
    let two : b ≡ sets l 5 (plain (spread (s ∷ u ∷ []) (stamp ∷ user ∷ []))) =
    eb ∙ ap (λ (m : List ℕ). sets m 5 (plain (low_bytes s stamp))) last ∙ put_last l 5 s stamp (u ∷ []) (user ∷ []) in
    let three : c ≡ sets l 1 (plain (spread (4 ∷ s ∷ u ∷ []) (source ∷ stamp ∷ user ∷ []))) =
    ec ∙ ap (λ (m : List ℕ). sets m 1 (plain (low_bytes 4 source))) two ∙ put_last l 1 4 source (s ∷ u ∷ []) (stamp ∷ user ∷ []) in
    ap (λ (m : List ℕ). sets m 0 (plain (low_bytes 1 header))) three
    ∙ put_last l 0 1 header (4 ∷ s ∷ u ∷ []) (source ∷ stamp ∷ user ∷ [])
    ∙ ap₂ (λ (i j : ℕ). sets l 0 (plain (spread (1 ∷ 4 ∷ i ∷ j ∷ []) (header ∷ source ∷ stamp ∷ user ∷ [])))) es eu

-- and a Resource sample's counters behind them; n is the number of bytes of the fields
pub put_rest : (w : Widths) (s : Sample) (l : List ℕ) (n : ℕ) → n ≡ total (field_widths w) → sets (sets l 0 (plain (field_bytes w s.header s.source s.stamp s.user))) n (plain (cond (resource s.header) (counter_bytes s.counters) [])) ≡ sets l 0 (plain (sample_bytes w s))
unfolding sample_bytes
put_rest w s l n e =
    let fields = field_bytes w s.header s.source s.stamp s.user in
    let rest = cond (resource s.header) (counter_bytes s.counters) [] in
    let size : n ≡ 0 + length (plain fields) = e ∙ sym (zero-add _ ∙ length-map fields (word_of false) ∙ fields_length w s.header s.source s.stamp s.user) in
    ap (λ (k : ℕ). sets (sets l 0 (plain fields)) k (plain rest)) size
    ∙ sym (sets_append l (plain fields) (plain rest) 0)
    ∙ ap (sets l 0) (sym (map-append (word_of false) fields rest))
