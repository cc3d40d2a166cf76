-- Laws of the samples taken and the words sent: which are held, and how many words of the first of those are sent, by induction on the
-- samples; a sample with sixteen counters has as many words as its length says. Assumes nothing.
use Prim.Native.Nat.{ℕ, ◌+◌, ◌-◌, ◌*◌, ◌≤◌, ◌<◌}
use native.Mathlib.Nat.{add-sub_of_le, not-suc-le-zero, add_assoc, suc-mul}
use native.Mathlib.Omega.{arith}
use mathlib.Core.Path.{◌≡◌, refl, sym, ap, ap₂, ◌∙◌, subst}
use mathlib.Core.Bool.{Bool, true, false, cond}
use mathlib.Core.List.{List, [], ◌∷◌, ◌++◌, append_assoc, append-nil}
use lib.Dec.{leb}
use lib.ListN.{length, drop, length-append, length-drop}
use lib.Seq.{drop-append-add}
use borrow.Author.Tests.{le-leb, lt-leb, leb-true, leb-false}
use Rattle.samples.specs.Layout.{resource, sample_length, sample_words, widths}
use Rattle.samples.specs.declared.edition.Edition.{Edition}
use Rattle.samples.specs.declared.edition.Edition.TheVariants.{First, Second}
use Rattle.samples.specs.declared.sample.Sample.{Sample}
use Rattle.samples.proofs.SampleLaws.{sample_length_lem}
use Rattle.history.specs.Stream.{Every, held_of, length_of, total_of, unsent_of, words_of_all}

-- a sample with sixteen counters, and samples of which each has
abbrev pub HasSixteen : Sample → Type 0
HasSixteen s = length s.counters ≡ 16

abbrev pub Sixteen : List Sample → Type 0
Sixteen ss = Every HasSixteen ss

-- one sample more
pub every_more : (P : Sample → Type 0) (ss : List Sample) (s : Sample) → Every P ss → P s → Every P (ss ++ (s ∷ []))
every_more P [] s h e = (e, tt)
every_more P (t ∷ ss) s h e = (h.0, every_more P ss s h.1 e)

-- whatever the lengths, the first sample is not wholly sent and nothing behind it, or it is
module _ {A : Type 0} (len : A → ℕ) (s : A) (ss : List A) (n : ℕ) where
  pub unsent_here : n < len s → unsent_of len (s ∷ ss) n ≡ s ∷ ss
  unfolding unsent_of
  unsent_here h = ap (λ (b : Bool). cond b (unsent_of len ss (n - len s)) (s ∷ ss)) (lt-leb (len s) n h)

  pub unsent_past : len s ≤ n → unsent_of len (s ∷ ss) n ≡ unsent_of len ss (n - len s)
  unfolding unsent_of
  unsent_past h = ap (λ (b : Bool). cond b (unsent_of len ss (n - len s)) (s ∷ ss)) (le-leb (len s) n h)

-- how many words of the first held sample are among the n sent
unfoldable pub offset_of : Edition → List Sample → ℕ → ℕ
offset_of ed [] n = n
offset_of ed (s ∷ ss) n = cond (leb (length_of ed s) n) (offset_of ed ss (n - length_of ed s)) n

-- a first held sample, and one word more either stays in it or ends it
pub record Next (ed : Edition) (ss : List Sample) (n : ℕ) : Type 0 where
  pub first : Sample
  pub rest : List Sample
  pub is : held_of ed ss n ≡ first ∷ rest
  pub unsent : offset_of ed ss n < length_of ed first
  pub stays : offset_of ed ss n + 1 < length_of ed first → (held_of ed ss (n + 1) ≡ first ∷ rest) × (offset_of ed ss (n + 1) ≡ offset_of ed ss n + 1)
  pub ends : length_of ed first ≤ offset_of ed ss n + 1 → (held_of ed ss (n + 1) ≡ rest) × (offset_of ed ss (n + 1) ≡ 0)

module _ (ed : Edition) where
  -- the layout's length
  pub layout_length : (s : Sample) → sample_length (widths ed) (resource s.header) ≡ length_of ed s
  layout_length s = go ed (resource s.header) refl
    where
      go : (d : Edition) (r : Bool) → resource s.header ≡ r → sample_length (widths d) (resource s.header) ≡ length_of d s
      go First true e = rw e
      go First false e = rw e
      go Second true e = rw e
      go Second false e = rw e

  -- so every sample has words, and this many
  pub some_words : (s : Sample) → 0 < length_of ed s
  some_words s = subst (λ (n : ℕ). 0 < n) (layout_length s) (omega arith)

  pub words_length : (s : Sample) → length s.counters ≡ 16 → length (sample_words (widths ed) s) ≡ length_of ed s
  words_length s e = sample_length_lem (widths ed) s e ∙ layout_length s

  -- as many words as the lengths say
  pub words_total : (ss : List Sample) → Sixteen ss → length (words_of_all ed ss) ≡ total_of ed ss
  unfolding words_of_all total_of
  words_total [] h = refl
  words_total (s ∷ ss) h =
      length-append (sample_words (widths ed) s) (words_of_all ed ss) ∙ ap₂ (λ (a b : ℕ). a + b) (words_length s h.0) (words_total ss h.1)

  -- and as many are left as are not sent
  pub words_left : (ss : List Sample) (n : ℕ) → Sixteen ss → length (drop n (words_of_all ed ss)) ≡ total_of ed ss - n
  words_left ss n h = length-drop n (words_of_all ed ss) ∙ ap (λ (m : ℕ). m - n) (words_total ss h)

  pub words_more : (ss : List Sample) (s : Sample) → words_of_all ed (ss ++ (s ∷ [])) ≡ words_of_all ed ss ++ sample_words (widths ed) s
  unfolding words_of_all
  words_more [] s = append-nil (sample_words (widths ed) s)
  words_more (t ∷ ss) s = ap (λ (l : List ℕ). sample_words (widths ed) t ++ l) (words_more ss s) ∙ sym (append_assoc (sample_words (widths ed) t) (words_of_all ed ss) (sample_words (widths ed) s))

  pub total_more : (ss : List Sample) (s : Sample) → total_of ed (ss ++ (s ∷ [])) ≡ total_of ed ss + length_of ed s
  unfolding total_of
  total_more [] s = omega arith
  total_more (t ∷ ss) s = ap (λ (n : ℕ). length_of ed t + n) (total_more ss s) ∙ sym (add_assoc (length_of ed t) (total_of ed ss) (length_of ed s))

  -- the first sample is the one being sent, or it is wholly sent
  module _ (s : Sample) (ss : List Sample) (n : ℕ) where
    pub held_here : n < length_of ed s → (held_of ed (s ∷ ss) n ≡ s ∷ ss) × (offset_of ed (s ∷ ss) n ≡ n)
    unfolding offset_of
    held_here h =
        (unsent_here (length_of ed) s ss n h, ap (λ (b : Bool). cond b (offset_of ed ss (n - length_of ed s)) n) (lt-leb (length_of ed s) n h))

    pub held_past : length_of ed s ≤ n → (held_of ed (s ∷ ss) n ≡ held_of ed ss (n - length_of ed s)) × (offset_of ed (s ∷ ss) n ≡ offset_of ed ss (n - length_of ed s))
    unfolding offset_of
    held_past h =
        (unsent_past (length_of ed) s ss n h, ap (λ (b : Bool). cond b (offset_of ed ss (n - length_of ed s)) n) (le-leb (length_of ed s) n h))

  pub held_none_sent : (ss : List Sample) → (held_of ed ss 0 ≡ ss) × (offset_of ed ss 0 ≡ 0)
  unfolding unsent_of offset_of
  held_none_sent [] = (refl, refl)
  held_none_sent (s ∷ ss) = held_here s ss 0 (some_words s)

  -- what is left of all the words is what is left of the held samples' words
  pub drop_held : (ss : List Sample) (n : ℕ) → Sixteen ss → drop n (words_of_all ed ss) ≡ drop (offset_of ed ss n) (words_of_all ed (held_of ed ss n))
  unfolding words_of_all unsent_of offset_of
  drop_held [] n h = refl
  drop_held (s ∷ ss) n h = go (leb (length_of ed s) n) refl (drop_held ss (n - length_of ed s) h.1)
    where
      go : (b : Bool) → leb (length_of ed s) n ≡ b → drop (n - length_of ed s) (words_of_all ed ss) ≡ drop (offset_of ed ss (n - length_of ed s)) (words_of_all ed (held_of ed ss (n - length_of ed s))) → drop n (words_of_all ed (s ∷ ss)) ≡ drop (cond b (offset_of ed ss (n - length_of ed s)) n) (words_of_all ed (cond b (held_of ed ss (n - length_of ed s)) (s ∷ ss)))
      go true e ih =
          let long : length (sample_words (widths ed) s) ≡ length_of ed s = words_length s h.0 in
          let split : n ≡ length (sample_words (widths ed) s) + (n - length_of ed s) = sym (add-sub_of_le (leb-true (length_of ed s) n e)) ∙ ap (λ (m : ℕ). m + (n - length_of ed s)) (sym long) in
          ap (λ (m : ℕ). drop m (sample_words (widths ed) s ++ words_of_all ed ss)) split ∙ drop-append-add (sample_words (widths ed) s) (words_of_all ed ss) (n - length_of ed s) ∙ ih
      go false e ih = refl

  -- one sample more is held behind the others
  pub held_push : (ss : List Sample) (s : Sample) (n : ℕ) → n ≤ total_of ed ss → (held_of ed (ss ++ (s ∷ [])) n ≡ held_of ed ss n ++ (s ∷ [])) × (offset_of ed (ss ++ (s ∷ [])) n ≡ offset_of ed ss n)
  unfolding total_of unsent_of offset_of
  held_push [] s n h =
      let none : n ≡ 0 = omega arith in
      let here = held_here s [] n (subst (λ (k : ℕ). k < length_of ed s) (sym none) (some_words s)) in
      (here.0, here.1)
  held_push (t ∷ ss) s n h = go (leb (length_of ed t) n) refl (λ k. held_push ss s (n - length_of ed t) k)
    where
      go : (b : Bool) → leb (length_of ed t) n ≡ b → (n - length_of ed t ≤ total_of ed ss → (held_of ed (ss ++ (s ∷ [])) (n - length_of ed t) ≡ held_of ed ss (n - length_of ed t) ++ (s ∷ [])) × (offset_of ed (ss ++ (s ∷ [])) (n - length_of ed t) ≡ offset_of ed ss (n - length_of ed t))) → (cond b (held_of ed (ss ++ (s ∷ [])) (n - length_of ed t)) (t ∷ (ss ++ (s ∷ []))) ≡ cond b (held_of ed ss (n - length_of ed t)) (t ∷ ss) ++ (s ∷ [])) × (cond b (offset_of ed (ss ++ (s ∷ [])) (n - length_of ed t)) n ≡ cond b (offset_of ed ss (n - length_of ed t)) n)
      go true e ih = ih (omega arith)
      go false e ih = (refl, refl)

  -- nothing is held once all words are sent
  pub held_none : (ss : List Sample) (n : ℕ) → total_of ed ss ≤ n → held_of ed ss n ≡ []
  unfolding total_of unsent_of
  held_none [] n h = refl
  held_none (s ∷ ss) n h = (held_past s ss n (omega arith)).0 ∙ held_none ss (n - length_of ed s) (omega arith)

  -- where not all words are sent there is a next one
  pub next_word_lem : (ss : List Sample) (n : ℕ) → n < total_of ed ss → Next ed ss n
  unfolding total_of
  next_word_lem [] n h = absurd (not-suc-le-zero h)
  next_word_lem (s ∷ ss) n h = go (leb (length_of ed s) n) refl (λ k. next_word_lem ss (n - length_of ed s) k)
    where
      go : (b : Bool) → leb (length_of ed s) n ≡ b → (n - length_of ed s < total_of ed ss → Next ed ss (n - length_of ed s)) → Next ed (s ∷ ss) n
      go true e ih =
          let past : length_of ed s ≤ n = leb-true (length_of ed s) n e in
          let x : Next ed ss (n - length_of ed s) = ih (omega arith) in
          let now = held_past s ss n past in
          let then = held_past s ss (n + 1) (omega arith) in
          let one : n + 1 - length_of ed s ≡ n - length_of ed s + 1 = omega arith in
          record {
            first = x.first;
            rest = x.rest;
            is = now.0 ∙ x.is;
            unsent = subst (λ (o : ℕ). o < length_of ed x.first) (sym now.1) x.unsent;
            stays =
                λ k.
                let y = x.stays (subst (λ (o : ℕ). o + 1 < length_of ed x.first) now.1 k) in
                (then.0 ∙ ap (held_of ed ss) one ∙ y.0, then.1 ∙ ap (offset_of ed ss) one ∙ y.1 ∙ ap (λ (o : ℕ). o + 1) (sym now.1));
            ends =
                λ k.
                let y = x.ends (subst (λ (o : ℕ). length_of ed x.first ≤ o + 1) now.1 k) in
                (then.0 ∙ ap (held_of ed ss) one ∙ y.0, then.1 ∙ ap (offset_of ed ss) one ∙ y.1);
          }
      go false e ih =
          let here : n < length_of ed s = leb-false (length_of ed s) n e in
          let now = held_here s ss n here in
          record {
            first = s;
            rest = ss;
            is = now.0;
            unsent = subst (λ (o : ℕ). o < length_of ed s) (sym now.1) here;
            stays =
                λ k.
                let then = held_here s ss (n + 1) (subst (λ (o : ℕ). o + 1 < length_of ed s) now.1 k) in
                (then.0, then.1 ∙ ap (λ (o : ℕ). o + 1) (sym now.1));
            ends =
                λ k.
                let last : length_of ed s ≤ n + 1 = subst (λ (o : ℕ). length_of ed s ≤ o + 1) now.1 k in
                let then = held_past s ss (n + 1) last in
                let zero_left : n + 1 - length_of ed s ≡ 0 = omega arith in
                let none = held_none_sent ss in
                (then.0 ∙ ap (held_of ed ss) zero_left ∙ none.0, then.1 ∙ ap (offset_of ed ss) zero_left ∙ none.1);
          }

  -- with all words sent, none of a first sample's are
  pub offset_all : (ss : List Sample) (n : ℕ) → n ≡ total_of ed ss → offset_of ed ss n ≡ 0
  unfolding total_of offset_of
  offset_all [] n e = e
  offset_all (s ∷ ss) n e = (held_past s ss n (omega arith)).1 ∙ offset_all ss (n - length_of ed s) (omega arith)

  -- the held samples are among those taken
  pub sixteen_held : (ss : List Sample) (n : ℕ) → Sixteen ss → Sixteen (held_of ed ss n)
  unfolding unsent_of
  sixteen_held [] n h = tt
  sixteen_held (s ∷ ss) n h = go (leb (length_of ed s) n) (sixteen_held ss (n - length_of ed s) h.1)
    where
      go : (b : Bool) → Sixteen (held_of ed ss (n - length_of ed s)) → Sixteen (cond b (held_of ed ss (n - length_of ed s)) (s ∷ ss))
      go true k = k
      go false k = h

  -- no sample is longer than a Resource sample, so neither are the words that are left of those held
  longest : (s : Sample) → length_of ed s ≤ sample_length (widths ed) true
  longest s = subst (λ (n : ℕ). n ≤ sample_length (widths ed) true) (layout_length s) (go (resource s.header))
    where
      go : (r : Bool) → sample_length (widths ed) r ≤ sample_length (widths ed) true
      go true = omega arith
      go false = omega arith

  total_bound : (ss : List Sample) → total_of ed ss ≤ length ss * sample_length (widths ed) true
  unfolding total_of
  total_bound [] = omega arith
  total_bound (s ∷ ss) = rw suc-mul (omega (arith, longest s, total_bound ss))

  pub left_bound : (ss : List Sample) (n : ℕ) → total_of ed ss - n ≤ length (held_of ed ss n) * sample_length (widths ed) true
  unfolding total_of unsent_of
  left_bound [] n = omega arith
  left_bound (s ∷ ss) n = go (leb (length_of ed s) n) refl (left_bound ss (n - length_of ed s))
    where
      go : (b : Bool) → leb (length_of ed s) n ≡ b → total_of ed ss - (n - length_of ed s) ≤ length (held_of ed ss (n - length_of ed s)) * sample_length (widths ed) true → length_of ed s + total_of ed ss - n ≤ length (cond b (held_of ed ss (n - length_of ed s)) (s ∷ ss)) * sample_length (widths ed) true
      go true e ih = omega (arith, leb-true (length_of ed s) n e)
      go false e ih = rw suc-mul (omega (arith, longest s, total_bound ss))
