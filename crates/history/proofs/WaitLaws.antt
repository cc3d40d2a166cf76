-- Wish 8's law: after so many words a trigger has room, whatever the lengths of samples, the places and the Resource samples that may be held; and no
-- fewer are enough. One law for both kinds of trigger: any test of samples, where those that pass it have at most b words and the others at most a.
-- By induction on the samples. Assumes that no more than n samples, r Resource samples among them, are held to begin with, 1 ≤ r ≤ n, and a ≤ b.
use Prim.Native.Nat.{ℕ, zero, suc, ◌+◌, ◌-◌, ◌*◌, ◌≤◌, ◌<◌}
use native.Mathlib.Nat.{add-mul, le_of_eq, le_trans, mul-le-mul_right, not-suc-le-zero, sub_self, suc-mul, zero-add, zero-mul}
use native.Mathlib.Omega.{arith}
use mathlib.Core.Path.{◌≡◌, refl, sym, ap, ap₂, ◌∙◌, subst}
use mathlib.Core.Bool.{Bool, true, false, cond, not, ◌&&◌, ◌||◌}
use mathlib.Core.List.{List, [], ◌∷◌, ◌++◌}
use lib.Dec.{eqb, leb}
use lib.ListN.{length, replicate, length-append, length-replicate}
use borrow.Author.Tests.{eqb-true, eqb-false, le-leb, lt-leb, leb-true, leb-false}
use Rattle.samples.specs.Layout.{resource, sample_length, widths}
use Rattle.samples.specs.declared.edition.Edition.{Edition}
use Rattle.samples.specs.declared.edition.Edition.TheVariants.{First, Second}
use Rattle.samples.specs.declared.sample.Sample.{Sample}
use Rattle.chip.proofs.ChipLaws.{either}
use Rattle.history.specs.Stream.{any_held, held_of, is_blocked, is_full, length_of, total_of, unsent_of}
use Rattle.history.specs.Waiting.{Fits, count_of, enough, kind_of, lacks_at, slowest, within}
use Rattle.history.proofs.HeldLaws.{held_push, layout_length, total_more, unsent_here, unsent_past}
use Rattle.history.proofs.Triggers.{or_left, or_right, or_true}

-- ---- counting

-- all of some
pub count_all : {A : Type 0} (ss : List A) → count_of (λ s. true) ss ≡ length ss
unfolding count_of
count_all [] = refl
count_all (s ∷ ss) = let h = count_all ss in omega arith

-- those that pass a test and those that don't
count_both : {A : Type 0} (f : A → Bool) (ss : List A) → count_of (λ s. not (f s)) ss + count_of f ss ≡ length ss
unfolding count_of
count_both f [] = refl
count_both f (s ∷ ss) = go (f s) (count_both f ss)
  where
    go : (b : Bool) → count_of (λ x. not (f x)) ss + count_of f ss ≡ length ss → cond (not b) 1 0 + count_of (λ x. not (f x)) ss + (cond b 1 0 + count_of f ss) ≡ suc (length ss)
    go true e = omega arith
    go false e = omega arith

-- one list behind another
pub count_append : {A : Type 0} (f : A → Bool) (ss ts : List A) → count_of f (ss ++ ts) ≡ count_of f ss + count_of f ts
unfolding count_of
count_append f [] ts = omega arith
count_append f (s ∷ ss) ts = let h = count_append f ss ts in omega arith

-- ---- what is unsent after more words

module _ {A : Type 0} (len : A → ℕ) where
  -- after n words and then m, the same samples are unsent as after some k words, m or more, of those that were unsent after n: what is so of these for
  -- each such k is so
  pub unsent_again : (P : List A → Type 0) (ss : List A) (n m : ℕ) → ((k : ℕ) → m ≤ k → P (unsent_of len (unsent_of len ss n) k)) → P (unsent_of len ss (n + m))
  unfolding unsent_of
  unsent_again P [] n m h = h m (omega arith)
  unsent_again P (s ∷ ss) n m h = go (leb (len s) n) refl (unsent_again P ss (n - len s) m) h
    where
      go : (b : Bool) → leb (len s) n ≡ b → (((k : ℕ) → m ≤ k → P (unsent_of len (unsent_of len ss (n - len s)) k)) → P (unsent_of len ss (n - len s + m))) → ((k : ℕ) → m ≤ k → P (unsent_of len (cond b (unsent_of len ss (n - len s)) (s ∷ ss)) k)) → P (unsent_of len (s ∷ ss) (n + m))
      go true e ih p =
          let past : len s ≤ n = leb-true (len s) n e in
          let same : n - len s + m ≡ n + m - len s = omega arith in
          subst P (ap (unsent_of len ss) same ∙ sym (unsent_past len s ss (n + m) (omega arith))) (ih p)
      go false e ih p = p (n + m) (omega arith)

  module _ (f : A → Bool) where
    -- no more are unsent than there are, nor after more words
    unsent_fewer : (ss : List A) (n : ℕ) → count_of f (unsent_of len ss n) ≤ count_of f ss
    unfolding count_of unsent_of
    unsent_fewer [] n = omega arith
    unsent_fewer (s ∷ ss) n = go (leb (len s) n) (unsent_fewer ss (n - len s))
      where
        go : (b : Bool) → count_of f (unsent_of len ss (n - len s)) ≤ count_of f ss → count_of f (cond b (unsent_of len ss (n - len s)) (s ∷ ss)) ≤ count_of f (s ∷ ss)
        go true h = omega arith
        go false h = omega arith

    pub more_fewer : (ss : List A) (n m : ℕ) → count_of f (unsent_of len ss (n + m)) ≤ count_of f (unsent_of len ss n)
    more_fewer ss n m = unsent_again (λ x. count_of f x ≤ count_of f (unsent_of len ss n)) ss n m (λ k h. unsent_fewer (unsent_of len ss n) k)

    -- those that pass a test have at most b words and the others at most a
    module _ (a b : ℕ) (short : (s : A) → len s ≤ cond (f s) b a) where
      -- the words of all others and of one that passes, and one fewer of these is left
      one_fewer : (ss : List A) (k : ℕ) → count_of (λ s. not (f s)) ss * a + b ≤ k → count_of f (unsent_of len ss k) ≤ count_of f ss - 1
      unfolding count_of unsent_of
      one_fewer [] k h = omega arith
      one_fewer (s ∷ ss) k h = go (f s) h (short s) (one_fewer ss (k - len s))
        where
          go : (t : Bool) → (cond (not t) 1 0 + count_of (λ x. not (f x)) ss) * a + b ≤ k → len s ≤ cond t b a → (count_of (λ x. not (f x)) ss * a + b ≤ k - len s → count_of f (unsent_of len ss (k - len s)) ≤ count_of f ss - 1) → count_of f (unsent_of len (s ∷ ss) k) ≤ cond t 1 0 + count_of f ss - 1
          go true p q ih =
              subst (λ (x : List A). count_of f x ≤ 1 + count_of f ss - 1) (sym (unsent_past len s ss k (omega arith))) (omega (arith, unsent_fewer ss (k - len s)))
          go false p q ih =
              let others : ℕ = count_of (λ x. not (f x)) ss in
              let one_more : (1 + others) * a ≡ 1 * a + others * a = add-mul 1 others a in
              subst (λ (x : List A). count_of f x ≤ 0 + count_of f ss - 1) (sym (unsent_past len s ss k (omega arith))) (omega (arith, ih (omega arith)))

      -- n are unsent at most, and r of them pass: after the words of all others and of one that passes, fewer than r do
      module _ (n r : ℕ) (some : 0 < r) where
        all_fewer : (ss : List A) (k : ℕ) → length ss ≤ n → count_of f ss ≤ r → (n - r) * a + b ≤ k → count_of f (unsent_of len ss k) < r
        all_fewer ss k long few h = go (eqb (count_of f ss) r) refl
          where
            go : (t : Bool) → eqb (count_of f ss) r ≡ t → count_of f (unsent_of len ss k) < r
            go true e =
                let is : count_of f ss ≡ r = eqb-true (count_of f ss) r e in
                let others : count_of (λ s. not (f s)) ss ≤ n - r = omega (arith, count_both f ss) in
                omega (arith, one_fewer ss k (omega (arith, mul-le-mul_right a others)))
            go false e = let less : count_of f ss ≡ r → ⊥ = eqb-false (count_of f ss) r e in omega (arith, unsent_fewer ss k)

        pub fewer_after : (ss : List A) (sent k : ℕ) → length (unsent_of len ss sent) ≤ n → count_of f (unsent_of len ss sent) ≤ r → (n - r) * a + b ≤ k → count_of f (unsent_of len ss (sent + k)) < r
        fewer_after ss sent k long few h =
            unsent_again (λ x. count_of f x < r) ss sent k (λ j more. all_fewer (unsent_of len ss sent) j long few (omega arith))

-- ---- the law

module _ {A : Type 0} (f : A → Bool) (len : A → ℕ) (a b : ℕ) (is : (s : A) → len s ≡ cond (f s) b a) (more : a ≤ b) (n r : ℕ) (one : 1 ≤ r) (fits : r ≤ n) (ss : List A) (sent k : ℕ) (long : length (unsent_of len ss sent) ≤ n) (few : count_of f (unsent_of len ss sent) ≤ r) where
  -- a place is free after the words of the longest sample, whichever sample that is
  place_after : b ≤ k → length (unsent_of len ss (sent + k)) < n
  place_after h =
      let none : (n - n) * a ≡ 0 = ap (λ (x : ℕ). x * a) (sub_self n) ∙ zero-mul a in
      subst (λ (x : ℕ). x < n) (count_all (unsent_of len ss (sent + k)))
      (fewer_after len (λ s. true) a b longest n n (omega arith) ss sent k long (subst (λ (x : ℕ). x ≤ n) (sym (count_all (unsent_of len ss sent))) long) (omega arith))
    where
      longest : (s : A) → len s ≤ b
      longest s = subst (λ (x : ℕ). x ≤ b) (sym (is s)) (either (λ x. x ≤ b) (f s) b a (omega arith) more)

  -- "A Trace trigger is taken at the latest after 80 words have been sent, a Resource trigger after 192 words", for any numbers
  pub room_after : (resource : Bool) → within n r a b resource ≤ k → lacks_at f n r resource (unsent_of len ss (sent + k)) ≡ false
  room_after true h =
      ap₂ (λ (x y : Bool). x || y) (lt-leb n _ (omega (arith, place_after (omega arith))))
      (lt-leb r _ (fewer_after len f a b (λ s. le_of_eq (is s)) n r one ss sent k long few (omega arith)))
  room_after false h = ap (λ (x : Bool). x || false) (lt-leb n _ (omega (arith, place_after (omega arith))))

-- ---- no fewer words are enough

-- as many of one kind
count_alike : (kind : Bool) (t : ℕ) → count_of (λ k. k) (replicate t kind) ≡ cond kind t 0
unfolding count_of
count_alike true zero = refl
count_alike true (suc t) = let h = count_alike true t in omega arith
count_alike false zero = refl
count_alike false (suc t) = let h = count_alike false t in omega arith

-- n held leave no room, and r Resource samples held leave none for a Resource trigger
module _ (n r : ℕ) (resource : Bool) (hs : List Bool) where
  no_place : length hs ≡ n → lacks_at (λ k. k) n r resource hs ≡ true
  no_place e = ap (λ (b : Bool). b || (resource && leb r (count_of (λ k. k) hs))) (le-leb n (length hs) (omega arith))

  no_set : resource ≡ true → count_of (λ k. k) hs ≡ r → lacks_at (λ k. k) n r resource hs ≡ true
  no_set is e =
      ap₂ (λ (x y : Bool). leb n (length hs) || (x && y)) is (le-leb r (count_of (λ k. k) hs) (omega arith)) ∙ or_true (leb n (length hs))

-- a and b are the lengths of the two kinds, and yes is a Resource sample
module _ (n r a b : ℕ) (one : 1 ≤ r) (fits : r ≤ n) (some : 0 < b) where
  abbrev len : Bool → ℕ
  len k = cond k b a

  -- the words of some Trace samples
  skip : (t m : ℕ) (rest : List Bool) → unsent_of len (replicate t false ++ rest) (t * a + m) ≡ unsent_of len rest m
  skip zero m rest = ap (unsent_of len rest) (ap (λ (x : ℕ). x + m) (zero-mul a) ∙ zero-add m)
  skip (suc t) m rest =
      let more : suc t * a ≡ t * a + a = suc-mul t a in
      let less : suc t * a + m - a ≡ t * a + m = omega arith in
      unsent_past len false (replicate t false ++ rest) (suc t * a + m) (omega arith) ∙ ap (unsent_of len (replicate t false ++ rest)) less ∙ skip t m rest

  -- the samples that need all the words can be held: they fill the places, and no more than r of them are Resource samples
  pub slowest_held : (resource : Bool) → (length (slowest n r resource) ≡ n) × (count_of (λ k. k) (slowest n r resource) ≤ r)
  unfolding count_of
  slowest_held true =
      let trace : List Bool = replicate (n - r) false in
      let others : List Bool = replicate r true in
      (omega (arith, length-append trace others, length-replicate (n - r) false, length-replicate r true), omega (arith, count_append (λ k. k) trace others, count_alike false (n - r), count_alike true r))
  slowest_held false = (omega (arith, length-replicate (n - 1) false), omega (arith, count_alike false (n - 1)))

  -- and with one word fewer than the law has, the trigger lacks room
  pub all_needed : (resource : Bool) → lacks_at (λ k. k) n r resource (unsent_of len (slowest n r resource) (within n r a b resource - 1)) ≡ true
  unfolding unsent_of
  all_needed true =
      let last : (n - r) * a + b - 1 ≡ (n - r) * a + (b - 1) = omega arith in
      subst (λ (hs : List Bool). lacks_at (λ k. k) n r true hs ≡ true)
      (sym (ap (unsent_of len (slowest n r true)) last ∙ skip (n - r) (b - 1) (replicate r true) ∙ stay r))
      (no_set n r true (replicate r true) refl (count_alike true r))
    where
      -- none of some Resource samples is sent wholly
      stay : (t : ℕ) → unsent_of len (replicate t true) (b - 1) ≡ replicate t true
      stay zero = refl
      stay (suc t) = unsent_here len true (replicate t true) (b - 1) (omega arith)
  all_needed false =
      subst (λ (hs : List Bool). lacks_at (λ k. k) n r false hs ≡ true) (sym (unsent_here len true (replicate (n - 1) false) (b - 1) (omega arith)))
      (no_place n r false (slowest n r false) (slowest_held false).0)

-- where a Trace sample is the longer one, the law is false for a Trace trigger: n Trace samples leave no room after b words
pub longer_trace : (n r a b : ℕ) → 1 ≤ n → b < a → lacks_at (λ k. k) n r false (unsent_of (λ k. cond k b a) (replicate n false) (within n r a b false)) ≡ true
longer_trace zero r a b h more = absurd (not-suc-le-zero h)
longer_trace (suc n) r a b h more =
    subst (λ (hs : List Bool). lacks_at (λ k. k) (suc n) r false hs ≡ true) (sym (unsent_here (λ k. cond k b a) false (replicate n false) b more))
    (no_place (suc n) r false (replicate (suc n) false) (length-replicate (suc n) false))

-- ---- the same over the edition

-- whether any Resource sample is held, and whether one or more are
any_count : (ss : List Sample) → leb 1 (count_of kind_of ss) ≡ any_held ss
unfolding any_held count_of
any_count [] = refl
any_count (s ∷ ss) = go (kind_of s) (any_count ss)
  where
    go : (b : Bool) → leb 1 (count_of kind_of ss) ≡ any_held ss → leb 1 (cond b 1 0 + count_of kind_of ss) ≡ (b || any_held ss)
    go true e = le-leb 1 (1 + count_of kind_of ss) (omega arith)
    go false e = ap (leb 1) (zero-add (count_of kind_of ss)) ∙ e

-- with eight places, and one Resource sample that may be held, it is document 01's rule
pub lacks_said : (resource : Bool) (held : List Sample) → lacks_at kind_of 8 1 resource held ≡ (is_full held || is_blocked resource held)
lacks_said resource held = ap (λ (b : Bool). is_full held || (resource && b)) (any_count held)

module _ (ed : Edition) (n r : ℕ) where
  -- the law for samples of an edition
  pub stream_room : 1 ≤ r → r ≤ n → (taken : List Sample) (sent k : ℕ) → Fits ed n r taken sent → (resource : Bool) → within n r (sample_length (widths ed) false) (sample_length (widths ed) true) resource ≤ k → lacks_at kind_of n r resource (held_of ed taken (sent + k)) ≡ false
  stream_room one fits taken sent k h =
      room_after kind_of (length_of ed) (sample_length (widths ed) false) (sample_length (widths ed) true)
      (λ s. sym (layout_length ed s) ∙ by_kind_lem (kind_of s)) (omega arith) n r one fits taken sent k h.0 h.1.0
    where
      by_kind_lem : (b : Bool) → sample_length (widths ed) b ≡ cond b (sample_length (widths ed) true) (sample_length (widths ed) false)
      by_kind_lem true = refl
      by_kind_lem false = refl

  -- the places fit to begin with, after a sample that found room, and after more words
  pub fits_none : Fits ed n r [] 0
  unfolding count_of unsent_of total_of
  fits_none = (omega arith, (omega arith, omega arith))

  pub fits_taken : (taken : List Sample) (sent : ℕ) (s : Sample) → Fits ed n r taken sent → lacks_at kind_of n r (kind_of s) (held_of ed taken sent) ≡ false → Fits ed n r (taken ++ (s ∷ [])) sent
  unfolding count_of
  fits_taken taken sent s h room =
      let held : List Sample = held_of ed taken sent in
      let behind : held_of ed (taken ++ (s ∷ [])) sent ≡ held ++ (s ∷ []) = (held_push ed taken s sent h.1.1).0 in
      let places : length held < n = leb-false n (length held) (or_left (leb n (length held)) _ room) in
      let sets : count_of kind_of held + cond (kind_of s) 1 0 ≤ r = go (kind_of s) (or_right (leb n (length held)) _ room) in
      (omega (arith, ap length behind, length-append held (s ∷ [])), (omega (arith, ap (count_of kind_of) behind, count_append kind_of held (s ∷ [])), omega (arith, h.1.1, total_more ed taken s)))
    where
      go : (b : Bool) → (b && leb r (count_of kind_of (held_of ed taken sent))) ≡ false → count_of kind_of (held_of ed taken sent) + cond b 1 0 ≤ r
      go true e = omega (arith, leb-false r (count_of kind_of (held_of ed taken sent)) e)
      go false e = omega (arith, h.1.0)

  pub fits_sent : (taken : List Sample) (sent m : ℕ) → Fits ed n r taken sent → sent + m ≤ total_of ed taken → Fits ed n r taken (sent + m)
  fits_sent taken sent m h most =
      let fewer : (f : Sample → Bool) → count_of f (held_of ed taken (sent + m)) ≤ count_of f (held_of ed taken sent) = λ f. more_fewer (length_of ed) f taken sent m in
      (omega (arith, h.0, fewer (λ s. true), count_all (held_of ed taken (sent + m)), count_all (held_of ed taken sent)), (le_trans (fewer kind_of) h.1.0, most))

-- Wish 8's numbers for this chip, Wish 9's for the MultiKron II, and Wish 11's for two shadow sets on each
pub law_numbers : let w : Edition → ℕ → Bool → ℕ = λ ed r resource. within 8 r (sample_length (widths ed) false) (sample_length (widths ed) true) resource in (w First 1 false ∷ w First 1 true ∷ w Second 1 false ∷ w Second 1 true ∷ w First 2 false ∷ w First 2 true ∷ w Second 2 false ∷ w Second 2 true ∷ []) ≡ (80 ∷ 192 ∷ 84 ∷ 224 ∷ 80 ∷ 176 ∷ 84 ∷ 204 ∷ [])
law_numbers = refl

-- this chip's are the least, computed: with samples of 16 and 80 words, one word fewer is not enough
pub enough_least : (resource : Bool) → lacks_at (λ k. k) 8 1 resource (unsent_of (λ k. cond k 80 16) (slowest 8 1 resource) (enough resource - 1)) ≡ true
unfolding count_of unsent_of
enough_least true = refl
enough_least false = refl
