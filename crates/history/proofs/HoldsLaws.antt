-- The queue and the ledger's stream: the places hold the samples that the list says are held, and the words go out in order.
-- Assumes nothing.
use Prim.Native.Nat.{ℕ, zero, suc, ◌+◌, ◌-◌, ◌*◌, ◌≤◌, ◌<◌, min}
use native.Mathlib.Nat.{not-suc-le-zero, suc-ne-zero, add-zero, le_trans, mul-le-mul_right}
use native.Mathlib.Numerals.{add-one}
use native.Mathlib.Omega.{arith}
use mathlib.Core.Path.{◌≡◌, refl, sym, ap, ap₂, ◌∙◌, subst}
use mathlib.Core.Bool.{Bool, true, false, cond, ◌||◌, false≢true}
use mathlib.Core.List.{List, [], ◌∷◌, ◌++◌, map, map-append}
use lib.Dec.{eqb, leb, ltb}
use lib.ListN.{length, take, drop, get_or, set, replicate, length-append, length-map, length-set, length-drop}
use lib.Seq.{drop-cons, take-suc-set, length-take-le, take-append-le, get_or-drop}
use lib.ListN.{get_or-append}
use borrow.Author.Tests.{eqb-false, eqb-true, lt-ltb, ltb-true, ltb-false}
use Rattle.samples.specs.Layout.{resource, sample_length, sample_words, widths}
use Rattle.samples.specs.declared.edition.Edition.{Edition}
use Rattle.samples.specs.declared.sample.Sample.{Sample}
use Rattle.queue.specs.Queue.{advanced, any_resource, busy, empty_queue, first_count, first_held, full, held_sample, inside_queue, next_word, pushed, send_queue, send_words, shifted, zero_held}
use Rattle.queue.specs.declared.queue.Held.{Held}
use Rattle.queue.specs.declared.queue.Queue.{Queue}
use Rattle.queue.proofs.BoundLaws.{bounds_back}
use Rattle.history.specs.Stream.{any_held, held_of, is_full, length_of, total_of, unsent_of, words_of_all}
use Rattle.history.proofs.HeldLaws.{Next, Sixteen, drop_held, held_none, held_push, layout_length, left_bound, next_word_lem, offset_all, offset_of, sixteen_held, total_more, words_left, words_length, words_total}

-- the queue holds what the list says
pub record Holds (ed : Edition) (taken : List Sample) (n : ℕ) (sh : List ℕ) (q : Queue) : Type 0 where
  pub eight : length q.places ≡ 8
  pub few : q.held ≤ 8
  pub same : map (held_sample sh) (take q.held q.places) ≡ held_of ed taken n
  pub place : q.sent ≡ offset_of ed taken n
  pub enough : n ≤ total_of ed taken

-- the first of some places
first_place : (hs : List Held) (k : ℕ) (sh : List ℕ) (s : Sample) (ss : List Sample) → map (held_sample sh) (take k hs) ≡ s ∷ ss → held_sample sh (get_or hs 0 zero_held) ≡ s
first_place hs zero sh s ss e = absurd (nil_cons e)
  where
    nil_cons : ◌≡◌ {A = List Sample} [] (s ∷ ss) → ⊥
    nil_cons p = suc-ne-zero _ (sym (ap length p))
first_place [] (suc k) sh s ss e = absurd (suc-ne-zero _ (sym (ap length e)))
first_place (h ∷ hs) (suc k) sh s ss e = ap (λ (l : List Sample). get_or l 0 s) e

-- and the others
other_places : (hs : List Held) (k : ℕ) (sh : List ℕ) (s : Sample) (ss : List Sample) → k ≤ length hs → map (held_sample sh) (take k hs) ≡ s ∷ ss → map (held_sample sh) (take (k - 1) (drop 1 hs ++ (zero_held ∷ []))) ≡ ss
other_places hs zero sh s ss h e = absurd (suc-ne-zero _ (sym (ap length e)))
other_places [] (suc k) sh s ss h e = absurd (not-suc-le-zero h)
other_places (x ∷ hs) (suc k) sh s ss h e =
    let less : suc k - 1 ≡ k = omega arith in
    ap (λ (n : ℕ). map (held_sample sh) (take n (hs ++ (zero_held ∷ [])))) less
    ∙ ap (map (held_sample sh)) (take-append-le k hs (zero_held ∷ []) (omega arith))
    ∙ ap (drop 1) e

-- a sample keeps its place's header, so whether a Resource sample is held is the same on both sides
any_same : (sh : List ℕ) (hs : List Held) → any_resource hs ≡ any_held (map (held_sample sh) hs)
unfolding any_resource any_held
any_same sh [] = refl
any_same sh (h ∷ hs) = ap (λ (b : Bool). resource h.header || b) (any_same sh hs)

-- where no Resource sample is held, the shadows don't matter
shadows_free : (sh sh' : List ℕ) (hs : List Held) → any_resource hs ≡ false → map (held_sample sh) hs ≡ map (held_sample sh') hs
unfolding any_resource
shadows_free sh sh' [] e = refl
shadows_free sh sh' (h ∷ hs) e = go (resource h.header) refl e (shadows_free sh sh' hs)
  where
    go : (b : Bool) → resource h.header ≡ b → (b || any_resource hs) ≡ false → (any_resource hs ≡ false → map (held_sample sh) hs ≡ map (held_sample sh') hs) → map (held_sample sh) (h ∷ hs) ≡ map (held_sample sh') (h ∷ hs)
    go true r p ih = absurd (false≢true (sym p))
    go false r p ih =
        let none : (l : List ℕ) → cond (resource h.header) l (replicate 16 0) ≡ replicate 16 0 = λ l. ap (λ (b : Bool). cond b l (replicate 16 0)) r in
        ap₂ (λ (s : Sample) (l : List Sample). s ∷ l)
        (λ i. record { user = h.user; stamp = h.stamp; source = h.source; header = h.header; counters = (none sh ∙ sym (none sh')) i })
        (ih p)

module _ (ed : Edition) where
  pub holds_empty : (sh : List ℕ) → Holds ed [] 0 sh empty_queue
  unfolding unsent_of offset_of total_of
  holds_empty sh = record { eight = refl; few = omega arith; same = refl; place = refl; enough = omega arith }

  module _ (taken : List Sample) (n : ℕ) (sh : List ℕ) (q : Queue) (holds : Holds ed taken n sh q) where
    pub held_count : length (held_of ed taken n) ≡ q.held
    held_count =
        ap length (sym holds.same) ∙ length-map (take q.held q.places) (held_sample sh)
        ∙ length-take-le q.held q.places (subst (λ (k : ℕ). q.held ≤ k) (sym holds.eight) holds.few)

    pub holds_full : full q ≡ is_full (held_of ed taken n)
    holds_full = ap (leb 8) (sym held_count)

    pub holds_busy : busy q ≡ any_held (held_of ed taken n)
    holds_busy = any_same sh (take q.held q.places) ∙ ap any_held holds.same

    -- nothing held is nothing left
    pub holds_none : q.held ≡ 0 → total_of ed taken - n ≡ 0
    holds_none e = go (ltb n (total_of ed taken)) refl
      where
        go : (b : Bool) → ltb n (total_of ed taken) ≡ b → total_of ed taken - n ≡ 0
        go true t =
            let x : Next ed taken n = next_word_lem ed taken n (ltb-true n (total_of ed taken) t) in
            absurd (suc-ne-zero _ (sym (ap length x.is) ∙ held_count ∙ e))
        go false t = omega (arith, ltb-false n (total_of ed taken) t)

    pub holds_some : (q.held ≡ 0 → ⊥) → n < total_of ed taken
    holds_some f = go (ltb n (total_of ed taken)) refl
      where
        go : (b : Bool) → ltb n (total_of ed taken) ≡ b → n < total_of ed taken
        go true t = ltb-true n (total_of ed taken) t
        go false t = absurd (f (sym held_count ∙ ap length (held_none ed taken n (ltb-false n (total_of ed taken) t))))

    -- the first place is the first held sample
    first_is : (x : Next ed taken n) → held_sample sh (first_held q) ≡ x.first
    first_is x = first_place q.places q.held sh x.first x.rest (holds.same ∙ x.is)

    first_length : (x : Next ed taken n) → first_count (widths ed) q ≡ length_of ed x.first
    first_length x = layout_length ed (held_sample sh (first_held q)) ∙ ap (length_of ed) (first_is x)

    -- so the queue's counts are inside their bounds
    pub holds_inside : inside_queue (widths ed) q ≡ true
    holds_inside =
        bounds_back (widths ed) q
        (record {
          few = holds.few;
          none = λ e. holds.place ∙ offset_all ed taken n (omega (arith, holds.enough, holds_none e));
          some =
              λ f.
              let x : Next ed taken n = next_word_lem ed taken n (holds_some f) in
              subst (λ (k : ℕ). k < first_count (widths ed) q) (sym holds.place) (subst (λ (k : ℕ). offset_of ed taken n < k) (sym (first_length x)) x.unsent);
        })

    -- ---- a word is sent

    module _ (sixteen : Sixteen taken) (some : q.held ≡ 0 → ⊥) where
      unsent : Next ed taken n
      unsent = next_word_lem ed taken n (holds_some some)

      -- it is the next of all the words
      pub next_is : next_word (widths ed) sh q ≡ get_or (words_of_all ed taken) n 0
      unfolding words_of_all
      next_is =
          let x : Next ed taken n = unsent in
          let o : ℕ = offset_of ed taken n in
          let words : List ℕ = sample_words (widths ed) x.first in
          let long : length words ≡ length_of ed x.first = words_length ed x.first (subst Sixteen x.is (sixteen_held ed taken n sixteen)).0 in
          ap₂ (λ (s : Sample) (k : ℕ). get_or (sample_words (widths ed) s) k 0) (first_is x) holds.place
          ∙ sym (get_or-append words (words_of_all ed x.rest) 0 o (subst (λ (k : ℕ). o < k) (sym long) x.unsent))
          ∙ ap (λ (l : List Sample). get_or (words_of_all ed l) o 0) (sym x.is)
          ∙ ap (λ (k : ℕ). get_or (words_of_all ed (held_of ed taken n)) k 0) (sym (add-zero o))
          ∙ sym (get_or-drop o (words_of_all ed (held_of ed taken n)) 0 0)
          ∙ ap (λ (l : List ℕ). get_or l 0 0) (sym (drop_held ed taken n sixteen))
          ∙ get_or-drop n (words_of_all ed taken) 0 0
          ∙ ap (λ (k : ℕ). get_or (words_of_all ed taken) k 0) (add-zero n)

      -- and the queue then holds what one word more leaves
      pub holds_advanced : Holds ed taken (n + 1) sh (advanced (widths ed) q)
      holds_advanced = go (ltb (q.sent + 1) (first_count (widths ed) q)) refl
        where
          go : (b : Bool) → ltb (q.sent + 1) (first_count (widths ed) q) ≡ b → Holds ed taken (n + 1) sh (cond b (record { places = q.places; held = q.held; sent = q.sent + 1 }) (shifted q))
          go true t =
              let x : Next ed taken n = unsent in
              let stay : offset_of ed taken n + 1 < length_of ed x.first = subst (λ (k : ℕ). offset_of ed taken n + 1 < k) (first_length x) (subst (λ (k : ℕ). k + 1 < first_count (widths ed) q) holds.place (ltb-true (q.sent + 1) (first_count (widths ed) q) t)) in
              let y = x.stays stay in
              record {
                eight = holds.eight;
                few = holds.few;
                same = holds.same ∙ x.is ∙ sym y.0;
                place = ap (λ (k : ℕ). k + 1) holds.place ∙ sym y.1;
                enough = omega (arith, holds_some some);
              }
          go false t =
              let x : Next ed taken n = unsent in
              let end : length_of ed x.first ≤ offset_of ed taken n + 1 = subst (λ (k : ℕ). k ≤ offset_of ed taken n + 1) (first_length x) (subst (λ (k : ℕ). first_count (widths ed) q ≤ k + 1) holds.place (ltb-false (q.sent + 1) (first_count (widths ed) q) t)) in
              let y = x.ends end in
              let long : length (drop 1 q.places) ≡ 7 = length-drop 1 q.places ∙ ap (λ (k : ℕ). k - 1) holds.eight in
              record {
                eight = length-append (drop 1 q.places) (zero_held ∷ []) ∙ ap (λ (k : ℕ). k + 1) long;
                few = omega (arith, holds.few);
                same = other_places q.places q.held sh x.first x.rest (subst (λ (k : ℕ). q.held ≤ k) (sym holds.eight) holds.few) (holds.same ∙ x.is) ∙ sym y.0;
                place = sym y.1;
                enough = omega (arith, holds_some some);
              }

    -- ---- a sample is taken

    pub holds_pushed : (h : Held) → q.held < 8 → Holds ed (taken ++ (held_sample sh h ∷ [])) n sh (pushed h q)
    holds_pushed h room =
        let more = held_push ed taken (held_sample sh h) n holds.enough in
        subst (Holds ed (taken ++ (held_sample sh h ∷ [])) n sh)
        (ap (λ (b : Bool). cond b (record { places = set q.places q.held h; held = q.held + 1; sent = q.sent }) q) (sym (lt-ltb q.held 8 room)))
        (record {
          eight = length-set q.places q.held h ∙ holds.eight;
          few = omega arith;
          same =
              ap (λ (k : ℕ). map (held_sample sh) (take k (set q.places q.held h))) (add-one q.held)
              ∙ ap (map (held_sample sh)) (take-suc-set q.places q.held h (subst (λ (k : ℕ). q.held < k) (sym holds.eight) room))
              ∙ map-append (held_sample sh) (take q.held q.places) (h ∷ [])
              ∙ ap (λ (l : List Sample). l ++ (held_sample sh h ∷ [])) holds.same
              ∙ sym more.0;
          place = holds.place ∙ sym more.1;
          enough = omega (arith, holds.enough, total_more ed taken (held_sample sh h));
        })

    -- ---- the shadows are written while they are free

    pub holds_copied : (sh' : List ℕ) → busy q ≡ false → Holds ed taken n sh' q
    holds_copied sh' free =
        record {
          eight = holds.eight;
          few = holds.few;
          same = sym (shadows_free sh sh' (take q.held q.places) free) ∙ holds.same;
          place = holds.place;
          enough = holds.enough;
        }

  -- ---- sends

  -- single sends, up to a number of them: the words are the next ones, and the queue is what is left
  pub many : (taken : List Sample) → Sixteen taken → (sh : List ℕ) (room n : ℕ) (p : Queue) → Holds ed taken n sh p → (send_words (widths ed) room sh p ≡ take (min room (total_of ed taken - n)) (drop n (words_of_all ed taken))) × Holds ed taken (n + min room (total_of ed taken - n)) sh (send_queue (widths ed) room p)
  unfolding send_words send_queue
  many taken sixteen sh zero n p h =
      let none : min 0 (total_of ed taken - n) ≡ 0 = omega arith in
      (ap (λ (k : ℕ). take k (drop n (words_of_all ed taken))) (sym none), subst (λ (k : ℕ). Holds ed taken k sh p) (omega arith) h)
  many taken sixteen sh (suc room) n p h = go (eqb p.held 0) refl (λ k. many taken sixteen sh room (n + 1) (advanced (widths ed) p) k)
    where
      go : (b : Bool) → eqb p.held 0 ≡ b → (Holds ed taken (n + 1) sh (advanced (widths ed) p) → (send_words (widths ed) room sh (advanced (widths ed) p) ≡ take (min room (total_of ed taken - (n + 1))) (drop (n + 1) (words_of_all ed taken))) × Holds ed taken (n + 1 + min room (total_of ed taken - (n + 1))) sh (send_queue (widths ed) room (advanced (widths ed) p))) → (cond b [] (next_word (widths ed) sh p ∷ send_words (widths ed) room sh (advanced (widths ed) p)) ≡ take (min (suc room) (total_of ed taken - n)) (drop n (words_of_all ed taken))) × Holds ed taken (n + min (suc room) (total_of ed taken - n)) sh (cond b p (send_queue (widths ed) room (advanced (widths ed) p)))
      go true e ih =
          let none : total_of ed taken - n ≡ 0 = holds_none taken n sh p h (eqb-true p.held 0 e) in
          let nothing : min (suc room) (total_of ed taken - n) ≡ 0 = omega arith in
          (ap (λ (k : ℕ). take k (drop n (words_of_all ed taken))) (sym nothing), subst (λ (k : ℕ). Holds ed taken k sh p) (omega arith) h)
      go false e ih =
          let f : p.held ≡ 0 → ⊥ = eqb-false p.held 0 e in
          let some : n < total_of ed taken = holds_some taken n sh p h f in
          let y = ih (holds_advanced taken n sh p h sixteen f) in
          let k : ℕ = min room (total_of ed taken - (n + 1)) in
          let more : min (suc room) (total_of ed taken - n) ≡ suc k = omega arith in
          let long : n < length (words_of_all ed taken) = subst (λ (m : ℕ). n < m) (sym (words_total ed taken sixteen)) some in (
            ap₂ (λ (w : ℕ) (ws : List ℕ). w ∷ ws) (next_is taken n sh p h sixteen f) (y.0 ∙ ap (λ (m : ℕ). take k (drop m (words_of_all ed taken))) (add-one n))
                ∙ ap (take (suc k)) (sym (drop-cons (words_of_all ed taken) n 0 long))
                ∙ ap (λ (m : ℕ). take m (drop n (words_of_all ed taken))) (sym more),
            subst (λ (m : ℕ). Holds ed taken m sh (send_queue (widths ed) room (advanced (widths ed) p))) (omega arith) y.1,
          )

  -- how many words that are
  pub many_count : (taken : List Sample) → Sixteen taken → (sh : List ℕ) (room n : ℕ) (p : Queue) → Holds ed taken n sh p → length (send_words (widths ed) room sh p) ≡ min room (total_of ed taken - n)
  many_count taken sixteen sh room n p h =
      let m : ℕ = min room (total_of ed taken - n) in
      ap length (many taken sixteen sh room n p h).0
      ∙ length-take-le m (drop n (words_of_all ed taken)) (subst (λ (k : ℕ). m ≤ k) (sym (words_left ed taken n sixteen)) (omega arith))

  -- eight samples are held at most, so no more words are left than eight Resource samples have
  pub holds_left : (taken : List Sample) (n : ℕ) (sh : List ℕ) (q : Queue) → Holds ed taken n sh q → total_of ed taken - n ≤ 8 * sample_length (widths ed) true
  holds_left taken n sh q h =
      le_trans (left_bound ed taken n)
      (mul-le-mul_right (sample_length (widths ed) true) (subst (λ (k : ℕ). k ≤ 8) (sym (held_count taken n sh q h)) h.few))
