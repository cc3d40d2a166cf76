-- How many words several sends give, and that those of the first sample come one after the other: by induction on how many are sent.
-- Assumes nothing.
use Prim.Native.Nat.{ℕ, zero, suc, ◌+◌, ◌≤◌, ◌<◌, suc-le-suc, zero-le}
use native.Mathlib.Nat.{add-zero, le_of_suc-le-suc, not-suc-le-zero}
use native.Mathlib.Numerals.{add-one}
use native.Mathlib.Omega.{arith}
use mathlib.Core.Path.{◌≡◌, refl, sym, ap, ◌∙◌}
use mathlib.Core.Bool.{Bool, true, false, cond}
use mathlib.Core.List.{List, [], ◌∷◌}
use lib.Dec.{eqb}
use lib.ListN.{drop, length, take}
use lib.Seq.{drop-cons}
use borrow.Author.Tests.{eqb-true, lt-ltb}
use Rattle.samples.specs.Layout.{Widths, sample_words}
use Rattle.samples.proofs.SampleLaws.{sample_length_lem}
use Rattle.queue.specs.Queue.{advanced, first_count, first_held, held_sample, next_word, send_queue, send_words, shifted}
use Rattle.queue.specs.declared.queue.Queue.{Queue}
use Rattle.queue.proofs.QueueLaws.{held_sixteen}
use Rattle.queue.proofs.SendLaws.{send_suc}

-- a queue whose first sample has k more words sent
abbrev pub sent_more : ℕ → Queue → Queue
sent_more k q = record { places = q.places; held = q.held; sent = q.sent + k }

module _ (w : Widths) where
  module _ (sh : List ℕ) where
    -- at most as many as there is room for
    pub words_most : (m : ℕ) (q : Queue) → length (send_words w m sh q) ≤ m
    unfolding send_words
    words_most zero q = zero-le
    words_most (suc m) q = go (eqb q.held 0) (words_most m (advanced w q))
      where
        go : (b : Bool) → length (send_words w m sh (advanced w q)) ≤ m → length (cond b [] (next_word w sh q ∷ send_words w m sh (advanced w q))) ≤ suc m
        go true ih = zero-le
        go false ih = suc-le-suc ih

    -- room that is not used changes nothing
    pub words_queue : (m : ℕ) (q : Queue) → send_queue w (length (send_words w m sh q)) q ≡ send_queue w m q
    unfolding send_words send_queue
    words_queue zero q = refl
    words_queue (suc m) q = go (eqb q.held 0) refl (words_queue m (advanced w q))
      where
        go : (b : Bool) → eqb q.held 0 ≡ b → send_queue w (length (send_words w m sh (advanced w q))) (advanced w q) ≡ send_queue w m (advanced w q) → send_queue w (length (cond b [] (next_word w sh q ∷ send_words w m sh (advanced w q)))) q ≡ cond b q (send_queue w m (advanced w q))
        go true e ih = refl
        go false e ih = ap (λ (b : Bool). cond b q (send_queue w (length (send_words w m sh (advanced w q))) (advanced w q))) e ∙ ih

    -- and is left only where nothing is held any more
    pub words_all : (m : ℕ) (q : Queue) → length (send_words w m sh q) < m → (send_queue w m q).held ≡ 0
    unfolding send_words send_queue
    words_all zero q h = absurd (not-suc-le-zero h)
    words_all (suc m) q h = go (eqb q.held 0) refl h (words_all m (advanced w q))
      where
        go : (b : Bool) → eqb q.held 0 ≡ b → length (cond b [] (next_word w sh q ∷ send_words w m sh (advanced w q))) < suc m → (length (send_words w m sh (advanced w q)) < m → (send_queue w m (advanced w q)).held ≡ 0) → (cond b q (send_queue w m (advanced w q))).held ≡ 0
        go true e p ih = eqb-true q.held 0 e
        go false e p ih = ih (le_of_suc-le-suc p)

  pub send_first : (k : ℕ) (q : Queue) → (q.held ≡ 0 → ⊥) → q.sent + k < first_count w q → send_queue w k q ≡ sent_more k q
  unfolding send_queue
  send_first zero q some h = λ i. record { places = q.places; held = q.held; sent = sym (add-zero q.sent) i }
  send_first (suc k) q some h =
      let next : advanced w q ≡ sent_more 1 q = ap (λ (b : Bool). cond b (sent_more 1 q) (shifted q)) (lt-ltb (q.sent + 1) (first_count w q) (omega arith)) in
      (send_suc w k [] q some).1 ∙ ap (send_queue w k) next ∙ send_first k (sent_more 1 q) some (omega arith)
      ∙ (λ i. record { places = q.places; held = q.held; sent = (let e : q.sent + 1 + k ≡ q.sent + suc k = omega arith in e) i })

  -- the words of the first sample, from the next one on
  pub words_first : (k : ℕ) (sh : List ℕ) (q : Queue) → length sh ≡ 16 → (q.held ≡ 0 → ⊥) → q.sent + k ≤ first_count w q → send_words w k sh q ≡ take k (drop q.sent (sample_words w (held_sample sh (first_held q))))
  unfolding send_words
  words_first zero sh q sixteen some h = refl
  words_first (suc k) sh q sixteen some h =
      let ws : List ℕ = sample_words w (held_sample sh (first_held q)) in
      let long : length ws ≡ first_count w q = sample_length_lem w (held_sample sh (first_held q)) (held_sixteen sh (first_held q) sixteen) in
      (send_suc w k sh q some).0
      ∙ ap (λ (l : List ℕ). next_word w sh q ∷ l) (rest k h (words_first k sh (sent_more 1 q) sixteen some))
      ∙ sym (ap (take (suc k)) (drop-cons ws q.sent 0 (omega arith)))
    where
      rest : (j : ℕ) → q.sent + suc j ≤ first_count w q → (q.sent + 1 + j ≤ first_count w q → send_words w j sh (sent_more 1 q) ≡ take j (drop (q.sent + 1) (sample_words w (held_sample sh (first_held q))))) → send_words w j sh (advanced w q) ≡ take j (drop (suc q.sent) (sample_words w (held_sample sh (first_held q))))
      rest zero p ih = refl
      rest (suc j) p ih =
          let next : advanced w q ≡ sent_more 1 q = ap (λ (b : Bool). cond b (sent_more 1 q) (shifted q)) (lt-ltb (q.sent + 1) (first_count w q) (omega arith)) in
          ap (send_words w (suc j) sh) next ∙ ih (omega arith)
          ∙ ap (λ (n : ℕ). take (suc j) (drop n (sample_words w (held_sample sh (first_held q))))) (add-one q.sent)
