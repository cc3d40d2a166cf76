-- Laws of sending several words: some and then more are so many at once, and a buffer is filled by them in turn. Assumes nothing.
use Prim.Native.Nat.{ℕ, zero, suc, ◌+◌, ◌-◌, ◌≤◌, ◌<◌}
use native.Mathlib.Nat.{zero-add, suc-add, add-sub_of_le}
use native.Mathlib.Numerals.{add-one}
use mathlib.Core.Path.{◌≡◌, refl, sym, ap, ap₂, ◌∙◌}
use mathlib.Core.Bool.{Bool, true, false, cond}
use mathlib.Core.List.{List, [], ◌∷◌, ◌++◌, append-nil}
use lib.Dec.{eqb}
use lib.ListN.{length, drop, get_or, set, length-append, length-set}
use lib.Seq.{drop-cons, set_at, append_snoc}
use borrow.Author.Tests.{eq-eqb, ne_eqb, eqb-true, eqb-false}
use Rattle.samples.specs.Layout.{Widths}
use Rattle.queue.specs.Queue.{advanced, next_word, send_buffer, send_many, send_queue, send_words}
use Rattle.queue.specs.declared.queue.Queue.{Queue}
use Rattle.queue.specs.declared.queue.SentMany.{SentMany}

module _ (w : Widths) where
  -- nothing held, nothing sent
  pub send_none : (n : ℕ) (sh : List ℕ) (q : Queue) → q.held ≡ 0 → (send_words w n sh q ≡ []) × (send_queue w n q ≡ q)
  unfolding send_words send_queue
  send_none zero sh q e = (refl, refl)
  send_none (suc n) sh q e = (
    ap (λ (b : Bool). cond b [] (next_word w sh q ∷ send_words w n sh (advanced w q))) (eq-eqb q.held 0 e),
    ap (λ (b : Bool). cond b q (send_queue w n (advanced w q))) (eq-eqb q.held 0 e),
  )

  -- and then n more
  pub send_suc : (n : ℕ) (sh : List ℕ) (q : Queue) → (q.held ≡ 0 → ⊥) → (send_words w (suc n) sh q ≡ next_word w sh q ∷ send_words w n sh (advanced w q)) × (send_queue w (suc n) q ≡ send_queue w n (advanced w q))
  unfolding send_words send_queue
  send_suc n sh q e = (
    ap (λ (b : Bool). cond b [] (next_word w sh q ∷ send_words w n sh (advanced w q))) (ne_eqb q.held 0 e),
    ap (λ (b : Bool). cond b q (send_queue w n (advanced w q))) (ne_eqb q.held 0 e),
  )

  -- i words and then k
  pub send_add : (i k : ℕ) (sh : List ℕ) (q : Queue) → (send_words w (i + k) sh q ≡ send_words w i sh q ++ send_words w k sh (send_queue w i q)) × (send_queue w (i + k) q ≡ send_queue w k (send_queue w i q))
  unfolding send_words send_queue
  send_add zero k sh q = (ap (λ (n : ℕ). send_words w n sh q) (zero-add k), ap (λ (n : ℕ). send_queue w n q) (zero-add k))
  send_add (suc i) k sh q = go (eqb q.held 0) refl (send_add i k sh (advanced w q))
    where
      go : (b : Bool) → eqb q.held 0 ≡ b → (send_words w (i + k) sh (advanced w q) ≡ send_words w i sh (advanced w q) ++ send_words w k sh (send_queue w i (advanced w q))) × (send_queue w (i + k) (advanced w q) ≡ send_queue w k (send_queue w i (advanced w q))) → (send_words w (suc i + k) sh q ≡ cond b [] (next_word w sh q ∷ send_words w i sh (advanced w q)) ++ send_words w k sh (cond b q (send_queue w i (advanced w q)))) × (send_queue w (suc i + k) q ≡ send_queue w k (cond b q (send_queue w i (advanced w q))))
      go true e ih =
          let none : q.held ≡ 0 = eqb-true q.held 0 e in
          ((send_none (suc i + k) sh q none).0 ∙ sym (send_none k sh q none).0, (send_none (suc i + k) sh q none).1 ∙ sym (send_none k sh q none).1)
      go false e ih =
          let some : q.held ≡ 0 → ⊥ = eqb-false q.held 0 e in (
            ap (λ (n : ℕ). send_words w n sh q) (suc-add i k) ∙ (send_suc (i + k) sh q some).0 ∙ ap (λ (l : List ℕ). next_word w sh q ∷ l) ih.0,
            ap (λ (n : ℕ). send_queue w n q) (suc-add i k) ∙ (send_suc (i + k) sh q some).1 ∙ ih.1,
          )

  -- a buffer after i words from a queue, and the queue then
  abbrev pub Filled : List ℕ → Queue → List ℕ → List ℕ → Queue → ℕ → Type 0
  Filled sh q₀ out₀ out q i =
      (i ≤ length out₀) × (length out ≡ length out₀) × (out ≡ send_words w i sh q₀ ++ drop i out₀) × (q ≡ send_queue w i q₀) × (length (send_words w i sh q₀) ≡ i)

  module _ (sh : List ℕ) (q₀ : Queue) (out₀ out : List ℕ) (q : Queue) (i : ℕ) (f : Filled sh q₀ out₀ out q i) where
    -- one word more
    pub filled_turn : (x : ℕ) (q' : Queue) → i < length out₀ → (q.held ≡ 0 → ⊥) → x ≡ next_word w sh q → q' ≡ advanced w q → Filled sh q₀ out₀ (set out i x) q' (suc i)
    unfolding send_words send_queue
    filled_turn x q' h some e e' =
        let before : List ℕ = send_words w i sh q₀ in
        let more : send_words w (suc i) sh q₀ ≡ before ++ (next_word w sh q ∷ []) =
        ap (λ (n : ℕ). send_words w n sh q₀) (sym (add-one i)) ∙ (send_add i 1 sh q₀).0
        ∙ ap (λ (p : Queue). before ++ send_words w 1 sh p) (sym f.3) ∙ ap (λ (l : List ℕ). before ++ l) (send_suc 0 sh q some).0 in
        let next : send_queue w (suc i) q₀ ≡ advanced w q =
        ap (λ (n : ℕ). send_queue w n q₀) (sym (add-one i)) ∙ (send_add i 1 sh q₀).1 ∙ ap (send_queue w 1) (sym f.3) ∙ (send_suc 0 sh q some).1 in
        let stored : set out i x ≡ before ++ (next_word w sh q ∷ drop (suc i) out₀) =
        ap₂ (λ (l : List ℕ) (v : ℕ). set l i v) (f.2 ∙ ap (λ (l : List ℕ). before ++ l) (drop-cons out₀ i 0 h)) e
        ∙ set_at before (get_or out₀ i 0) (drop (suc i) out₀) (next_word w sh q) i f.4 in (
          h,
          length-set out i x ∙ f.1,
          stored ∙ sym (append_snoc before (next_word w sh q) (drop (suc i) out₀)) ∙ ap (λ (l : List ℕ). l ++ drop (suc i) out₀) (sym more),
          e' ∙ sym next,
          ap length more ∙ length-append before (next_word w sh q ∷ []) ∙ ap (λ (n : ℕ). n + 1) f.4 ∙ add-one i,
        )

    -- at the buffer's end, or where nothing is held any more, that is all
    pub filled_end : (send_words w (length out₀ - i) sh q ≡ []) × (send_queue w (length out₀ - i) q ≡ q) → (◌≡◌ {A = SentMany} (record { queue = q; count = i }) (send_many w (length out₀) sh q₀)) × (out ≡ send_buffer w sh q₀ out₀)
    unfolding send_many send_buffer
    filled_end stop =
        let n : ℕ = length out₀ in
        let all : i + (n - i) ≡ n = add-sub_of_le f.0 in
        let words : send_words w n sh q₀ ≡ send_words w i sh q₀ =
        ap (λ (m : ℕ). send_words w m sh q₀) (sym all) ∙ (send_add i (n - i) sh q₀).0
        ∙ ap (λ (p : Queue). send_words w i sh q₀ ++ send_words w (n - i) sh p) (sym f.3)
        ∙ ap (λ (l : List ℕ). send_words w i sh q₀ ++ l) stop.0 ∙ append-nil (send_words w i sh q₀) in
        let queue : send_queue w n q₀ ≡ q =
        ap (λ (m : ℕ). send_queue w m q₀) (sym all) ∙ (send_add i (n - i) sh q₀).1 ∙ ap (send_queue w (n - i)) (sym f.3) ∙ stop.1 in
        let size : length (send_words w n sh q₀) ≡ i = ap length words ∙ f.4 in (
          (λ j. record { queue = sym queue j; count = sym size j }),
          f.2 ∙ ap₂ (λ (l : List ℕ) (m : ℕ). l ++ drop m out₀) (sym words) (sym size),
        )
