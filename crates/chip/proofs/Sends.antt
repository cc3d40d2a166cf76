-- A buffer send does what that many single sends do, and writes the words that they give: along the words sent. Assumes, where
-- said, a record inside its bounds.
use Prim.Native.Nat.{ℕ, zero, suc, ◌≤◌, ◌<◌, zero-le}
use native.Mathlib.Nat.{le_of_suc-le-suc, not-suc-le-zero}
use mathlib.Core.Path.{◌≡◌, refl, sym, ap, ap₂, ◌∙◌, subst}
use mathlib.Core.Bool.{Bool, true, false, cond}
use mathlib.Core.List.{List, [], ◌∷◌, ◌++◌}
use lib.Dec.{eqb}
use lib.ListN.{drop, length}
use borrow.Author.Tests.{eq-eqb, eqb-false, eqb-true, ne_eqb}
use Rattle.samples.specs.Layout.{widths}
use Rattle.samples.specs.declared.edition.Edition.TheVariants.{First}
use Rattle.queue.specs.Queue.{advanced, next_word, send_buffer, send_many, send_queue, send_words}
use Rattle.queue.specs.declared.queue.Queue.{Queue}
use Rattle.queue.proofs.CountLaws.{words_all, words_most, words_queue}
use Rattle.queue.proofs.SendLaws.{send_none, send_suc}
use Rattle.control.specs.declared.reply.Reply.TheVariants.{NoWord, Outside}
use Rattle.chip.specs.Chip.{done, inside, replied, send, send_into, send_now, sent_buffer, with_queue}
use Rattle.chip.specs.Operation.{op_fill, op_send, step}
use Rattle.chip.specs.Repeat.{given, repeat}
use Rattle.chip.specs.Told.{Told}
use Rattle.chip.specs.declared.chip.Chip.{Chip}
use Rattle.chip.proofs.Bounds.{keeps_inside}
use Rattle.chip.proofs.ChipLaws.{guard_in, guard_out}

-- ---- one send

module _ (c : Chip) (h : inside c ≡ true) where
  pub send_empty : c.queue.held ≡ 0 → step op_send c ≡ replied NoWord c
  unfolding send
  send_empty e =
      sym (guard_in c (send_now c) h)
      ∙ ap (λ (b : Bool). cond b (replied NoWord c) (done (next_word (widths First) c.bank.shadows c.queue) (with_queue (advanced (widths First) c.queue) c))) (eq-eqb c.queue.held 0 e)

  pub send_word : (c.queue.held ≡ 0 → ⊥) → step op_send c ≡ done (next_word (widths First) c.bank.shadows c.queue) (with_queue (advanced (widths First) c.queue) c)
  unfolding send
  send_word e =
      sym (guard_in c (send_now c) h)
      ∙ ap (λ (b : Bool). cond b (replied NoWord c) (done (next_word (widths First) c.bank.shadows c.queue) (with_queue (advanced (widths First) c.queue) c))) (ne_eqb c.queue.held 0 e)

-- ---- several

-- the chip after n single sends
pub repeat_sends : (n : ℕ) (c : Chip) → inside c ≡ true → repeat n op_send c ≡ with_queue (send_queue (widths First) n c.queue) c
unfolding repeat send_queue
repeat_sends zero c h = refl
repeat_sends (suc n) c h = repeat_sends n (step op_send c).chip (keeps_inside op_send c h) ∙ go (eqb c.queue.held 0) refl
  where
    go : (b : Bool) → eqb c.queue.held 0 ≡ b → with_queue (send_queue (widths First) n (step op_send c).chip.queue) (step op_send c).chip ≡ with_queue (send_queue (widths First) (suc n) c.queue) c
    go true e =
        let none : c.queue.held ≡ 0 = eqb-true c.queue.held 0 e in
        ap (λ (a : Told). with_queue (send_queue (widths First) n a.chip.queue) a.chip) (send_empty c h none)
        ∙ ap (λ (q : Queue). with_queue q c) ((send_none (widths First) n [] c.queue none).1 ∙ sym (send_none (widths First) (suc n) [] c.queue none).1)
    go false e =
        let some : c.queue.held ≡ 0 → ⊥ = eqb-false c.queue.held 0 e in
        ap (λ (a : Told). with_queue (send_queue (widths First) n a.chip.queue) a.chip) (send_word c h some)
        ∙ ap (λ (q : Queue). with_queue q c) (sym (send_suc (widths First) n [] c.queue some).1)

-- and the words that they give, where there is room for m
pub given_sends : (m : ℕ) (c : Chip) → inside c ≡ true → given (length (send_words (widths First) m c.bank.shadows c.queue)) op_send c ≡ send_words (widths First) m c.bank.shadows c.queue
unfolding given send_words
given_sends zero c h = refl
given_sends (suc m) c h = go (eqb c.queue.held 0) refl (given_sends m (step op_send c).chip (keeps_inside op_send c h))
  where
    go : (b : Bool) → eqb c.queue.held 0 ≡ b → given (length (send_words (widths First) m (step op_send c).chip.bank.shadows (step op_send c).chip.queue)) op_send (step op_send c).chip ≡ send_words (widths First) m (step op_send c).chip.bank.shadows (step op_send c).chip.queue → given (length (cond b [] (next_word (widths First) c.bank.shadows c.queue ∷ send_words (widths First) m c.bank.shadows (advanced (widths First) c.queue)))) op_send c ≡ cond b [] (next_word (widths First) c.bank.shadows c.queue ∷ send_words (widths First) m c.bank.shadows (advanced (widths First) c.queue))
    go true e ih = refl
    go false e ih =
        let one : step op_send c ≡ done (next_word (widths First) c.bank.shadows c.queue) (with_queue (advanced (widths First) c.queue) c) = send_word c h (eqb-false c.queue.held 0 e) in
        let rest : given (length (send_words (widths First) m c.bank.shadows (advanced (widths First) c.queue))) op_send (step op_send c).chip ≡ send_words (widths First) m c.bank.shadows (advanced (widths First) c.queue) =
        subst (λ (a : Told). given (length (send_words (widths First) m a.chip.bank.shadows a.chip.queue)) op_send (step op_send c).chip ≡ send_words (widths First) m a.chip.bank.shadows a.chip.queue) one ih in
        ap₂ (λ (a : Told) (l : List ℕ). a.value ∷ l) one rest

-- each with reply 0
pub send_done : (m k : ℕ) (c : Chip) → inside c ≡ true → k < length (send_words (widths First) m c.bank.shadows c.queue) → (step op_send (repeat k op_send c)).number ≡ 0
unfolding repeat send_words
send_done zero k c h p = absurd (not-suc-le-zero p)
send_done (suc m) zero c h p = go (eqb c.queue.held 0) refl p
  where
    go : (b : Bool) → eqb c.queue.held 0 ≡ b → 0 < length (cond b [] (next_word (widths First) c.bank.shadows c.queue ∷ send_words (widths First) m c.bank.shadows (advanced (widths First) c.queue))) → (step op_send c).number ≡ 0
    go true e q = absurd (not-suc-le-zero q)
    go false e q = ap (λ (a : Told). a.number) (send_word c h (eqb-false c.queue.held 0 e))
send_done (suc m) (suc k) c h p = go (eqb c.queue.held 0) refl p (send_done m k (step op_send c).chip (keeps_inside op_send c h))
  where
    go : (b : Bool) → eqb c.queue.held 0 ≡ b → suc k < length (cond b [] (next_word (widths First) c.bank.shadows c.queue ∷ send_words (widths First) m c.bank.shadows (advanced (widths First) c.queue))) → (k < length (send_words (widths First) m (step op_send c).chip.bank.shadows (step op_send c).chip.queue) → (step op_send (repeat k op_send (step op_send c).chip)).number ≡ 0) → (step op_send (repeat k op_send (step op_send c).chip)).number ≡ 0
    go true e q ih = absurd (not-suc-le-zero q)
    go false e q ih =
        ih (subst (λ (a : Told). k < length (send_words (widths First) m a.chip.bank.shadows a.chip.queue)) (sym (send_word c h (eqb-false c.queue.held 0 e))) (le_of_suc-le-suc q))

-- ---- a buffer send

module _ (m : ℕ) (c : Chip) where
  fill_answer : inside c ≡ true → step (op_fill m) c ≡ done (length (send_words (widths First) m c.bank.shadows c.queue)) (with_queue (send_queue (widths First) m c.queue) c)
  unfolding send_into send_many
  fill_answer h = sym (guard_in c (done (length (send_words (widths First) m c.bank.shadows c.queue)) (with_queue (send_queue (widths First) m c.queue) c)) h)

  fill_count : inside c ≡ true → (step (op_fill m) c).value ≡ length (send_words (widths First) m c.bank.shadows c.queue)
  fill_count h = ap (λ (a : Told). a.value) (fill_answer h)

  -- outside the bounds no word is sent
  fill_outside : inside c ≡ false → step (op_fill m) c ≡ replied Outside c
  unfolding send_into
  fill_outside h = sym (guard_out c _ h)

  -- what holds of the count inside the bounds and of 0 holds of the count
  by_count : (P : ℕ → Type 0) → (inside c ≡ true → P (step (op_fill m) c).value) → P 0 → P (step (op_fill m) c).value
  by_count P p z = go (inside c) refl
    where
      go : (b : Bool) → inside c ≡ b → P (step (op_fill m) c).value
      go true h = p h
      go false h = subst P (sym (ap (λ (a : Told). a.value) (fill_outside h))) z

  -- "it returns how many, and does what that many single sends do"
  pub fill_single : step (op_fill m) c ≡ record { chip = repeat (step (op_fill m) c).value op_send c; number = cond (inside c) 0 15; value = (step (op_fill m) c).value }
  unfolding repeat
  fill_single = go (inside c) refl
    where
      go : (b : Bool) → inside c ≡ b → step (op_fill m) c ≡ record { chip = repeat (step (op_fill m) c).value op_send c; number = cond b 0 15; value = (step (op_fill m) c).value }
      go true h =
          let n : ℕ = length (send_words (widths First) m c.bank.shadows c.queue) in
          let chip : with_queue (send_queue (widths First) m c.queue) c ≡ repeat n op_send c =
          ap (λ (q : Queue). with_queue q c) (sym (words_queue (widths First) c.bank.shadows m c.queue)) ∙ sym (repeat_sends n c h) in
          fill_answer h ∙ ap (done n) chip ∙ ap (λ (k : ℕ). done k (repeat k op_send c)) (sym (fill_count h))
      go false h =
          fill_outside h
          ∙ ap (λ (k : ℕ). record { chip = repeat k op_send c; number = 15; value = k }) (sym (ap (λ (a : Told). a.value) (fill_outside h)))

  -- "as many words as it has places"
  pub fill_most : (step (op_fill m) c).value ≤ m
  fill_most = by_count (λ n. n ≤ m) (λ h. subst (λ (n : ℕ). n ≤ m) (sym (fill_count h)) (words_most (widths First) c.bank.shadows m c.queue)) zero-le

  -- "or as are left"
  pub fill_all : inside c ≡ true → (step (op_fill m) c).value < m → (step (op_fill m) c).chip.queue.held ≡ 0
  fill_all h p =
      ap (λ (a : Told). a.chip.queue.held) (fill_answer h)
      ∙ words_all (widths First) c.bank.shadows m c.queue (subst (λ (n : ℕ). n < m) (fill_count h) p)

  -- so each of that many single sends replies 0, and where there is more room the next would reply 5
  pub fill_done : (k : ℕ) → k < (step (op_fill m) c).value → (step op_send (repeat k op_send c)).number ≡ 0
  fill_done k =
      by_count (λ n. k < n → (step op_send (repeat k op_send c)).number ≡ 0) (λ h p. send_done m k c h (subst (λ (n : ℕ). k < n) (fill_count h) p))
      (λ p. absurd (not-suc-le-zero p))

  pub fill_end : inside c ≡ true → (step (op_fill m) c).value < m → (step op_send (step (op_fill m) c).chip).number ≡ 5
  fill_end h p = ap (λ (a : Told). a.number) (send_empty (step (op_fill m) c).chip (keeps_inside (op_fill m) c h) (fill_all h p))

  -- "A buffer send with nothing left returns 0 words with reply 0"
  pub fill_none : inside c ≡ true → c.queue.held ≡ 0 → step (op_fill m) c ≡ done 0 c
  fill_none h e =
      let none = send_none (widths First) m c.bank.shadows c.queue e in
      fill_answer h ∙ ap₂ (λ (ws : List ℕ) (q : Queue). done (length ws) (with_queue q c)) none.0 none.1

-- "the rest of the buffer untouched": the words are what the single sends give, one after the other
pub fill_words : (c : Chip) (out : List ℕ) → sent_buffer c out ≡ given (step (op_fill (length out)) c).value op_send c ++ drop (step (op_fill (length out)) c).value out
unfolding sent_buffer send_buffer given
fill_words c out = go (inside c) refl
  where
    ws : List ℕ
    ws = send_words (widths First) (length out) c.bank.shadows c.queue

    go : (b : Bool) → inside c ≡ b → cond b (ws ++ drop (length ws) out) out ≡ given (step (op_fill (length out)) c).value op_send c ++ drop (step (op_fill (length out)) c).value out
    go true h =
        ap (λ (l : List ℕ). l ++ drop (length ws) out) (sym (given_sends (length out) c h))
        ∙ ap (λ (n : ℕ). given n op_send c ++ drop n out) (sym (fill_count (length out) c h))
    go false h = ap (λ (n : ℕ). given n op_send c ++ drop n out) (sym (ap (λ (a : Told). a.value) (fill_outside (length out) c h)))

-- "With 15 a lent buffer is untouched"
pub buffer_outside : (c : Chip) (out : List ℕ) → inside c ≡ false → sent_buffer c out ≡ out
unfolding sent_buffer
buffer_outside c out h = ap (λ (b : Bool). cond b (send_buffer (widths First) c.bank.shadows c.queue out) out) h
