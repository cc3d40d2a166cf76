-- What sends give is the next part of all the words, over the edition: a single send the next word, a buffer send as many as find room, and sends one after
-- another the rest. Assumes sixteen counters in each sample and, where said, what a single send answers.
use Prim.Native.Nat.{ℕ, suc, ◌+◌, ◌-◌, ◌<◌, ◌≤◌, min}
use native.Mathlib.Omega.{arith}
use mathlib.Core.Path.{◌≡◌, refl, sym, ap, ap₂, ◌∙◌, subst}
use mathlib.Core.Bool.{Bool, true, false, cond}
use mathlib.Core.List.{List, [], ◌∷◌, ◌++◌, append-nil}
use lib.Dec.{eqb}
use lib.ListN.{length, take, drop, get_or, replicate, length-replicate, drop_of_length-le}
use lib.Seq.{drop-cons, take-add, take_at, take-suc}
use borrow.Author.Tests.{eqb-true, eqb-false}
use Rattle.samples.specs.Layout.{widths}
use Rattle.samples.specs.declared.edition.Edition.{Edition}
use Rattle.samples.specs.declared.sample.Sample.{Sample}
use Rattle.queue.specs.Queue.{send_buffer, send_words}
use Rattle.queue.specs.declared.queue.Queue.{Queue}
use Rattle.history.specs.Stream.{total_of, words_of_all}
use Rattle.history.proofs.HeldLaws.{Sixteen, words_total}
use Rattle.history.proofs.HoldsLaws.{Holds, many, many_count}

-- the samples taken, and how many of their words are sent
module _ (ed : Edition) (ss : List Sample) (sixteen : Sixteen ss) (n : ℕ) where
  abbrev words : List ℕ
  words = words_of_all ed ss

  abbrev left : ℕ
  left = total_of ed ss - n

  some_left : eqb left 0 ≡ false → n < length words
  some_left e = let f : left ≡ 0 → ⊥ = eqb-false left 0 e in subst (λ (m : ℕ). n < m) (sym (words_total ed ss sixteen)) (omega arith)

  -- a single send, by its answer: 5 where nothing is left, else the next word
  module _ (number value : ℕ) (is : number ≡ cond (eqb left 0) 5 0) (word : eqb left 0 ≡ false → value ≡ get_or words n 0) where
    -- it adds that word, if there is one
    pub send_adds : take n words ++ cond (eqb number 0) (value ∷ []) [] ≡ take (n + min 1 left) words
    send_adds = go (eqb left 0) refl is
      where
        go : (b : Bool) → eqb left 0 ≡ b → number ≡ cond b 5 0 → take n words ++ cond (eqb number 0) (value ∷ []) [] ≡ take (n + min 1 left) words
        go true e p =
            let same : n ≡ n + min 1 left = omega (arith, eqb-true left 0 e) in
            ap (λ (x : ℕ). take n words ++ cond (eqb x 0) (value ∷ []) []) p ∙ append-nil (take n words) ∙ ap (λ (m : ℕ). take m words) same
        go false e p =
            let f : left ≡ 0 → ⊥ = eqb-false left 0 e in
            let one : suc n ≡ n + min 1 left = omega arith in
            ap₂ (λ (x y : ℕ). take n words ++ cond (eqb x 0) (y ∷ []) []) p (word e) ∙ sym (take-suc words n 0 (some_left e)) ∙ ap (λ (m : ℕ). take m words) one

    -- and it is the first of the words still to come, if the sends after it give the others
    pub send_comes : (k : ℕ) (rest : List ℕ) → rest ≡ take k (drop (n + min 1 left) words) → cond (eqb number 5) [] (value ∷ rest) ≡ take (suc k) (drop n words)
    send_comes k rest h = go (eqb left 0) refl is
      where
        go : (b : Bool) → eqb left 0 ≡ b → number ≡ cond b 5 0 → cond (eqb number 5) [] (value ∷ rest) ≡ take (suc k) (drop n words)
        go true e p =
            let none : drop n words ≡ [] =
            drop_of_length-le words {i = n} (subst (λ (x : ℕ). x ≤ n) (sym (words_total ed ss sixteen)) (omega (arith, eqb-true left 0 e))) in
            ap (λ (x : ℕ). cond (eqb x 5) [] (value ∷ rest)) p ∙ ap (take (suc k)) (sym none)
        go false e p =
            let f : left ≡ 0 → ⊥ = eqb-false left 0 e in
            let one : n + min 1 left ≡ suc n = omega arith in
            ap (λ (x : ℕ). cond (eqb x 5) [] (value ∷ rest)) p
            ∙ ap₂ (λ (w : ℕ) (r : List ℕ). w ∷ r) (word e) (h ∙ ap (λ (x : ℕ). take k (drop x words)) one)
            ∙ ap (take (suc k)) (sym (drop-cons words n 0 (some_left e)))

  -- a buffer send adds what it writes at the start of a buffer
  pub fill_adds : (sh : List ℕ) (q : Queue) → Holds ed ss n sh q → (room : ℕ) → take n words ++ take (min room left) (send_buffer (widths ed) sh q (replicate room 0)) ≡ take (n + min room left) words
  unfolding send_buffer
  fill_adds sh q h room =
      let sent : ℕ → List ℕ = λ m. send_words (widths ed) m sh q in
      ap (λ (m : ℕ). take n words ++ take (min room left) (sent m ++ drop (length (sent m)) (replicate room 0))) (length-replicate room 0)
      ∙ ap (λ (ws : List ℕ). take n words ++ ws) (take_at (sent room) (drop (length (sent room)) (replicate room 0)) (min room left) (many_count ed ss sixteen sh room n q h) ∙ (many ed ss sixteen sh room n q h).0)
      ∙ sym (take-add n (min room left) words)
