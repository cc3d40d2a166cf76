-- Laws for a trigger that waits, for both editions: why it is told to wait, what a write that may come in between is not, and when there is room again, over the
-- edition. Assumes, where said, that the places fit to begin with.
use Prim.Native.Nat.{ℕ, zero, suc, ◌+◌, ◌-◌, ◌≤◌, ◌<◌, min}
use native.Mathlib.Nat.{le_of_suc-le-suc, not-suc-le-zero}
use native.Mathlib.Omega.{arith}
use mathlib.Core.Path.{◌≡◌, refl, sym, ap, ◌∙◌}
use mathlib.Core.Bool.{Bool, true, false, not, ◌&&◌, ◌||◌, false≢true}
use mathlib.Core.List.{List}
use lib.Dec.{eqb, leb, ltb}
use borrow.Author.Tests.{eqb-true, ne_eqb, le-leb, leb-true, leb-false, ltb-false}
use Rattle.samples.specs.Layout.{sample_length, widths}
use Rattle.samples.specs.declared.edition.Edition.{Edition}
use Rattle.samples.specs.declared.sample.Sample.{Sample}
use Rattle.chip.proofs.ChipLaws.{not_true}
use Rattle.history.specs.Ledger.{Settings, fate_number, is_set}
use Rattle.history.specs.Stream.{any_held, held_of, is_blocked, is_full, total_of}
use Rattle.history.specs.Waiting.{Fits, barred, within}
use Rattle.history.proofs.HeldLaws.{held_none}
use Rattle.history.proofs.Triggers.{fate_by, or_left, or_right}
use Rattle.history.proofs.WaitLaws.{lacks_said, stream_room}

-- ---- told to wait

-- it is told to wait with sampling on, its level enabled and write wait set, where it lacks room
pub told_why : (s p r w : Bool) → fate_number (fate_by s p r w) ≡ 10 → (s ≡ true) × ((p ≡ true) × ((w ≡ true) × (r ≡ true)))
told_why true true true true e = (refl, (refl, (refl, refl)))
told_why true true true false e = absurd (omega arith)
told_why true true false w e = absurd (omega arith)
told_why true false r w e = absurd (omega arith)
told_why false p r w e = absurd (omega arith)

-- the settings under which a trigger of a level is told to wait or taken
abbrev pub Armed : ℕ → Settings → Type 0
Armed level s = (s.sampling ≡ true) × ((is_set s.filter level ≡ true) × (s.writewait ≡ true))

-- ---- what may come in between

-- what a write that may come is not, while the trigger at an address waits
pub quiet_write : (address a : ℕ) → 96 ≤ address → (eqb a address || not (barred a)) ≡ true → (eqb a 0 ≡ false) × ((eqb a 1 ≡ false) × ((eqb a 4 ≡ false) × (ltb 127 a ≡ false → leb 96 a ≡ true → a ≡ address)))
quiet_write address a from may = go (eqb a address) refl may
  where
    go : (b : Bool) → eqb a address ≡ b → (b || not (barred a)) ≡ true → (eqb a 0 ≡ false) × ((eqb a 1 ≡ false) × ((eqb a 4 ≡ false) × (ltb 127 a ≡ false → leb 96 a ≡ true → a ≡ address)))
    go true e p =
        let is : a ≡ address = eqb-true a address e in
        (ne_eqb a 0 (λ z. omega arith), (ne_eqb a 1 (λ z. omega arith), (ne_eqb a 4 (λ z. omega arith), λ x y. is)))
    go false e p =
        let none : barred a ≡ false = not_true (barred a) p in
        let others = or_right (eqb a 0) _ none in
        let last = or_right (eqb a 1) _ others in
        (or_left (eqb a 0) _ none, (or_left (eqb a 1) _ others, (or_left (eqb a 4) _ last, λ x y. absurd (false≢true (sym (or_right (eqb a 4) _ last) ∙ (λ i. y i && le-leb a 127 (ltb-false 127 a x) i))))))

-- any write is free but at 0, 1, 4 and from 96 to 127
pub not_barred : (a : ℕ) → (a ≡ 0 → ⊥) → (a ≡ 1 → ⊥) → (a ≡ 4 → ⊥) → (96 ≤ a → a ≤ 127 → ⊥) → barred a ≡ false
not_barred a n0 n1 n4 outside = λ i. ne_eqb a 0 n0 i || (ne_eqb a 1 n1 i || (ne_eqb a 4 n4 i || beyond (leb 96 a) refl (leb a 127) refl i))
  where
    beyond : (x : Bool) → leb 96 a ≡ x → (y : Bool) → leb a 127 ≡ y → (x && y) ≡ false
    beyond true e true d = absurd (outside (leb-true 96 a e) (leb-true a 127 d))
    beyond true e false d = refl
    beyond false e y d = refl

-- ---- room, by the samples taken and the words sent

abbrev pub lacks_in : Edition → Bool → List Sample → ℕ → Bool
lacks_in ed resource taken sent = is_full (held_of ed taken sent) || is_blocked resource (held_of ed taken sent)

-- the law's words
abbrev pub needed : Edition → Bool → ℕ
needed ed resource = within 8 1 (sample_length (widths ed) false) (sample_length (widths ed) true) resource

module _ (ed : Edition) (resource : Bool) (taken : List Sample) (sent : ℕ) where
  -- after so many words
  pub words_room : (k : ℕ) → Fits ed 8 1 taken sent → needed ed resource ≤ k → lacks_in ed resource taken (sent + k) ≡ false
  words_room k h few =
      sym (lacks_said resource (held_of ed taken (sent + k))) ∙ stream_room ed 8 1 (omega arith) (omega arith) taken sent k h resource few

  -- and where nothing is left
  pub empty_room : total_of ed taken - sent ≡ 0 → lacks_in ed resource taken sent ≡ false
  unfolding any_held
  empty_room e = ap (λ (hs : List Sample). is_full hs || is_blocked resource hs) (held_none ed taken sent (omega arith)) ∙ go resource
    where
      go : (b : Bool) → (b && false) ≡ false
      go true = refl
      go false = refl

  -- so while a trigger waits there is a word to send
  pub lacks_left : lacks_in ed resource taken sent ≡ true → eqb (total_of ed taken - sent) 0 ≡ false
  lacks_left e = go (eqb (total_of ed taken - sent) 0) refl
    where
      go : (b : Bool) → eqb (total_of ed taken - sent) 0 ≡ b → b ≡ false
      go true t = absurd (false≢true (sym (empty_room (eqb-true (total_of ed taken - sent) 0 t)) ∙ e))
      go false t = refl

-- so many single sends, or as many as there are words, make room
pub sends_room : (ed : Edition) (resource : Bool) (taken : List Sample) (sent n : ℕ) → needed ed resource ≤ n → Fits ed 8 1 taken sent → lacks_in ed resource taken (sent + min n (total_of ed taken - sent)) ≡ false
sends_room ed resource taken sent n few h = go (leb n left) refl
  where
    left : ℕ
    left = total_of ed taken - sent

    go : (b : Bool) → leb n left ≡ b → lacks_in ed resource taken (sent + min n left) ≡ false
    go true e =
        let more : n ≤ left = leb-true n left e in
        words_room ed resource taken sent (min n left) h (omega arith)
    go false e =
        let fewer : left < n = leb-false n left e in
        empty_room ed resource taken (sent + min n left) (omega arith)

-- ---- the first number at which a test fails, if it fails at n

pub record FirstNot (f : ℕ → Bool) (n : ℕ) : Type 0 where
  pub at : ℕ
  pub upto : at ≤ n
  pub before : (j : ℕ) → j < at → f j ≡ true
  pub here : f at ≡ false

pub first_not : (n : ℕ) (f : ℕ → Bool) → f n ≡ false → FirstNot f n
first_not zero f e = record { at = 0; upto = omega arith; before = λ j h. absurd (not-suc-le-zero h); here = e }
first_not (suc n) f e = go (f 0) refl (first_not n (λ j. f (suc j)) e)
  where
    go : (b : Bool) → f 0 ≡ b → FirstNot (λ j. f (suc j)) n → FirstNot f (suc n)
    go true t x = record { at = suc x.at; upto = omega (arith, x.upto); before = below; here = x.here }
      where
        below : (j : ℕ) → j < suc x.at → f j ≡ true
        below zero h = t
        below (suc j) h = x.before j (le_of_suc-le-suc h)
    go false t x = record { at = 0; upto = omega arith; before = λ j h. absurd (not-suc-le-zero h); here = t }
