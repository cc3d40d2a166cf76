-- Laws of counting: which counters are upper halves, counting the same events, events twice and none. Place by place. Assumes nothing.
use Rattle.std.proofs.Common.{◌≡◌, ℕ, zero, suc, ◌+◌, ◌-◌, ◌/◌, ◌%◌, ◌^◌, ◌<◌, Bool, true, false, cond, leb, List, length, get_or, sym, refl, ap, ◌∙◌, ap₂, add_assoc, arith}
use Rattle.std.proofs.lemmas.Bool.Decides.{nat_tests}
use Rattle.counters.specs.Bank.{each, grown}
use Rattle.counters.specs.declared.bank.Bank.{Bank}
use Rattle.counters.proofs.EachLaws.{each_at, each_is, each_length}
use Rattle.counters.proofs.TickLaws.{events_sum, grown_grown}
use Rattle.counters2.specs.Counts.{carried, counted, reaching, upper}
use Rattle.counters2.specs.Fields.{field_at}

-- ---- upper halves

pub upper_odd : (mode i : ℕ) → i % 2 ≡ 1 → upper mode i ≡ leb 8 (field_at mode (i - 1))
upper_odd mode zero h = absurd (omega arith)
upper_odd mode (suc i) h = grind (arith, nat_tests)

pub upper_even : (mode i : ℕ) → (i % 2 ≡ 1 → ⊥) → upper mode i ≡ false
upper_even mode zero h = refl
upper_even mode (suc i) h = grind (arith, nat_tests)

-- ---- the same events

reaching_same : (mode n : ℕ) (f g : ℕ → ℕ) (vs : List ℕ) → ((i : ℕ) → i < n → f i ≡ g i) → (i : ℕ) → i < n → reaching mode f vs i ≡ reaching mode g vs i
reaching_same mode n f g vs same zero h = same 0 h
reaching_same mode n f g vs same (suc i) h =
    ap₂ (λ (x y : ℕ). cond (upper mode (suc i)) ((get_or vs i 0 + x) / 2 ^ 32) y) (same i (omega arith)) (same (suc i) h)

-- what reaches each counter is the same
module _ (mode : ℕ) (f g : ℕ → ℕ) (b : Bank) where
  abbrev grows : (ℕ → ℕ) → ℕ → ℕ → ℕ
  grows own i v = grown v (reaching mode own b.values i)

  pub counted_same : ((i : ℕ) → i < length b.values → f i ≡ g i) → counted mode f b ≡ counted mode g b
  counted_same same =
      let vs : List ℕ = b.values in
      let values : each (grows f) 0 vs ≡ each (grows g) 0 vs =
      each_is (grows f) vs (each (grows g) 0 vs) (sym (each_length (grows g) 0 vs))
      (λ i h. ap (grown (get_or vs i 0)) (reaching_same mode (length vs) f g vs same i h) ∙ sym (each_at (grows g) i vs h)) in
      λ i. record { values = values i; shadows = b.shadows }

-- ---- events twice, and none

-- a lower half is no upper half
pub lower_plain : (mode i : ℕ) → upper mode (suc i) ≡ true → upper mode i ≡ false
lower_plain mode zero e = refl
lower_plain mode (suc i) e = grind (arith, nat_tests)

-- what a counter holds after some events
pub counted_at : (mode : ℕ) (f : ℕ → ℕ) (b : Bank) (i : ℕ) → i < length b.values → get_or (counted mode f b).values i 0 ≡ grown (get_or b.values i 0) (reaching mode f b.values i)
counted_at mode f b i h = each_at (λ j v. grown v (reaching mode f b.values j)) i b.values h

module _ (mode : ℕ) (f g : ℕ → ℕ) (b : Bank) where
  -- what reaches a counter of both is what reaches it of their sum
  reaching_sum : (i : ℕ) → i < length b.values → grown (grown (get_or b.values i 0) (reaching mode f b.values i)) (reaching mode g (counted mode f b).values i) ≡ grown (get_or b.values i 0) (reaching mode (λ j. f j + g j) b.values i)
  reaching_sum zero h = grown_grown (get_or b.values 0 0) (f 0) (g 0)
  reaching_sum (suc i) h = go (upper mode (suc i)) refl
    where
      v : ℕ
      v = get_or b.values (suc i) 0

      go : (u : Bool) → upper mode (suc i) ≡ u → grown (grown v (cond u (carried f b.values (suc i)) (f (suc i)))) (cond u (carried g (counted mode f b).values (suc i)) (g (suc i))) ≡ grown v (cond u (carried (λ j. f j + g j) b.values (suc i)) (f (suc i) + g (suc i)))
      go true e =
          let low : ℕ = get_or b.values i 0 in
          let now : get_or (counted mode f b).values i 0 ≡ (low + f i) % 2 ^ 32 =
          counted_at mode f b i (omega arith)
          ∙ ap (λ (t : Bool). grown low (cond t (carried f b.values i) (f i))) (lower_plain mode i e) in
          grown_grown v ((low + f i) / 2 ^ 32) ((get_or (counted mode f b).values i 0 + g i) / 2 ^ 32)
          ∙ ap (grown v)
          (ap (λ (n : ℕ). (low + f i) / 2 ^ 32 + (n + g i) / 2 ^ 32) now
          ∙ sym (events_sum (2 ^ 32) (low + f i) (g i) (omega arith))
          ∙ ap (λ (n : ℕ). n / 2 ^ 32) (add_assoc low (f i) (g i)))
      go false e = grown_grown v (f (suc i)) (g (suc i))

  pub counted_twice : counted mode g (counted mode f b) ≡ counted mode (λ i. f i + g i) b
  counted_twice =
      let sum : ℕ → ℕ → ℕ = λ i v. grown v (reaching mode (λ j. f j + g j) b.values i) in
      let again : ℕ → ℕ → ℕ = λ i v. grown v (reaching mode g (counted mode f b).values i) in
      let long : length (counted mode f b).values ≡ length b.values = each_length _ 0 b.values in
      let values : each again 0 (counted mode f b).values ≡ each sum 0 b.values =
      each_is again (counted mode f b).values (each sum 0 b.values) (long ∙ sym (each_length sum 0 b.values))
      (λ i h.
      let k : i < length b.values = omega arith in
      ap (λ (v : ℕ). grown v (reaching mode g (counted mode f b).values i)) (counted_at mode f b i k) ∙ reaching_sum i k ∙ sym (each_at sum i b.values k)) in
      λ i. record { values = values i; shadows = b.shadows }

-- no event changes no number of 32 bits
pub counted_none : (mode : ℕ) (f : ℕ → ℕ) (b : Bank) → ((i : ℕ) → f i ≡ 0) → ((i : ℕ) → get_or b.values i 0 < 2 ^ 32) → counted mode f b ≡ b
counted_none mode f b none small =
    let vs : List ℕ = b.values in
    let values : each (λ i v. grown v (reaching mode f vs i)) 0 vs ≡ vs =
    each_is (λ i v. grown v (reaching mode f vs i)) vs vs refl (λ i h. ap (grown (get_or vs i 0)) (nothing i) ∙ omega (arith, small i)) in
    λ i. record { values = values i; shadows = b.shadows }
  where
    nothing : (i : ℕ) → reaching mode f b.values i ≡ 0
    nothing zero = none 0
    nothing (suc i) = go (upper mode (suc i))
      where
        go : (u : Bool) → cond u (carried f b.values (suc i)) (f (suc i)) ≡ 0
        go true = omega (arith, small i, none i)
        go false = none (suc i)
