-- Counting twice is counting the sum, and counting nothing changes no number of 32 bits: place by place. The events of a divided clock in
-- some ticks and then more are those in all of them, for any divisor. Assumes nothing.
use Rattle.std.proofs.Common.{◌≡◌, ℕ, suc, ◌+◌, ◌-◌, ◌*◌, ◌/◌, ◌%◌, ◌^◌, ◌<◌, Bool, true, false, cond, eqb, List, [], ◌∷◌, get_or, sym, refl, ap, ◌∙◌, add_assoc, mod-lt, mod-eq_of_lt, arith, ne_eqb, eqb-true}
use native.Mathlib.Nat.{div-add-mod, div-eq_of_lt, div_self, mod-add-mod, mod_self, mul-add-div}
use Rattle.std.proofs.lemmas.Bool.Decides.{nat_tests}
use borrow.Author.Tests.{eqb-false}
use Rattle.counters.specs.Bank.{counting, each, grown}
use Rattle.counters.specs.Due.{divisor_of}
use Rattle.counters.specs.declared.bank.Bank.{Bank}
use Rattle.counters.proofs.EachLaws.{each_is}

-- a function of place and number after another
pub each_each : (f g : ℕ → ℕ → ℕ) (i : ℕ) (vs : List ℕ) → each g i (each f i vs) ≡ each (λ j v. g j (f j v)) i vs
unfolding each
each_each f g i [] = refl
each_each f g i (v ∷ vs) = ap (λ (l : List ℕ). g i (f i v) ∷ l) (each_each f g (suc i) vs)

pub grown_grown : (v a b : ℕ) → grown (grown v a) b ≡ grown v (a + b)
grown_grown v a b = omega arith

grown_twice : (t : Bool) (v a b : ℕ) → cond t (grown (cond t (grown v a) v) b) (cond t (grown v a) v) ≡ cond t (grown v (a + b)) v
grown_twice t v a b = grind (arith, nat_tests)

grown_none : (t : Bool) (v : ℕ) → v < 2 ^ 32 → cond t (grown v 0) v ≡ v
grown_none t v h = grind (arith, nat_tests)

pub counting_twice : (f : ℕ → Bool) (a b : ℕ) (x : Bank) → counting f b (counting f a x) ≡ counting f (a + b) x
counting_twice f a b x =
    let once : ℕ → ℕ → ℕ = λ i v. cond (f i) (grown v a) v in
    let again : ℕ → ℕ → ℕ = λ i v. cond (f i) (grown v b) v in
    let values : each again 0 (each once 0 x.values) ≡ each (λ i v. cond (f i) (grown v (a + b)) v) 0 x.values =
    each_each once again 0 x.values ∙ (λ t. each (λ i v. grown_twice (f i) v a b t) 0 x.values) in
    λ t. record { values = values t; shadows = x.shadows }

pub counting_none : (f : ℕ → Bool) (x : Bank) → ((i : ℕ) → get_or x.values i 0 < 2 ^ 32) → counting f 0 x ≡ x
counting_none f x h =
    λ t. record { values = each_is (λ i v. cond (f i) (grown v 0) v) x.values x.values refl (λ j p. grown_none (f j) (get_or x.values j 0) (h j)) t; shadows = x.shadows }

-- ---- a divided clock

-- the events in n ticks, and those in k more from the phase that these leave
pub events_sum : (d n k : ℕ) → 0 < d → (n + k) / d ≡ n / d + (n % d + k) / d
events_sum d n k h =
    ap (λ (m : ℕ). (m + k) / d) (sym (div-add-mod n d))
    ∙ ap (λ (m : ℕ). m / d) (add_assoc (d * (n / d)) (n % d) k)
    ∙ mul-add-div h (n / d) (n % d + k)

-- and where one more tick makes one: where all of them are a multiple of the divisor
pub event_falls : (d n : ℕ) → 0 < d → (n + 1) / d - n / d ≡ cond (eqb ((n + 1) % d) 0) 1 0
event_falls d n h = go (eqb (n % d + 1) d) refl
  where
    told : (m : ℕ) → (n + 1) / d ≡ n / d + m → (n + 1) / d - n / d ≡ m
    told m e = omega arith

    by : (m r : ℕ) → (n % d + 1) / d ≡ m → (n % d + 1) % d ≡ r → m ≡ cond (eqb r 0) 1 0 → (n + 1) / d - n / d ≡ cond (eqb ((n + 1) % d) 0) 1 0
    by m r p q e =
        told m (events_sum d n 1 h ∙ ap (λ (x : ℕ). n / d + x) p) ∙ e ∙ ap (λ (x : ℕ). cond (eqb x 0) 1 0) (sym (sym (mod-add-mod n d 1) ∙ q))

    go : (b : Bool) → eqb (n % d + 1) d ≡ b → (n + 1) / d - n / d ≡ cond (eqb ((n + 1) % d) 0) 1 0
    go true e =
        let all : n % d + 1 ≡ d = eqb-true (n % d + 1) d e in
        by 1 0 (ap (λ (x : ℕ). x / d) all ∙ div_self h) (ap (λ (x : ℕ). x % d) all ∙ mod_self d) refl
    go false e =
        let less : n % d + 1 < d = omega (arith, mod-lt n h, eqb-false (n % d + 1) d e) in
        by 0 (n % d + 1) (div-eq_of_lt less) (mod-eq_of_lt less) (ap (λ (b : Bool). cond b 1 0) (sym (ne_eqb (n % d + 1) 0 (λ z. omega arith))))

pub divisor_some : (hundredth : Bool) → 0 < divisor_of hundredth
divisor_some hundredth = grind (arith, nat_tests)
