-- Counters and the ledger's own: each register of the chip is the ledger's counters bit by bit, each counter is its events modulo 2^32, and
-- both stay so whatever happens. Assumes nothing.
use Prim.Native.Nat.{ℕ, zero, suc, ◌+◌, ◌*◌, ◌/◌, ◌%◌, ◌^◌, ◌<◌, suc-le-suc}
use native.Mathlib.Nat.{mod-add-mod, zero-add, suc-add, add-zero, add-suc, le_of_suc-le-suc, not-suc-le-zero, pow-suc, zero-lt-suc}
use native.Mathlib.Omega.{arith}
use mathlib.Core.Path.{◌≡◌, refl, sym, ap, ap₂, ◌∙◌}
use mathlib.Core.Bool.{Bool, true, false, cond, ◌&&◌}
use mathlib.Core.List.{List, [], ◌∷◌, map}
use lib.Dec.{eqb}
use lib.ListN.{length, get_or, length-map, get_or-map}
use borrow.Author.Tests.{eqb-true, eqb-false}
use Rattle.counters.specs.Bank.{bit, each, grown}
use Rattle.counters.specs.Due.{divisor_of, field_of, selects}
use Rattle.counters.specs.declared.switches.Kind.{Kind}
use Rattle.counters.proofs.BitLaws.{half_bit, selects_field}
use Rattle.counters.proofs.EachLaws.{each_is}
use Rattle.counters.proofs.TickLaws.{event_falls, events_sum}
use Rattle.history.specs.Ledger.{Counter, each_from, no_counter, packed, slow_in}

-- a number modulo 2^32
abbrev pub wrapped : ℕ → ℕ
wrapped n = n % 2 ^ 32

-- growing before or after the wrap is the same
pub wrapped_grown : (n k : ℕ) → wrapped (n + k) ≡ grown (wrapped n) k
wrapped_grown n k = sym (mod-add-mod n (2 ^ 32) k)

-- a counter's number
abbrev pub value_of : Counter → ℕ
value_of k = wrapped k.events

-- ---- each counter in turn, or each of other things

pub each_length : {A : Type 0} (i : ℕ) (f : ℕ → A → A) (ks : List A) → length (each_from i f ks) ≡ length ks
unfolding each_from
each_length i f [] = refl
each_length i f (k ∷ ks) = ap suc (each_length (suc i) f ks)

each_from_lem : {A : Type 0} (d : A) (i : ℕ) (f : ℕ → A → A) (ks : List A) (j : ℕ) → j < length ks → get_or (each_from i f ks) j d ≡ f (i + j) (get_or ks j d)
unfolding each_from
each_from_lem d i f [] j h = absurd (not-suc-le-zero h)
each_from_lem d i f (k ∷ ks) zero h = ap (λ (n : ℕ). f n k) (sym (add-zero i))
each_from_lem d i f (k ∷ ks) (suc j) h =
    each_from_lem d (suc i) f ks j (le_of_suc-le-suc h) ∙ ap (λ (n : ℕ). f n (get_or ks j d)) (suc-add i j ∙ sym (add-suc i j))

pub each_at : {A : Type 0} (d : A) (f : ℕ → A → A) (ks : List A) (j : ℕ) → j < length ks → get_or (each_from 0 f ks) j d ≡ f j (get_or ks j d)
each_at d f ks j h = each_from_lem d 0 f ks j h ∙ ap (λ (n : ℕ). f n (get_or ks j d)) (zero-add j)

-- what none of them changes stays
pub each_same : {A B : Type 0} (g : A → B) (i : ℕ) (f : ℕ → A → A) (ks : List A) → ((j : ℕ) (k : A) → g (f j k) ≡ g k) → map g (each_from i f ks) ≡ map g ks
unfolding each_from
each_same g i f [] h = refl
each_same g i f (k ∷ ks) h = ap₂ (λ x l. x ∷ l) (h i k) (each_same g (suc i) f ks h)

-- what is done to a counter under a test keeps what it doesn't change
pub under : {B : Type 0} (g : Counter → B) (t : Bool) (x k : Counter) → g x ≡ g k → g (cond t x k) ≡ g k
under g true x k e = e
under g false x k e = refl

-- ---- a register, bit by bit

pub packed_same : (g : Counter → Bool) (i : ℕ) (f : ℕ → Counter → Counter) (ks : List Counter) → ((j : ℕ) (k : Counter) → g (f j k) ≡ g k) → packed g ks ≡ packed g (each_from i f ks)
unfolding each_from packed
packed_same g i f [] h = refl
packed_same g i f (k ∷ ks) h = ap₂ (λ (b : Bool) (n : ℕ). cond b 1 0 + 2 * n) (sym (h i k)) (packed_same g (suc i) f ks h)

pub packed_bit : (g : Counter → Bool) (ks : List Counter) (j : ℕ) → j < length ks → bit (packed g ks) j ≡ g (get_or ks j no_counter)
unfolding packed
packed_bit g [] j h = absurd (not-suc-le-zero h)
packed_bit g (k ∷ ks) zero h = go (g k) (packed g ks)
  where
    go : (b : Bool) (n : ℕ) → eqb ((cond b 1 0 + 2 * n) / 2 ^ 0 % 2) 1 ≡ b
    go true n = let one : (1 + 2 * n) / 1 % 2 ≡ 1 = omega arith in ap (λ (m : ℕ). eqb m 1) one
    go false n = let none : (0 + 2 * n) / 1 % 2 ≡ 0 = omega arith in ap (λ (m : ℕ). eqb m 1) none
packed_bit g (k ∷ ks) (suc j) h =
    ap (λ (m : ℕ). eqb (m % 2) 1) (half_bit (cond (g k) 1 0 + 2 * packed g ks) j ∙ ap (λ (m : ℕ). m / 2 ^ j) (go (g k) (packed g ks)))
    ∙ packed_bit g ks j (le_of_suc-le-suc h)
  where
    go : (b : Bool) (n : ℕ) → (cond b 1 0 + 2 * n) / 2 ≡ n
    go true n = omega arith
    go false n = omega arith

-- a number with these bits, and no others, is packed so
pub packed_is : (g : Counter → Bool) (ks : List Counter) (x : ℕ) → x < 2 ^ length ks → ((j : ℕ) → j < length ks → bit x j ≡ g (get_or ks j no_counter)) → x ≡ packed g ks
unfolding packed
packed_is g [] x h p = omega arith
packed_is g (k ∷ ks) x h p =
    let two : 2 ^ suc (length ks) ≡ 2 ^ length ks * 2 = pow-suc 2 (length ks) in
    go (g k) (p 0 (zero-lt-suc (length ks)))
    (packed_is g ks (x / 2) (omega arith) (λ j q. ap (λ (m : ℕ). eqb (m % 2) 1) (sym (half_bit x j)) ∙ p (suc j) (suc-le-suc q)))
  where
    go : (b : Bool) → eqb (x / 2 ^ 0 % 2) 1 ≡ b → x / 2 ≡ packed g ks → x ≡ cond b 1 0 + 2 * packed g ks
    go true e r = let one : x / 1 % 2 ≡ 1 = eqb-true (x / 1 % 2) 1 e in omega arith
    go false e r = let none : x / 1 % 2 ≡ 1 → ⊥ = eqb-false (x / 1 % 2) 1 e in omega arith

-- after something is done to each of n counters
pub packed_each : (g : Counter → Bool) (f : ℕ → Counter → Counter) (ks : List Counter) (n x : ℕ) → length ks ≡ n → x < 2 ^ n → ((j : ℕ) → j < n → bit x j ≡ g (f j (get_or ks j no_counter))) → x ≡ packed g (each_from 0 f ks)
packed_each g f ks n x e h p =
    let long : length (each_from 0 f ks) ≡ n = each_length 0 f ks ∙ e in
    packed_is g (each_from 0 f ks) x (rw long h)
    (λ j q. let q' : j < n = rw long at q in p j q' ∙ ap g (sym (each_at no_counter f ks j (rw e q'))))

-- it has no other bits
pub packed_lt : (g : Counter → Bool) (ks : List Counter) → packed g ks < 2 ^ length ks
unfolding packed
packed_lt g [] = omega arith
packed_lt g (k ∷ ks) = go (g k) (packed_lt g ks)
  where
    go : (b : Bool) → packed g ks < 2 ^ length ks → cond b 1 0 + 2 * packed g ks < 2 ^ suc (length ks)
    go true h = omega (arith, pow-suc 2 (length ks))
    go false h = omega (arith, pow-suc 2 (length ks))

-- ---- the counters' numbers

pub values_each : (g : ℕ → ℕ → ℕ) (f : ℕ → Counter → Counter) (ks : List Counter) → ((j : ℕ) → j < length ks → g j (value_of (get_or ks j no_counter)) ≡ value_of (f j (get_or ks j no_counter))) → each g 0 (map value_of ks) ≡ map value_of (each_from 0 f ks)
values_each g f ks p =
    each_is g (map value_of ks) (map value_of (each_from 0 f ks))
    (length-map ks value_of ∙ sym (length-map (each_from 0 f ks) value_of ∙ each_length 0 f ks))
    (λ j q.
    let h : j < length ks = rw length-map at q in
    ap (g j) (get_or-map value_of ks j no_counter) ∙ p j h ∙ ap value_of (sym (each_at no_counter f ks j h)) ∙ sym (get_or-map value_of (each_from 0 f ks) j no_counter))

pub value_at_lem : (ks : List Counter) (i : ℕ) → get_or (map value_of ks) i 0 ≡ value_of (get_or ks i no_counter)
value_at_lem ks i = get_or-map value_of ks i no_counter

-- the chip's kinds and the ledger's numbers
pub selects_number : (kind : Kind) (high low : Bool) → selects kind high low ≡ eqb (cond high 2 0 + cond low 1 0) (field_of kind)
selects_number kind true true = selects_field kind 1 1 (omega arith) (omega arith)
selects_number kind true false = selects_field kind 1 0 (omega arith) (omega arith)
selects_number kind false true = selects_field kind 0 1 (omega arith) (omega arith)
selects_number kind false false = selects_field kind 0 0 (omega arith) (omega arith)

-- n events that count under a test
pub counted_value : (a b : Bool) (n : ℕ) (k : Counter) → cond (a && b) (grown (value_of k) n) (value_of k) ≡ value_of (cond a (cond b (record { on = k.on; high = k.high; low = k.low; events = k.events + n }) k) k)
counted_value true true n k = sym (wrapped_grown k.events n)
counted_value true false n k = refl
counted_value false b n k = refl

-- ---- the slow clock

-- the events among k ticks, from the ticks so far or from the phase
pub slow_same : (hundredth : Bool) (ticks k : ℕ) → slow_in hundredth ticks k ≡ (ticks % divisor_of hundredth + k) / divisor_of hundredth
slow_same true ticks k = omega (arith, events_sum 100 ticks k (omega arith))
slow_same false ticks k = omega (arith, events_sum 10 ticks k (omega arith))

-- "A slow event falls on every tenth Timestamp tick since the last reset", or on every hundredth: on that tick one, and none on another
pub slow_falls : (hundredth : Bool) (ticks : ℕ) → slow_in hundredth ticks 1 ≡ cond (eqb ((ticks + 1) % cond hundredth 100 10) 0) 1 0
slow_falls true ticks = event_falls 100 ticks (omega arith)
slow_falls false ticks = event_falls 10 ticks (omega arith)
