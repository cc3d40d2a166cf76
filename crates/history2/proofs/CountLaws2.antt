-- Counters and the ledger's own: each register is the ledger's fields, four bits each, and the sixteen numbers are its counts two by two; both stay so
-- whatever is written or counted. By induction on the list. Assumes nothing.
use Prim.Native.Nat.{ℕ, zero, suc, ◌+◌, ◌-◌, ◌*◌, ◌/◌, ◌%◌, ◌^◌, ◌<◌, suc-le-suc}
use native.Mathlib.Nat.{add-suc, add-zero, div-div-eq-div-mul, div-one, le_of_suc-le-suc, not-suc-le-zero, pow-suc, suc-add, zero-add, zero-lt-suc}
use native.Mathlib.Omega.{arith}
use mathlib.Core.Path.{◌≡◌, refl, sym, ap, ap₂, ◌∙◌, subst}
use mathlib.Core.Bool.{Bool, true, false, cond}
use mathlib.Core.List.{List, [], ◌∷◌}
use lib.Dec.{eqb, leb}
use lib.ListN.{length, get_or}
use Rattle.counters.specs.Bank.{each, grown}
use Rattle.counters2.specs.Counts.{carried, reaching}
use Rattle.counters2.specs.Fields.{field_at, kept, written_fields}
use Rattle.counters2.proofs.FieldLaws.{field_suc, field_zero, next_field}
use Rattle.counters2.proofs.GrowLaws.{upper_even, upper_odd}
use Rattle.history.specs.Ledger.{each_from}
use Rattle.history2.specs.Counts2.{Control2, Count, apart, field_in, flat, grown_by, high_of, holding, is_joined, joined, low_of, no_control, no_count, packed, paired, put_high, put_low, put_where}

-- ---- a register, field by field

bits_from : (x i : ℕ) → x / 16 ^ i ≡ x / 2 ^ (4 * i)
bits_from x zero = refl
bits_from x (suc i) =
    ap (λ (n : ℕ). x / n) (pow-suc 16 i) ∙ sym (div-div-eq-div-mul x (16 ^ i) 16) ∙ ap (λ (n : ℕ). n / 16) (bits_from x i) ∙ sym (next_field x i)

pub field_in_lem : (x i : ℕ) → field_at x i ≡ field_in x i
field_in_lem x i = ap (λ (n : ℕ). n % 16) (sym (bits_from x i))

module _ (g : Control2 → ℕ) where
  -- field i is counter i's
  pub packed_field : (ks : List Control2) (i : ℕ) → i < length ks → field_at (packed g ks) i ≡ g (get_or ks i no_control) % 16
  unfolding packed
  packed_field [] i h = absurd (not-suc-le-zero h)
  packed_field (k ∷ ks) zero h = field_zero (g k % 16 + 16 * packed g ks) ∙ omega arith
  packed_field (k ∷ ks) (suc i) h =
      field_suc (g k % 16 + 16 * packed g ks) i ∙ ap (λ (n : ℕ). field_at n i) (omega arith) ∙ packed_field ks i (le_of_suc-le-suc h)

  -- what changes no field leaves the register
  pub packed_same : (i : ℕ) (f : ℕ → Control2 → Control2) (ks : List Control2) → ((j : ℕ) (k : Control2) → g (f j k) ≡ g k) → packed g ks ≡ packed g (each_from i f ks)
  unfolding each_from packed
  packed_same i f [] h = refl
  packed_same i f (k ∷ ks) h = ap₂ (λ (m n : ℕ). m % 16 + 16 * n) (sym (h i k)) (packed_same (suc i) f ks h)

  -- a write of it
  module _ (low bits : ℕ) (f : ℕ → Control2 → Control2) (does : (j : ℕ) (k : Control2) → g (f j k) ≡ holding low (g k) (field_in bits j)) where
    written_from : (i : ℕ) (ks : List Control2) → written_fields (length ks) low (packed g ks) (bits / 16 ^ i) ≡ packed g (each_from i f ks)
    unfolding each_from packed written_fields
    written_from i [] = refl
    written_from i (k ∷ ks) =
        let old : ℕ = g k % 16 + 16 * packed g ks in
        let first : old % 16 ≡ g k % 16 = omega arith in
        let others : old / 16 ≡ packed g ks = omega arith in
        let next : bits / 16 ^ i / 16 ≡ bits / 16 ^ suc i = div-div-eq-div-mul bits (16 ^ i) 16 ∙ ap (λ (n : ℕ). bits / n) (sym (pow-suc 16 i)) in
        ap₂ (λ (m n : ℕ). m + 16 * n)
        (ap (λ (n : ℕ). kept low n (field_in bits i)) first ∙ held (eqb (field_in bits i % low) 0) ∙ ap (λ (n : ℕ). n % 16) (sym (does i k)))
        (ap₂ (written_fields (length ks) low) others next ∙ written_from (suc i) ks)
      where
        held : (b : Bool) → cond b (g k % 16) (field_in bits i) ≡ cond b (g k) (field_in bits i) % 16
        held true = refl
        held false = omega arith

    pub packed_written : (ks : List Control2) → length ks ≡ 16 → written_fields 16 low (packed g ks) bits ≡ packed g (each_from 0 f ks)
    packed_written ks e =
        ap₂ (λ (n x : ℕ). written_fields n low (packed g ks) x) (sym e) (sym (div-one bits)) ∙ written_from 0 ks

-- ---- the counters' numbers, two by two

pub flat_length : (cs : List Count) → length (flat cs) ≡ 2 * length cs
unfolding flat
flat_length [] = refl
flat_length (c ∷ cs) = omega (arith, flat_length cs)

-- counter 2j and counter 2j + 1
pub flat_low : (cs : List Count) (j : ℕ) → get_or (flat cs) (2 * j) 0 ≡ low_of (get_or cs j no_count)
unfolding flat
flat_low [] j = refl
flat_low (c ∷ cs) zero = refl
flat_low (c ∷ cs) (suc j) =
    let next : 2 * suc j ≡ suc (suc (2 * j)) = omega arith in
    ap (λ (n : ℕ). get_or (low_of c ∷ high_of c ∷ flat cs) n 0) next ∙ flat_low cs j

pub flat_high : (cs : List Count) (j : ℕ) → get_or (flat cs) (suc (2 * j)) 0 ≡ high_of (get_or cs j no_count)
unfolding flat
flat_high [] j = refl
flat_high (c ∷ cs) zero = refl
flat_high (c ∷ cs) (suc j) =
    let next : 2 * suc j ≡ suc (suc (2 * j)) = omega arith in
    ap (λ (n : ℕ). get_or (low_of c ∷ high_of c ∷ flat cs) (suc n) 0) next ∙ flat_high cs j

-- what is done to two numbers is what is done to the count at place n
abbrev pub Does : (ℕ → ℕ → ℕ) → (ℕ → Count → Count) → ℕ → Count → Type 0
Does g f n c = (g (2 * n) (low_of c) ≡ low_of (f n c)) × (g (suc (2 * n)) (high_of c) ≡ high_of (f n c))

module _ (g : ℕ → ℕ → ℕ) (f : ℕ → Count → Count) where
  each_from_lem : (i : ℕ) (cs : List Count) → ((j : ℕ) → j < length cs → Does g f (i + j) (get_or cs j no_count)) → each g (2 * i) (flat cs) ≡ flat (each_from i f cs)
  unfolding each each_from flat
  each_from_lem i [] h = refl
  each_from_lem i (c ∷ cs) h =
      let here : Does g f i c = subst (λ (n : ℕ). Does g f n c) (add-zero i) (h 0 (zero-lt-suc (length cs))) in
      let next : suc (suc (2 * i)) ≡ 2 * suc i = omega arith in
      ap₂ (λ (x : ℕ) (l : List ℕ). x ∷ l) here.0
      (ap₂ (λ (x : ℕ) (l : List ℕ). x ∷ l) here.1
      (ap (λ (n : ℕ). each g n (flat cs)) next
      ∙ each_from_lem (suc i) cs (λ j p. subst (λ (n : ℕ). Does g f n (get_or cs j no_count)) (add-suc i j ∙ sym (suc-add i j)) (h (suc j) (suc-le-suc p)))))

  -- one law for all changes
  pub flat_each : (cs : List Count) → ((j : ℕ) → j < length cs → Does g f j (get_or cs j no_count)) → each g 0 (flat cs) ≡ flat (each_from 0 f cs)
  flat_each cs h = each_from_lem 0 cs (λ j p. subst (λ (n : ℕ). Does g f n (get_or cs j no_count)) (sym (zero-add j)) (h j p))

-- ---- writings

put_low_low : (x : ℕ) (c : Count) → x < 2 ^ 32 → low_of (put_low x c) ≡ x
put_low_low x (apart a b) h = omega arith
put_low_low x (joined t) h = omega arith

put_low_high : (x : ℕ) (c : Count) → x < 2 ^ 32 → high_of (put_low x c) ≡ high_of c
put_low_high x (apart a b) h = refl
put_low_high x (joined t) h = omega arith

put_high_low : (x : ℕ) (c : Count) → low_of (put_high x c) ≡ low_of c
put_high_low x (apart a b) = refl
put_high_low x (joined t) = omega arith

put_high_high : (x : ℕ) (c : Count) → x < 2 ^ 32 → high_of (put_high x c) ≡ x
put_high_high x (apart a b) h = omega arith
put_high_high x (joined t) h = omega arith

-- a number written to the counters that a test names
pub put_values : (f : ℕ → Bool) (x : ℕ) (cs : List Count) → x < 2 ^ 32 → each (λ i v. cond (f i) x v) 0 (flat cs) ≡ flat (each_from 0 (put_where f x) cs)
put_values f x cs h = flat_each (λ i v. cond (f i) x v) (put_where f x) cs (λ j p. go (f (2 * j)) (f (suc (2 * j))) (get_or cs j no_count))
  where
    put : Bool → Bool → Count → Count
    put a b c = let low = cond a (put_low x c) c in cond b (put_high x low) low

    go : (a b : Bool) (c : Count) → (cond a x (low_of c) ≡ low_of (put a b c)) × (cond b x (high_of c) ≡ high_of (put a b c))
    go true true c = (sym (put_high_low x (put_low x c) ∙ put_low_low x c h), sym (put_high_high x (put_low x c) h))
    go true false c = (sym (put_low_low x c h), sym (put_low_high x c h))
    go false true c = (sym (put_high_low x c), sym (put_high_high x c h))
    go false false c = (refl, refl)

-- "A change of pairing itself alters neither half"
paired_same : (b : Bool) (c : Count) → (low_of (paired b c) ≡ low_of c) × (high_of (paired b c) ≡ high_of c)
paired_same true (apart a b) = (omega arith, omega arith)
paired_same true (joined t) = (refl, refl)
paired_same false (apart a b) = (refl, refl)
paired_same false (joined t) = (omega arith, omega arith)

pub paired_values : (f : ℕ → Bool) (i : ℕ) (cs : List Count) → flat cs ≡ flat (each_from i (λ j c. paired (f j) c) cs)
unfolding each_from flat
paired_values f i [] = refl
paired_values f i (c ∷ cs) =
    let same = paired_same (f i) c in
    λ k. sym same.0 k ∷ sym same.1 k ∷ paired_values f (suc i) cs k

-- ---- events

grown_count : (n m : ℕ) (c : Count) → (grown (low_of c) n ≡ low_of (grown_by n m c)) × (grown (high_of c) (cond (is_joined c) ((low_of c + n) / 2 ^ 32) m) ≡ high_of (grown_by n m c))
grown_count n m (apart a b) = (omega arith, omega arith)
grown_count n m (joined t) = (omega arith, omega arith)

-- each counter counts its own events and a pair the even one's, where the pairing is the Mode register's
module _ (mode : ℕ) (own : ℕ → ℕ) (cs : List Count) (same : (j : ℕ) → j < length cs → leb 8 (field_at mode (2 * j)) ≡ is_joined (get_or cs j no_count)) where
  pub counted_values : each (λ i v. grown v (reaching mode own (flat cs) i)) 0 (flat cs) ≡ flat (each_from 0 (λ j c. grown_by (own (2 * j)) (own (suc (2 * j))) c) cs)
  counted_values =
      flat_each (λ i v. grown v (reaching mode own (flat cs) i)) (λ j c. grown_by (own (2 * j)) (own (suc (2 * j))) c) cs
      (λ j p.
      let c : Count = get_or cs j no_count in
      let does = grown_count (own (2 * j)) (own (suc (2 * j))) c in
      let odd : suc (2 * j) % 2 ≡ 1 = omega arith in
      let below : suc (2 * j) - 1 ≡ 2 * j = omega arith in (
        ap (λ (b : Bool). grown (low_of c) (cond b (carried own (flat cs) (2 * j)) (own (2 * j)))) (upper_even mode (2 * j) (λ e. omega arith)) ∙ does.0,
        ap₂ (λ (b : Bool) (v : ℕ). grown (high_of c) (cond b ((v + own (2 * j)) / 2 ^ 32) (own (suc (2 * j)))))
            (upper_odd mode (suc (2 * j)) odd ∙ ap (λ (n : ℕ). leb 8 (field_at mode n)) below ∙ same j p) (flat_low cs j)
            ∙ does.1,
      ))
