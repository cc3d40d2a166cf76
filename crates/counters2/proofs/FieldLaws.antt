-- Laws of the fields of a register: field i after a write is the data's where its low bits aren't zero, else the old one; a register is known by
-- its fields. By induction on how many there are. Assumes nothing.
use Rattle.std.proofs.Common.{◌≡◌, ℕ, zero, suc, ◌+◌, ◌-◌, ◌*◌, ◌/◌, ◌%◌, ◌^◌, ◌<◌, ◌≤◌, Bool, true, not, ◌&&◌, eqb, sym, refl, ap, ◌∙◌, ap₂, lt_of_lt_of_le, le_of_suc-le-suc, not-suc-le-zero, mod-lt, zero-lt-suc, add_comm, div-one, arith, pow_mono, pow-add, shr-shr, eq-eqb, ne_eqb, add-one}
use Rattle.std.specs.List.{list_all, range_with_len}
use Rattle.std.proofs.lemmas.Bool.Decides.{nat_tests}
use native.Mathlib.Nat.{div-eq_of_lt}
use mathlib.Core.Bool.{false≢true}
use Rattle.words.proofs.WordLaws.{both_left, both_right}
use Rattle.counters2.specs.Fields.{field_at, kept, none_zero, written_fields}

-- the bits from the next field on
pub next_field : (x i : ℕ) → x / 2 ^ (4 * suc i) ≡ x / 2 ^ (4 * i) / 16
next_field x i = ap (λ (n : ℕ). x / 2 ^ n) (omega arith) ∙ sym (shr-shr x (4 * i) 4)

pub field_suc : (x i : ℕ) → field_at x (suc i) ≡ field_at (x / 16) i
field_suc x i = ap (λ (n : ℕ). x / 2 ^ n % 16) (omega arith) ∙ ap (λ (n : ℕ). n % 16) (sym (shr-shr x 4 (4 * i)))

pub field_zero : (x : ℕ) → field_at x 0 ≡ x % 16
field_zero x = ap (λ (n : ℕ). n % 16) (div-one x)

-- a register of 64 bits has no seventeenth field
pub field_past : (x i : ℕ) → x < 2 ^ 64 → 16 ≤ i → field_at x i ≡ 0
field_past x i h p = ap (λ (n : ℕ). n % 16) (div-eq_of_lt (lt_of_lt_of_le h (pow_mono {i = 64} {j = 4 * i} (omega arith))))

-- four bits more
four_more : (n : ℕ) → 2 ^ (4 * suc n) ≡ 16 * 2 ^ (4 * n)
four_more n = ap (λ (k : ℕ). 2 ^ k) (omega arith) ∙ pow-add 2 4 (4 * n)

module _ (low : ℕ) where
  pub kept_below : (old new : ℕ) → old < 16 → new < 16 → kept low old new < 16
  kept_below old new h k = grind (arith, nat_tests)

  -- n fields have 4n bits
  pub written_below : (n old new : ℕ) → written_fields n low old new < 2 ^ (4 * n)
  unfolding written_fields
  written_below zero old new = zero-lt-suc 0
  written_below (suc n) old new =
      omega (arith, four_more n, written_below n (old / 16) (new / 16), kept_below (old % 16) (new % 16) (mod-lt old (zero-lt-suc 15)) (mod-lt new (zero-lt-suc 15)))

  -- below the highest field there is room for one more
  pub written_room : (i old new : ℕ) → i ≤ 16 → 0 < i → written_fields (16 - i) low old new < 2 ^ 60
  written_room i old new h k = lt_of_lt_of_le (written_below (16 - i) old new) (pow_mono {i = 4 * (16 - i)} {j = 60} (omega arith))

  -- what a write leaves in a field
  pub written_field : (n old new i : ℕ) → i < n → field_at (written_fields n low old new) i ≡ kept low (field_at old i) (field_at new i)
  unfolding written_fields
  written_field zero old new i h = absurd (not-suc-le-zero h)
  written_field (suc n) old new zero h =
      let first : kept low (old % 16) (new % 16) < 16 = kept_below (old % 16) (new % 16) (mod-lt old (zero-lt-suc 15)) (mod-lt new (zero-lt-suc 15)) in
      field_zero (written_fields (suc n) low old new)
      ∙ omega arith
      ∙ ap₂ (kept low) (sym (field_zero old)) (sym (field_zero new))
  written_field (suc n) old new (suc i) h =
      let first : kept low (old % 16) (new % 16) < 16 = kept_below (old % 16) (new % 16) (mod-lt old (zero-lt-suc 15)) (mod-lt new (zero-lt-suc 15)) in
      field_suc (written_fields (suc n) low old new) i
      ∙ ap (λ (x : ℕ). field_at x i) (omega arith)
      ∙ written_field n (old / 16) (new / 16) i (le_of_suc-le-suc h)
      ∙ ap₂ (kept low) (sym (field_suc old i)) (sym (field_suc new i))

  -- the fields from i on, and those from the next one on
  pub written_from : (n old new i : ℕ) → written_fields (suc n) low (old / 2 ^ (4 * i)) (new / 2 ^ (4 * i)) ≡ kept low (field_at old i) (field_at new i) + 16 * written_fields n low (old / 2 ^ (4 * suc i)) (new / 2 ^ (4 * suc i))
  unfolding written_fields
  written_from n old new i =
      ap₂ (λ (x y : ℕ). kept low (field_at old i) (field_at new i) + 16 * written_fields n low x y) (sym (next_field old i)) (sym (next_field new i))

  -- one field more, from the highest down
  pub written_step : (old new i j : ℕ) → i ≡ suc j → j < 16 → 16 * written_fields (16 - i) low (old / 2 ^ (4 * i)) (new / 2 ^ (4 * i)) + kept low (field_at old j) (field_at new j) ≡ written_fields (16 - j) low (old / 2 ^ (4 * j)) (new / 2 ^ (4 * j))
  written_step old new i j e h =
      let more : suc (16 - suc j) ≡ 16 - j = omega arith in
      add_comm (16 * written_fields (16 - i) low (old / 2 ^ (4 * i)) (new / 2 ^ (4 * i))) (kept low (field_at old j) (field_at new j))
      ∙ ap (λ (n : ℕ). kept low (field_at old j) (field_at new j) + 16 * written_fields (16 - n) low (old / 2 ^ (4 * n)) (new / 2 ^ (4 * n))) e
      ∙ sym (written_from (16 - suc j) old new j)
      ∙ ap (λ (n : ℕ). written_fields n low (old / 2 ^ (4 * j)) (new / 2 ^ (4 * j))) more

-- a register is known by its fields
pub fields_same : (n x y : ℕ) → x < 2 ^ (4 * n) → y < 2 ^ (4 * n) → ((i : ℕ) → i < n → field_at x i ≡ field_at y i) → x ≡ y
fields_same zero x y h k same = omega arith
fields_same (suc n) x y h k same =
    let more : 2 ^ (4 * suc n) ≡ 16 * 2 ^ (4 * n) = four_more n in
    let rest : x / 16 ≡ y / 16 =
    fields_same n (x / 16) (y / 16) (omega arith) (omega arith) (λ i p. sym (field_suc x i) ∙ same (suc i) (omega arith) ∙ field_suc y i) in
    let first : x % 16 ≡ y % 16 = sym (field_zero x) ∙ same 0 (zero-lt-suc n) ∙ field_zero y in
    omega arith

-- whether none of the fields from i on is zero in its low bits: the first of them and the rest
none_from : (n low x i : ℕ) → none_zero (suc n) low (x / 2 ^ (4 * i)) ≡ not (eqb (field_at x i % low) 0) && none_zero n low (x / 2 ^ (4 * suc i))
unfolding none_zero
none_from n low x i = ap (λ (y : ℕ). not (eqb (field_at x i % low) 0) && none_zero n low y) (sym (next_field x i))

-- whether each of n fields from i on is not zero, and that none is
pub none_all : (n low x i : ℕ) → list_all (λ j. not (eqb (field_at x j % low) 0)) (range_with_len i n) ≡ none_zero n low (x / 2 ^ (4 * i))
unfolding none_zero
none_all zero low x i = refl
none_all (suc n) low x i =
    ap (λ (b : Bool). not (eqb (field_at x i % low) 0) && b) (rw add-one (none_all n low x (suc i))) ∙ sym (none_from n low x i)

-- that none is, field by field
pub none_each : (n low x : ℕ) → none_zero n low x ≡ true → (i : ℕ) → i < n → field_at x i % low ≡ 0 → ⊥
unfolding none_zero
none_each zero low x e i h q = not-suc-le-zero h
none_each (suc n) low x e zero h q =
    let here : eqb (x % 16 % low) 0 ≡ true = eq-eqb (x % 16 % low) 0 (ap (λ (y : ℕ). y % low) (sym (field_zero x)) ∙ q) in
    false≢true (sym (ap not here) ∙ both_left (not (eqb (x % 16 % low) 0)) (none_zero n low (x / 16)) e)
none_each (suc n) low x e (suc i) h q =
    none_each n low (x / 16) (both_right (not (eqb (x % 16 % low) 0)) (none_zero n low (x / 16)) e) i (le_of_suc-le-suc h)
    (ap (λ (y : ℕ). y % low) (sym (field_suc x i)) ∙ q)

pub each_none : (n low x : ℕ) → ((i : ℕ) → i < n → field_at x i % low ≡ 0 → ⊥) → none_zero n low x ≡ true
unfolding none_zero
each_none zero low x h = refl
each_none (suc n) low x h =
    ap₂ (λ (a b : Bool). not a && b)
    (ne_eqb (x % 16 % low) 0 (λ q. h 0 (zero-lt-suc n) (ap (λ (y : ℕ). y % low) (field_zero x) ∙ q)))
    (each_none n low (x / 16) (λ i p q. h (suc i) (omega arith) (ap (λ (y : ℕ). y % low) (field_suc x i) ∙ q)))
