-- Laws of the bits of a number: of what two numbers have in common or together, of the bits that a number lacks, of its low bits. By them
-- the switches are what document 01 says of each counter: the mask of due events is the table of MUX fields, and a write enables or
-- disables the counters of the set bits and sets the two bits of each MUX field, whose number says what counts. Assumes nothing.
use Rattle.std.proofs.Common.{◌≡◌, ℕ, zero, suc, ◌+◌, ◌-◌, ◌*◌, ◌/◌, ◌%◌, ◌^◌, ◌<◌, ◌≤◌, min, max, Bool, false, cond, not, ◌&&◌, ◌||◌, eqb, length, get_or, sym, ap, ◌∙◌, ap₂, lt_of_lt_of_le, le_of_suc-le-suc, not-suc-le-zero, mod-lt, zero-lt-suc, pow-suc, div-one, one-add, arith, pow_pos, pow_mono, shr-shr}
use native.Mathlib.Nat.{div-eq_of_lt}
use Rattle.std.proofs.lemmas.Bool.Decides.{nat_tests}
use Rattle.std.proofs.lemmas.Nat.Bits.{bit_at_and, bit_at_or}
use lib.Bits.{bit_and, bit_or}
use lib.Pow.{field, mod-mod-pow}
use Rattle.counters.specs.Bank.{bit, cleared}
use Rattle.counters.specs.Due.{disabling, due, due_mask, enabling, field_at, field_of, selecting, selects}
use Rattle.counters.specs.declared.bank.Bank.{Bank}
use Rattle.counters.specs.declared.switches.Switches.{Switches}
use Rattle.counters.specs.declared.switches.Kind.{Kind}
use Rattle.counters.specs.declared.switches.Kind.TheVariants.{Slow, External, Software, Node}
use Rattle.counters.proofs.EachLaws.{each_at}

digit_below : (x i : ℕ) → x / 2 ^ i % 2 < 2
digit_below x i = mod-lt (x / 2 ^ i) (zero-lt-suc 1)

-- what two numbers have in common
pub bit_and_lem : (a b i : ℕ) → bit (bit_and a b) i ≡ (bit a i && bit b i)
bit_and_lem a b i = ap (λ (n : ℕ). eqb n 1) (bit_at_and a b i) ∙ both (a / 2 ^ i % 2) (b / 2 ^ i % 2) (digit_below a i) (digit_below b i)
  where
    both : (x y : ℕ) → x < 2 → y < 2 → eqb (min x y) 1 ≡ (eqb x 1 && eqb y 1)
    both x y h k = grind (arith, nat_tests)

-- what they have together
pub bit_or_lem : (a b i : ℕ) → bit (bit_or a b) i ≡ (bit a i || bit b i)
bit_or_lem a b i = ap (λ (n : ℕ). eqb n 1) (bit_at_or a b i) ∙ either (a / 2 ^ i % 2) (b / 2 ^ i % 2) (digit_below a i) (digit_below b i)
  where
    either : (x y : ℕ) → x < 2 → y < 2 → eqb (max x y) 1 ≡ (eqb x 1 || eqb y 1)
    either x y h k = grind (arith, nat_tests)

-- the low k bits are the number's own
pub bit_mod : (k x i : ℕ) → i < k → bit (x % 2 ^ k) i ≡ bit x i
bit_mod k x i h =
    let j : ℕ = k - suc i in
    let places : k ≡ j + 1 + i = omega arith in
    ap (λ (n : ℕ). eqb (n % 2) 1) (ap (λ (n : ℕ). x % 2 ^ n / 2 ^ i) places ∙ field x (j + 1) i)
    ∙ ap (λ (n : ℕ). eqb n 1) (mod-mod-pow (x / 2 ^ i) j 1)

-- the next bit is that of half the number
pub half_bit : (x i : ℕ) → x / 2 ^ suc i ≡ x / 2 / 2 ^ i
half_bit x i = ap (λ (n : ℕ). x / 2 ^ n) (sym (one-add i)) ∙ sym (shr-shr x 1 i)

-- the bits that a number of k bits lacks
other_bits : (k x i : ℕ) → i < k → x < 2 ^ k → (2 ^ k - 1 - x) / 2 ^ i % 2 ≡ 1 - x / 2 ^ i % 2
other_bits zero x i h p = absurd (not-suc-le-zero h)
other_bits (suc k) x zero h p =
    let two : 2 ^ suc k ≡ 2 ^ k * 2 = pow-suc 2 k in
    omega (arith, div-one x, div-one (2 ^ suc k - 1 - x))
other_bits (suc k) x (suc i) h p =
    let two : 2 ^ suc k ≡ 2 ^ k * 2 = pow-suc 2 k in
    let half : (2 ^ suc k - 1 - x) / 2 ≡ 2 ^ k - 1 - x / 2 = omega arith in
    let small : x / 2 < 2 ^ k = omega arith in
    ap (λ (n : ℕ). n % 2) (half_bit (2 ^ suc k - 1 - x) i ∙ ap (λ (n : ℕ). n / 2 ^ i) half)
    ∙ other_bits k (x / 2) i (le_of_suc-le-suc h) small
    ∙ ap (λ (n : ℕ). 1 - n % 2) (sym (half_bit x i))

other_one : (a : ℕ) → a < 2 → eqb (1 - a) 1 ≡ not (eqb a 1)
other_one a h = grind (arith, nat_tests)

pub bit_other : (k x i : ℕ) → i < k → x < 2 ^ k → bit (2 ^ k - 1 - x) i ≡ not (bit x i)
bit_other k x i h p = ap (λ (n : ℕ). eqb n 1) (other_bits k x i h p) ∙ other_one (x / 2 ^ i % 2) (digit_below x i)

-- a number of k bits has none past them
pub bit_past : (k x i : ℕ) → x < 2 ^ k → k ≤ i → bit x i ≡ false
bit_past k x i p h = ap (λ (n : ℕ). eqb (n % 2) 1) (div-eq_of_lt (lt_of_lt_of_le p (pow_mono h)))

-- the mask of a kind has the bits of the counters that its events are due to
pub mask_due : (k : Kind) (s : Switches) (i : ℕ) → i < 16 → s.high < 2 ^ 16 → s.low < 2 ^ 16 → bit (due_mask k s) i ≡ due k s i
mask_due Slow s i h p q =
    bit_and_lem s.enabled (bit_and (2 ^ 16 - 1 - s.high) (2 ^ 16 - 1 - s.low)) i
    ∙ ap (λ (b : Bool). bit s.enabled i && b)
    (bit_and_lem (2 ^ 16 - 1 - s.high) (2 ^ 16 - 1 - s.low) i
    ∙ ap₂ (λ (x y : Bool). x && y) (bit_other 16 s.high i h p) (bit_other 16 s.low i h q))
mask_due External s i h p q =
    bit_and_lem s.enabled (bit_and (2 ^ 16 - 1 - s.high) s.low) i
    ∙ ap (λ (b : Bool). bit s.enabled i && b)
    (bit_and_lem (2 ^ 16 - 1 - s.high) s.low i ∙ ap (λ (x : Bool). x && bit s.low i) (bit_other 16 s.high i h p))
mask_due Software s i h p q =
    bit_and_lem s.enabled (bit_and s.high (2 ^ 16 - 1 - s.low)) i
    ∙ ap (λ (b : Bool). bit s.enabled i && b)
    (bit_and_lem s.high (2 ^ 16 - 1 - s.low) i ∙ ap (λ (y : Bool). bit s.high i && y) (bit_other 16 s.low i h q))
mask_due Node s i h p q =
    bit_and_lem s.enabled (bit_and s.high s.low) i
    ∙ ap (λ (b : Bool). bit s.enabled i && b) (bit_and_lem s.high s.low i)

-- the field by number: two bits select a kind where they are its number
pub selects_field : (k : Kind) (a b : ℕ) → a < 2 → b < 2 → selects k (eqb a 1) (eqb b 1) ≡ eqb (2 * a + b) (field_of k)
selects_field Slow a b h k = grind (arith, nat_tests)
selects_field External a b h k = grind (arith, nat_tests)
selects_field Software a b h k = grind (arith, nat_tests)
selects_field Node a b h k = grind (arith, nat_tests)

selects_at : (k : Kind) (high h low l : ℕ) → selects k (bit high h) (bit low l) ≡ eqb (field_at high h low l) (field_of k)
selects_at k high h low l =
    selects_field k (high / 2 ^ h % 2) (low / 2 ^ l % 2) (digit_below high h) (digit_below low l)

-- which counters count an event of a kind: the enabled ones whose field has the kind's number
pub due_field : (k : Kind) (s : Switches) (i : ℕ) → due k s i ≡ (bit s.enabled i && eqb (field_at s.high i s.low i) (field_of k))
due_field k s i = ap (λ (b : Bool). bit s.enabled i && b) (selects_at k s.high i s.low i)

-- ---- what a write does to each counter: bit i is counter i's

-- "clear the counters of the set bits"; "only bits 0 to 15 act"
pub cleared_bit : (d : ℕ) (b : Bank) (i : ℕ) → length b.values ≡ 16 → i < 16 → get_or (cleared (d % 2 ^ 16) b).values i 0 ≡ cond (bit d i) 0 (get_or b.values i 0)
cleared_bit d b i long h =
    each_at (λ j v. cond (bit (d % 2 ^ 16) j) 0 v) i b.values (omega arith)
    ∙ ap (λ (t : Bool). cond t 0 (get_or b.values i 0)) (bit_mod 16 d i h)

module _ (d : ℕ) (s : Switches) (i : ℕ) (h : i < 16) where
  -- "enable the counters of the set bits"
  pub enabled_bit : bit (enabling d s).enabled i ≡ (bit s.enabled i || bit d i)
  enabled_bit = bit_or_lem s.enabled (d % 2 ^ 16) i ∙ ap (λ (b : Bool). bit s.enabled i || b) (bit_mod 16 d i h)

  -- "disable the counters of the set bits"
  pub disabled_bit : bit (disabling d s).enabled i ≡ (bit s.enabled i && not (bit d i))
  disabled_bit =
      bit_and_lem s.enabled (2 ^ 16 - 1 - d % 2 ^ 16) i
      ∙ ap (λ (b : Bool). bit s.enabled i && b) (bit_other 16 (d % 2 ^ 16) i h (mod-lt d (pow_pos 16)) ∙ ap not (bit_mod 16 d i h))

  -- "Counter i has MUX field bit 32+i (high), bit i (low)"
  pub low_bit : bit (selecting d s).low i ≡ bit d i
  low_bit = bit_mod 16 d i h

  pub high_bit : bit (selecting d s).high i ≡ bit d (32 + i)
  high_bit = bit_mod 16 (d / 2 ^ 32) i h ∙ ap (λ (n : ℕ). eqb (n % 2) 1) (shr-shr d 32 i)

  -- after a write of MUX SEL a counter counts the kind whose number its two bits of the data have
  pub written_field : (k : Kind) → due k (selecting d s) i ≡ (bit s.enabled i && eqb (field_at d (32 + i) d i) (field_of k))
  written_field k = ap (λ (b : Bool). bit s.enabled i && b) (ap₂ (selects k) high_bit low_bit ∙ selects_at k d (32 + i) d i)
