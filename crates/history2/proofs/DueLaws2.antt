-- What is due to a counter: the chip's codes and the ledger's tables select the same events, code by code, and the ticks of each clock are the same from the
-- ticks so far and from the phase. Assumes nothing.
use Prim.Native.Nat.{ℕ, ◌+◌, ◌-◌, ◌/◌, ◌%◌, ◌<◌}
use native.Mathlib.Nat.{mod-lt, zero-lt-suc}
use native.Mathlib.Omega.{arith}
use mathlib.Core.Path.{◌≡◌, refl, sym, ap, ◌∙◌}
use mathlib.Core.Bool.{Bool, true, false, cond, ◌&&◌, ◌||◌}
use mathlib.Core.List.{List, [], ◌∷◌}
use lib.Dec.{eqb, leb}
use lib.ListN.{length, get_or}
use Rattle.counters.specs.Bank.{bit}
use Rattle.counters2.specs.Clocks.{node_clocks, selected, stamp_clocks}
use Rattle.counters2.specs.Codes.{by_clock, by_external, by_software, enabled, while_high}
use Rattle.counters2.specs.Counts.{enable_of, own_signals, own_software, own_ticks, select_of}
use Rattle.counters2.specs.Counts.{mode_of as Fields·modeOf}
use Rattle.counters2.specs.Fields.{field_at}
use Rattle.counters2.specs.declared.clocks.Clocks.{Clocks}
use Rattle.counters2.specs.declared.fields.Fields.{Fields}
use Rattle.chip.proofs.AddressLaws.{same, same_eq, up_to, up_to_at}
use Rattle.history.proofs.Addresses.{below}
use Rattle.history.proofs.CountLaws.{slow_falls, slow_same}
use Rattle.history2.specs.Counts2.{Control2, clock_of, clocks, due_external, due_software, due_ticks, is_on, mode_of, modes, no_control, node_ticks, packed, stamp_ticks}
use Rattle.history2.proofs.CountLaws2.{packed_field}

-- ---- the codes

on_code : (n : ℕ) → n < 4 → enabled n ≡ leb 2 n
on_code = below 4 (λ n. enabled n ≡ leb 2 n) (refl, (refl, (refl, (refl, tt))))

-- a test of Mode's codes is a number of the table, if it is for each of the eight
mode_code : (f : ℕ → Bool) (kind : ℕ) → up_to 8 (λ n. same (f n ∷ []) (eqb (get_or modes n 0) kind ∷ [])) ≡ true → (n : ℕ) → n < 8 → f n ≡ eqb (get_or modes n 0) kind
mode_code f kind all n h =
    ap (λ (bs : List Bool). get_or bs 0 false) (same_eq (f n ∷ []) (eqb (get_or modes n 0) kind ∷ []) (up_to_at 8 (λ m. same (f m ∷ []) (eqb (get_or modes m 0) kind ∷ [])) all n h))

-- the ticks of four clocks, behind those of none
abbrev pub ticks_of : Clocks → List ℕ
ticks_of c = 0 ∷ c.node ∷ c.tenth ∷ c.hundredth ∷ c.stamp ∷ []

clock_code : (c : Clocks) (n : ℕ) → n < 8 → selected n c ≡ get_or (ticks_of c) (get_or clocks n 0) 0
clock_code c =
    below 8 (λ n. selected n c ≡ get_or (ticks_of c) (get_or clocks n 0) 0) (refl, (refl, (refl, (refl, (refl, (refl, (refl, (refl, tt))))))))

-- ---- a counter's fields

-- the three registers
abbrev pub fields_of : List Control2 → Fields
fields_of ks = record { enable = packed (λ k. k.enable) ks; mode = packed (λ k. k.mode) ks; select = packed (λ k. k.select) ks }

module _ (ks : List Control2) (i : ℕ) (h : i < length ks) where
  abbrev own : Control2
  own = get_or ks i no_control

  on_same : enabled (enable_of (fields_of ks) i) ≡ is_on own
  on_same =
      let low : enable_of (fields_of ks) i ≡ own.enable % 4 = omega (arith, packed_field (λ k. k.enable) ks i h) in
      ap enabled low ∙ on_code (own.enable % 4) (mod-lt own.enable (zero-lt-suc 3))

  code_of : (g : Control2 → ℕ) → field_at (packed g ks) i % 8 ≡ g own % 8
  code_of g = omega (arith, packed_field g ks i h)

  mode_same : (f : ℕ → Bool) (kind : ℕ) → up_to 8 (λ n. same (f n ∷ []) (eqb (get_or modes n 0) kind ∷ [])) ≡ true → f (Fields·modeOf (fields_of ks) i) ≡ eqb (mode_of own) kind
  mode_same f kind all = ap f (code_of (λ k. k.mode)) ∙ mode_code f kind all (own.mode % 8) (mod-lt own.mode (zero-lt-suc 7))

  clock_same : (c : Clocks) → selected (select_of (fields_of ks) i) c ≡ get_or (ticks_of c) (clock_of own) 0
  clock_same c = ap (λ (n : ℕ). selected n c) (code_of (λ k. k.select)) ∙ clock_code c (own.select % 8) (mod-lt own.select (zero-lt-suc 7))

  -- "An event counts if the counter is enabled and its fields select it"
  pub ticks_due : (levels : ℕ) (c : Clocks) → own_ticks (fields_of ks) levels c i ≡ due_ticks (ticks_of c) levels i own
  ticks_due levels c =
      λ j.
      cond (on_same j && (mode_same by_clock 1 refl j || (mode_same while_high 3 refl j && bit levels i))) (clock_same c j) 0

  pub external_due : (mask : ℕ) → own_signals (fields_of ks) mask i ≡ due_external mask i own
  external_due mask = λ j. cond (on_same j && (mode_same by_external 4 refl j && bit mask i)) 1 0

  pub software_due : (n : ℕ) → own_software (fields_of ks) n i ≡ due_software n i own
  software_due n = λ j. cond (eqb i n && (on_same j && mode_same by_software 2 refl j)) 1 0

-- ---- the clocks

pub stamp_same : (k : ℕ) → ticks_of (stamp_clocks k) ≡ stamp_ticks k
stamp_same k = refl

-- the phase is the node ticks modulo 100
pub node_same : (n k : ℕ) → ticks_of (node_clocks (n % 100) k) ≡ node_ticks n k
node_same n k =
    let tenth : (n % 100 % 10 + k) / 10 ≡ (n + k) / 10 - n / 10 = ap (λ (m : ℕ). (m + k) / 10) (omega arith) ∙ sym (slow_same false n k) in
    λ j. 0 ∷ k ∷ tenth j ∷ sym (slow_same true n k) j ∷ 0 ∷ []

-- "A tenth falls on every tenth node tick since the last reset, a hundredth likewise": on that tick one, and none on another
pub tenth_falls : (n : ℕ) → get_or (node_ticks n 1) 2 0 ≡ cond (eqb ((n + 1) % 10) 0) 1 0
tenth_falls n = slow_falls false n

pub hundredth_falls : (n : ℕ) → get_or (node_ticks n 1) 3 0 ≡ cond (eqb ((n + 1) % 100) 0) 1 0
hundredth_falls n = slow_falls true n
