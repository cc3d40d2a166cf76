-- The tables as printed say what a write of a register leaves in each field, which counters it resets, and which events count for a counter: each
-- code is looked up by computation over the sixteen fields. Assumes a counter below 16.
use Rattle.std.proofs.Common.{◌≡◌, ℕ, zero, suc, ◌*◌, ◌/◌, ◌%◌, ◌^◌, ◌<◌, Bool, true, cond, not, ◌&&◌, ◌||◌, eqb, leb, List, [], ◌∷◌, length, get_or, sym, refl, ap, ◌∙◌, mod-lt, zero-lt-suc, zero-add, arith}
use Rattle.std.proofs.lemmas.Bool.Decides.{nat_tests}
use Rattle.words.proofs.TableLaws.{every, every_from}
use Rattle.counters.specs.Bank.{bit}
use Rattle.counters.specs.declared.bank.Bank.{Bank}
use Rattle.counters.proofs.EachLaws.{each_at}
use Rattle.counters2.specs.Clocks.{selected}
use Rattle.counters2.specs.Codes.{by_clock, by_external, by_software, enabled, on_hundredth, on_node, on_stamp, on_tenth, restarts, while_high}
use Rattle.counters2.specs.Counts.{enable_of, mode_of, own_signals, own_software, own_ticks, restarted, select_of}
use Rattle.counters2.specs.Fields.{clocking, enabling, field_at, moding}
use Rattle.counters2.specs.Table.{clock_table, enable_table, mode_table}
use Rattle.counters2.specs.declared.clocks.Clocks.{Clocks}
use Rattle.counters2.specs.declared.fields.Fields.{Fields}
use Rattle.counters2.proofs.FieldLaws.{written_field}

-- ---- looking up

agree : Bool → Bool → Bool
agree a b = cond a b (not b)

agree_same : (a b : Bool) → agree a b ≡ true → a ≡ b
unfolding agree
agree_same a b e = grind (arith, nat_tests)

-- a test of a field is a test of what a table says of it, if it is for each of the sixteen
looked_up : (f g : ℕ → Bool) (table : List ℕ) → length table ≡ 16 → every (λ x says. agree (f x) (g says)) 0 table ≡ true → (x : ℕ) → x < 16 → f x ≡ g (get_or table x 0)
looked_up f g table long all x h =
    agree_same (f x) (g (get_or table x 0))
    (ap (λ (n : ℕ). agree (f n) (g (get_or table x 0))) (sym (zero-add x)) ∙ every_from (λ n says. agree (f n) (g says)) table 0 all x (omega arith))

field_below : (x i : ℕ) → field_at x i < 16
field_below x i = mod-lt (x / 2 ^ (4 * i)) (zero-lt-suc 15)

-- what the tables say of counter i
module _ (f : Fields) (i : ℕ) where
  abbrev pub mode_says : ℕ
  mode_says = get_or mode_table (field_at f.mode i) 0

  abbrev pub clock_says : ℕ
  clock_says = get_or clock_table (field_at f.select i) 0

  abbrev pub enable_says : ℕ
  enable_says = get_or enable_table (field_at f.enable i) 0

-- ---- what a write leaves in a field: "NOP" keeps it, and anything else is held as written

module _ (bits : ℕ) (f : Fields) (i : ℕ) (h : i < 16) where
  pub mode_written : field_at (moding bits f).mode i ≡ cond (eqb (get_or mode_table (field_at bits i) 0) 0) (field_at f.mode i) (field_at bits i)
  unfolding agree
  mode_written =
      written_field 8 16 f.mode bits i h
      ∙ ap (λ (b : Bool). cond b (field_at f.mode i) (field_at bits i)) (looked_up (λ x. eqb (x % 8) 0) (λ n. eqb n 0) mode_table refl refl (field_at bits i) (field_below bits i))

  pub select_written : field_at (clocking bits f).select i ≡ cond (eqb (get_or clock_table (field_at bits i) 0) 0) (field_at f.select i) (field_at bits i)
  unfolding agree
  select_written =
      written_field 8 16 f.select bits i h
      ∙ ap (λ (b : Bool). cond b (field_at f.select i) (field_at bits i)) (looked_up (λ x. eqb (x % 8) 0) (λ n. eqb n 0) clock_table refl refl (field_at bits i) (field_below bits i))

  pub enable_written : field_at (enabling bits f).enable i ≡ cond (eqb (get_or enable_table (field_at bits i) 0) 0) (field_at f.enable i) (field_at bits i)
  unfolding agree
  enable_written =
      written_field 4 16 f.enable bits i h
      ∙ ap (λ (b : Bool). cond b (field_at f.enable i) (field_at bits i)) (looked_up (λ x. eqb (x % 4) 0) (λ n. eqb n 0) enable_table refl refl (field_at bits i) (field_below bits i))

-- "Reset & Enable counter", and no other counter
pub restarted_at : (bits : ℕ) (b : Bank) (i : ℕ) → i < length b.values → get_or (restarted bits b).values i 0 ≡ cond (eqb (get_or enable_table (field_at bits i) 0) 3) 0 (get_or b.values i 0)
unfolding agree
restarted_at bits b i h =
    each_at (λ j v. cond (restarts (field_at bits j % 4)) 0 v) i b.values h
    ∙ ap (λ (t : Bool). cond t 0 (get_or b.values i 0)) (looked_up (λ x. restarts (x % 4)) (λ n. eqb n 3) enable_table refl refl (field_at bits i) (field_below bits i))

-- ---- which events count: "An event counts if the counter is enabled and its fields select it"

module _ (f : Fields) (i : ℕ) where
  mode_is : (test : ℕ → Bool) (n : ℕ) → every (λ x says. agree (test (x % 8)) (eqb says n)) 0 mode_table ≡ true → test (mode_of f i) ≡ eqb (mode_says f i) n
  mode_is test n all = looked_up (λ x. test (x % 8)) (λ m. eqb m n) mode_table refl all (field_at f.mode i) (field_below f.mode i)

  on_is : enabled (enable_of f i) ≡ leb 2 (enable_says f i)
  unfolding agree
  on_is = looked_up (λ x. enabled (x % 4)) (λ n. leb 2 n) enable_table refl refl (field_at f.enable i) (field_below f.enable i)

  -- of four clocks' ticks those that the table names
  selected_is : (c : Clocks) → selected (select_of f i) c ≡ get_or (0 ∷ c.node ∷ c.tenth ∷ c.hundredth ∷ c.stamp ∷ []) (clock_says f i) 0
  unfolding agree
  selected_is c =
      (λ k.
      cond (clock on_node 1 refl k) c.node
      (cond (clock on_tenth 2 refl k) c.tenth
      (cond (clock on_hundredth 3 refl k) c.hundredth
      (cond (clock on_stamp 4 refl k) c.stamp 0))))
      ∙ go (clock_says f i)
    where
      clock : (test : ℕ → Bool) (n : ℕ) → every (λ x says. agree (test (x % 8)) (eqb says n)) 0 clock_table ≡ true → test (select_of f i) ≡ eqb (clock_says f i) n
      clock test n all = looked_up (λ x. test (x % 8)) (λ m. eqb m n) clock_table refl all (field_at f.select i) (field_below f.select i)

      go : (n : ℕ) → cond (eqb n 1) c.node (cond (eqb n 2) c.tenth (cond (eqb n 3) c.hundredth (cond (eqb n 4) c.stamp 0))) ≡ get_or (0 ∷ c.node ∷ c.tenth ∷ c.hundredth ∷ c.stamp ∷ []) n 0
      go zero = refl
      go (suc zero) = refl
      go (suc (suc zero)) = refl
      go (suc (suc (suc zero))) = refl
      go (suc (suc (suc (suc zero)))) = refl
      go (suc (suc (suc (suc (suc n))))) = grind (arith, nat_tests)

  pub ticks_due : (lines : ℕ) (c : Clocks) → own_ticks f lines c i ≡ cond (leb 2 (enable_says f i) && (eqb (mode_says f i) 1 || (eqb (mode_says f i) 3 && bit lines i))) (get_or (0 ∷ c.node ∷ c.tenth ∷ c.hundredth ∷ c.stamp ∷ []) (clock_says f i) 0) 0
  unfolding agree
  ticks_due lines c = λ k. cond (on_is k && (mode_is by_clock 1 refl k || (mode_is while_high 3 refl k && bit lines i))) (selected_is c k) 0

  pub signals_due : (mask : ℕ) → own_signals f mask i ≡ cond (leb 2 (enable_says f i) && (eqb (mode_says f i) 4 && bit mask i)) 1 0
  unfolding agree
  signals_due mask = λ k. cond (on_is k && (mode_is by_external 4 refl k && bit mask i)) 1 0

  pub software_due : (n : ℕ) → own_software f n i ≡ cond (eqb i n && (leb 2 (enable_says f i) && eqb (mode_says f i) 2)) 1 0
  unfolding agree
  software_due n = λ k. cond (eqb i n && (on_is k && mode_is by_software 2 refl k)) 1 0
