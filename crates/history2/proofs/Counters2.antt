-- What is written to the counters and their fields, and what they count, leaves the fields, numbers and pairs that the ledger then has. By the laws of registers
-- and of counts two by two. Assumes sixteen fields, eight counts and pairs as the Mode fields have them.
use Prim.Native.Nat.{ℕ, suc, ◌*◌, ◌%◌, ◌^◌, ◌<◌}
use native.Mathlib.Nat.{mod-eq_of_lt}
use native.Mathlib.Omega.{arith}
use mathlib.Core.Path.{◌≡◌, refl, sym, ap, ◌∙◌}
use mathlib.Core.Bool.{Bool, true, false, cond}
use mathlib.Core.List.{List}
use lib.Dec.{eqb, leb}
use lib.ListN.{get_or, length, set}
use lib.Pow.{pow_pos}
use Rattle.counters.specs.Bank.{each}
use Rattle.counters.specs.declared.bank.Bank.{Bank}
use Rattle.counters.proofs.EachLaws.{store_each}
use Rattle.counters2.specs.Clocks.{node_clocks, stamp_clocks}
use Rattle.counters2.specs.Codes.{restarts as Codes·restarts}
use Rattle.counters2.specs.Counts.{fired, signalled, ticked}
use Rattle.counters2.specs.Counts.{counted as Bank·counted}
use Rattle.counters2.specs.Fields.{clocking, field_at}
use Rattle.counters2.specs.Fields.{enabling as Fields·enabling, moding as Fields·moding}
use Rattle.counters2.proofs.GrowLaws.{counted_same}
use Rattle.history.specs.Ledger.{each_from}
use Rattle.history2.specs.Counts2.{Control2, Count, apart, counted, due_external, due_software, due_ticks, due_to, enabling, flat, grown_by, is_joined, joined, moding, no_count, node_ticks, packed, put_high, put_low, put_where, restarts, selecting, stamp_ticks}
use Rattle.history2.proofs.Agrees2.{Paired, paired_counts}
use Rattle.history2.proofs.CountLaws2.{counted_values, field_in_lem, flat_length, packed_field, packed_same, packed_written, put_values}
use Rattle.history2.proofs.DueLaws2.{external_due, fields_of, node_same, software_due, ticks_due}

-- the record's counters
abbrev pub bank_of : List Count → List ℕ → Bank
bank_of cs sh = record { values = flat cs; shadows = sh }

module _ (ks : List Control2) (cs : List Count) (p : Paired ks cs) where
  -- ---- registers

  pub enabled_fields : (bits : ℕ) → Fields·enabling bits (fields_of ks) ≡ fields_of (each_from 0 (enabling bits) ks)
  enabled_fields bits =
      λ i.
      record {
        enable = packed_written (λ k. k.enable) 4 bits (enabling bits) (λ j k. refl) ks p.sixteen i;
        mode = packed_same (λ k. k.mode) 0 (enabling bits) ks (λ j k. refl) i;
        select = packed_same (λ k. k.select) 0 (enabling bits) ks (λ j k. refl) i;
      }

  pub moded_fields : (bits : ℕ) → Fields·moding bits (fields_of ks) ≡ fields_of (each_from 0 (moding bits) ks)
  moded_fields bits =
      λ i.
      record {
        enable = packed_same (λ k. k.enable) 0 (moding bits) ks (λ j k. refl) i;
        mode = packed_written (λ k. k.mode) 8 bits (moding bits) (λ j k. refl) ks p.sixteen i;
        select = packed_same (λ k. k.select) 0 (moding bits) ks (λ j k. refl) i;
      }

  pub selected_fields : (bits : ℕ) → clocking bits (fields_of ks) ≡ fields_of (each_from 0 (selecting bits) ks)
  selected_fields bits =
      λ i.
      record {
        enable = packed_same (λ k. k.enable) 0 (selecting bits) ks (λ j k. refl) i;
        mode = packed_same (λ k. k.mode) 0 (selecting bits) ks (λ j k. refl) i;
        select = packed_written (λ k. k.select) 8 bits (selecting bits) (λ j k. refl) ks p.sixteen i;
      }

  -- ---- numbers written

  pub restarted_values : (bits : ℕ) → each (λ i v. cond (Codes·restarts (field_at bits i % 4)) 0 v) 0 (flat cs) ≡ flat (each_from 0 (put_where (restarts bits) 0) cs)
  restarted_values bits = (λ j. each (λ i v. cond (eqb (field_in_lem bits i j % 4) 3) 0 v) 0 (flat cs)) ∙ put_values (restarts bits) 0 cs (pow_pos 32)

  pub loaded_values : (i x : ℕ) → x < 2 ^ 32 → set (flat cs) i x ≡ flat (each_from 0 (put_where (λ j. eqb j i) x) cs)
  loaded_values i x h = store_each (λ v. x) i (flat cs) ∙ put_values (λ j. eqb j i) x cs h

  -- they leave the pairs
  pub put_paired : (f : ℕ → Bool) (x : ℕ) → Paired ks (each_from 0 (put_where f x) cs)
  put_paired f x = paired_counts ks cs p (put_where f x) (λ j c. go (f (2 * j)) (f (suc (2 * j))) c)
    where
      low : (c : Count) → is_joined (put_low x c) ≡ is_joined c
      low (apart a b) = refl
      low (joined t) = refl

      high : (c : Count) → is_joined (put_high x c) ≡ is_joined c
      high (apart a b) = refl
      high (joined t) = refl

      go : (a b : Bool) (c : Count) → is_joined (let now = cond a (put_low x c) c in cond b (put_high x now) now) ≡ is_joined c
      go true true c = high (put_low x c) ∙ low c
      go true false c = low c
      go false true c = high c
      go false false c = refl

  -- ---- events

  -- the pairs by the Mode register
  register_pairs : (j : ℕ) → j < length cs → leb 8 (field_at (packed (λ k. k.mode) ks) (2 * j)) ≡ is_joined (get_or cs j no_count)
  register_pairs j h =
      let few : j < 8 = rw p.eight at h in
      let here : 2 * j < length ks = rw p.sixteen (omega arith) in
      ap (leb 8) (packed_field (λ k. k.mode) ks (2 * j) here ∙ mod-eq_of_lt (p.small (2 * j) (omega arith))) ∙ sym (p.same j few)

  -- what is due by the record's fields and by the ledger's is counted alike
  module _ (sh : List ℕ) where
    happened : (own : ℕ → ℕ) (due : ℕ → Control2 → ℕ) → ((i : ℕ) → i < length ks → own i ≡ due_to due ks i) → Bank·counted (fields_of ks).mode own (bank_of cs sh) ≡ bank_of (counted due ks cs) sh
    happened own due same =
        counted_same (fields_of ks).mode own (due_to due ks) (bank_of cs sh) (λ i h. same i (omega (arith, flat_length cs, p.sixteen, p.eight)))
        ∙ ap (λ (vs : List ℕ). record { values = vs; shadows = sh }) (counted_values (fields_of ks).mode (due_to due ks) cs register_pairs)

    pub stamp_happened : (k levels : ℕ) → ticked (fields_of ks) levels (stamp_clocks k) (bank_of cs sh) ≡ bank_of (counted (due_ticks (stamp_ticks k) levels) ks cs) sh
    stamp_happened k levels = happened _ (due_ticks (stamp_ticks k) levels) (λ i h. ticks_due ks i h levels (stamp_clocks k))

    pub node_happened : (n k levels : ℕ) → ticked (fields_of ks) levels (node_clocks (n % 100) k) (bank_of cs sh) ≡ bank_of (counted (due_ticks (node_ticks n k) levels) ks cs) sh
    node_happened n k levels =
        happened _ (due_ticks (node_ticks n k) levels)
        (λ i h. ticks_due ks i h levels (node_clocks (n % 100) k) ∙ ap (λ (ts : List ℕ). due_to (due_ticks ts levels) ks i) (node_same n k))

    pub external_happened : (mask : ℕ) → signalled (fields_of ks) mask (bank_of cs sh) ≡ bank_of (counted (due_external mask) ks cs) sh
    external_happened mask = happened _ (due_external mask) (λ i h. external_due ks i h mask)

    pub software_happened : (n : ℕ) → fired (fields_of ks) n (bank_of cs sh) ≡ bank_of (counted (due_software n) ks cs) sh
    software_happened n = happened _ (due_software n) (λ i h. software_due ks i h n)

  -- and leaves the pairs
  pub counted_paired : (due : ℕ → Control2 → ℕ) → Paired ks (counted due ks cs)
  counted_paired due = paired_counts ks cs p _ (λ j c. go (due_to due ks (2 * j)) (due_to due ks (suc (2 * j))) c)
    where
      go : (n m : ℕ) (c : Count) → is_joined (grown_by n m c) ≡ is_joined c
      go n m (apart a b) = refl
      go n m (joined t) = refl
