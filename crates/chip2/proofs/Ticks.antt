-- On the MultiKron II a count of k ticks, with the external lines that are high during all of them, does what k single ticks with those lines do,
-- for both clocks: j ticks and then k are j + k, and outside the bounds no tick counts. Assumes the lengths and widths that the types give.
use Prim.Native.Nat.{ℕ, zero, suc, ◌+◌, ◌%◌, ◌^◌}
use native.Mathlib.Nat.{add_comm}
use native.Mathlib.Numerals.{add-one}
use native.Mathlib.Omega.{arith}
use mathlib.Core.Path.{◌≡◌, refl, sym, ap, ◌∙◌}
use mathlib.Core.Bool.{Bool, true, false, cond}
use Rattle.counters.specs.declared.bank.Bank.{Bank}
use Rattle.counters2.specs.Clocks.{node_clocks, phase_after, stamp_clocks}
use Rattle.counters2.specs.Counts.{own_ticks, ticked}
use Rattle.counters2.specs.declared.clocks.Clocks.{Clocks}
use Rattle.counters2.specs.declared.fields.Fields.{Fields}
use Rattle.counters2.proofs.ClockLaws.{node_none, node_sum, own_sum, phase_none, phase_sum, stamp_none, together}
use Rattle.counters2.proofs.GrowLaws.{counted_none, counted_same, counted_twice}
use Rattle.control.specs.declared.reply.Reply.TheVariants.{Outside}
use Rattle.chip.proofs.WidthLaws.{within_at}
use Rattle.chip2.specs.Chip2.{after_nodes, after_ticks, done, guarded, inside, node_ticks, replied, timestamp_ticks, with_bank, with_phase, with_stamp}
use Rattle.chip2.specs.Operation.{Operation, op_nodes, op_ticks, step}
use Rattle.chip2.specs.Repeat.{repeat}
use Rattle.chip2.specs.Shape.{Shaped}
use Rattle.chip2.specs.Told.{Told}
use Rattle.chip2.specs.declared.chip2.Chip2.{Chip2}
use Rattle.chip2.proofs.Bounds.{keeps_inside, keeps_shaped, repeat_same}
use Rattle.chip2.proofs.ChipLaws.{guard_in, guard_out, inside_phase, inside_stamp}

-- an operation with a count that adds up and does nothing at 0 does what single ones do; outside the bounds each leaves the record
module _ (op : ℕ → Operation) (after : ℕ → Chip2 → Chip2) (is : (k : ℕ) (c : Chip2) → step (op k) c ≡ guarded c (done 0 (after k c))) (none : (c : Chip2) → inside c ≡ true → Shaped c → after 0 c ≡ c) (sum : (j k : ℕ) (c : Chip2) → after k (after j c) ≡ after (j + k) c) where
  answer_in : (k : ℕ) (c : Chip2) → inside c ≡ true → step (op k) c ≡ done 0 (after k c)
  answer_in k c h = is k c ∙ sym (guard_in c (done 0 (after k c)) h)

  chip_in : (k : ℕ) (c : Chip2) → inside c ≡ true → (step (op k) c).chip ≡ after k c
  chip_in k c h = ap (λ (a : Told). a.chip) (answer_in k c h)

  repeated : (k : ℕ) (c : Chip2) → inside c ≡ true → Shaped c → after k c ≡ repeat k (op 1) c
  unfolding repeat
  repeated zero c h s = none c h s
  repeated (suc k) c h s =
      let next : Chip2 = (step (op 1) c).chip in
      ap (λ (n : ℕ). after n c) (sym (add-one k) ∙ add_comm k 1)
      ∙ sym (sum 1 k c)
      ∙ ap (after k) (sym (chip_in 1 c h))
      ∙ repeated k next (keeps_inside (op 1) c h) (keeps_shaped (op 1) c s)

  single : (k : ℕ) (c : Chip2) → Shaped c → step (op k) c ≡ record { chip = repeat k (op 1) c; number = cond (inside c) 0 15; value = 0 }
  single k c s = go (inside c) refl
    where
      go : (b : Bool) → inside c ≡ b → step (op k) c ≡ record { chip = repeat k (op 1) c; number = cond b 0 15; value = 0 }
      go true h = answer_in k c h ∙ ap (done 0) (repeated k c h s)
      go false h =
          let out : (n : ℕ) → step (op n) c ≡ replied Outside c = λ n. is n c ∙ sym (guard_out c (done 0 (after n c)) h) in
          out k ∙ ap (replied Outside) (sym (repeat_same k (op 1) c (ap (λ (a : Told). a.chip) (out 1))))

-- ---- ticks of any clock: those of some and then of more are those of all

ticked_sum : (f : Fields) (levels : ℕ) (a b : Clocks) (x : Bank) → ticked f levels b (ticked f levels a x) ≡ ticked f levels (together a b) x
ticked_sum f levels a b x =
    counted_twice f.mode (own_ticks f levels a) (own_ticks f levels b) x
    ∙ counted_same f.mode (λ i. own_ticks f levels a i + own_ticks f levels b i) (own_ticks f levels (together a b)) x (λ i h. own_sum f levels a b i)

ticked_none : (f : Fields) (levels : ℕ) (a : Clocks) (c : Chip2) → ((i : ℕ) → own_ticks f levels a i ≡ 0) → Shaped c → ticked f levels a c.bank ≡ c.bank
ticked_none f levels a c none s = counted_none f.mode (own_ticks f levels a) c.bank none (within_at 4 16 c.bank.values s.values)

module _ (levels : ℕ) where
  -- ---- the Timestamp's clock

  ticks_none : (c : Chip2) → inside c ≡ true → Shaped c → after_ticks 0 levels c ≡ c
  ticks_none c h s =
      let stamp : (c.stamp + 0) % 2 ^ 56 ≡ c.stamp = omega (arith, inside_stamp c h) in
      let bank : ticked c.fields levels (stamp_clocks 0) c.bank ≡ c.bank = ticked_none c.fields levels (stamp_clocks 0) c (stamp_none c.fields levels) s in
      λ i. with_stamp (stamp i) (with_bank (bank i) c)

  ticks_sum : (j k : ℕ) (c : Chip2) → after_ticks k levels (after_ticks j levels c) ≡ after_ticks (j + k) levels c
  ticks_sum j k c =
      let stamp : ((c.stamp + j) % 2 ^ 56 + k) % 2 ^ 56 ≡ (c.stamp + (j + k)) % 2 ^ 56 = omega arith in
      λ i. with_stamp (stamp i) (with_bank (ticked_sum c.fields levels (stamp_clocks j) (stamp_clocks k) c.bank i) c)

  -- ---- the node's clock: "A tenth falls on every tenth node tick since the last reset, a hundredth likewise"

  nodes_none : (c : Chip2) → inside c ≡ true → Shaped c → after_nodes 0 levels c ≡ c
  nodes_none c h s =
      let bank : ticked c.fields levels (node_clocks c.phase 0) c.bank ≡ c.bank =
      ticked_none c.fields levels (node_clocks c.phase 0) c (node_none c.fields levels c.phase (inside_phase c h)) s in
      λ i. with_phase (phase_none c.phase (inside_phase c h) i) (with_bank (bank i) c)

  nodes_sum : (j k : ℕ) (c : Chip2) → after_nodes k levels (after_nodes j levels c) ≡ after_nodes (j + k) levels c
  nodes_sum j k c =
      let bank : ticked c.fields levels (node_clocks (phase_after j c.phase) k) (ticked c.fields levels (node_clocks c.phase j) c.bank) ≡ ticked c.fields levels (node_clocks c.phase (j + k)) c.bank =
      ticked_sum c.fields levels (node_clocks c.phase j) (node_clocks (phase_after j c.phase) k) c.bank
      ∙ ap (λ (x : Clocks). ticked c.fields levels x c.bank) (node_sum c.phase j k) in
      λ i. with_phase (phase_sum c.phase j k i) (with_bank (bank i) c)

-- ---- "A count of k does what k single ticks do": each with the lines that are high during all of them

module _ (k levels : ℕ) (c : Chip2) (s : Shaped c) where
  pub ticks_single : step (op_ticks k levels) c ≡ record { chip = repeat k (op_ticks 1 levels) c; number = cond (inside c) 0 15; value = 0 }
  unfolding timestamp_ticks
  ticks_single = single (λ n. op_ticks n levels) (λ n. after_ticks n levels) (λ n d. refl) (ticks_none levels) (ticks_sum levels) k c s

  pub nodes_single : step (op_nodes k levels) c ≡ record { chip = repeat k (op_nodes 1 levels) c; number = cond (inside c) 0 15; value = 0 }
  unfolding node_ticks
  nodes_single = single (λ n. op_nodes n levels) (λ n. after_nodes n levels) (λ n d. refl) (nodes_none levels) (nodes_sum levels) k c s
