-- A count of k ticks does what k single ticks do, for both clocks: j ticks and then k are j + k, and outside the bounds no tick counts.
-- Assumes the lengths and widths that the types give.
use Prim.Native.Nat.{ℕ, zero, suc, ◌+◌, ◌/◌, ◌%◌, ◌^◌, ◌<◌}
use native.Mathlib.Nat.{add_assoc, add_comm, add-zero, div-eq_of_lt, mod-add-mod, mod-eq_of_lt}
use native.Mathlib.Numerals.{add-one}
use native.Mathlib.Omega.{arith}
use mathlib.Core.Path.{◌≡◌, refl, sym, ap, ◌∙◌}
use mathlib.Core.Bool.{Bool, true, false, cond}
use Rattle.counters.specs.Due.{divisor_of, due, slow_events, ticked}
use Rattle.counters.specs.declared.bank.Bank.{Bank}
use Rattle.counters.specs.declared.switches.Switches.{Switches}
use Rattle.counters.specs.declared.switches.Kind.TheVariants.{Slow, Node}
use Rattle.counters.proofs.TickLaws.{counting_none, counting_twice, divisor_some, events_sum}
use Rattle.control.specs.declared.reply.Reply.TheVariants.{Outside}
use Rattle.chip.specs.Chip.{after_ticks, done, guarded, inside, node_ticks, replied, timestamp_ticks, with_bank}
use Rattle.chip.specs.Operation.{Operation, op_nodes, op_ticks, step}
use Rattle.chip.specs.Repeat.{repeat}
use Rattle.chip.specs.Shape.{Shaped}
use Rattle.chip.specs.Told.{Told}
use Rattle.chip.specs.declared.chip.Chip.{Chip}
use Rattle.chip.proofs.Bounds.{keeps_inside, keeps_shaped, repeat_same}
use Rattle.chip.proofs.ChipLaws.{guard_in, guard_out, inside_phase, inside_stamp}
use Rattle.chip.proofs.WidthLaws.{within_at}

-- an operation with a count that adds up and does nothing at 0 does what single ones do; outside the bounds each leaves the record
module _ (op : ℕ → Operation) (after : ℕ → Chip → Chip) (is : (k : ℕ) (c : Chip) → step (op k) c ≡ guarded c (done 0 (after k c))) (none : (c : Chip) → inside c ≡ true → Shaped c → after 0 c ≡ c) (sum : (j k : ℕ) (c : Chip) → after k (after j c) ≡ after (j + k) c) where
  answer_in : (k : ℕ) (c : Chip) → inside c ≡ true → step (op k) c ≡ done 0 (after k c)
  answer_in k c h = is k c ∙ sym (guard_in c (done 0 (after k c)) h)

  chip_in : (k : ℕ) (c : Chip) → inside c ≡ true → (step (op k) c).chip ≡ after k c
  chip_in k c h = ap (λ (a : Told). a.chip) (answer_in k c h)

  repeated : (k : ℕ) (c : Chip) → inside c ≡ true → Shaped c → after k c ≡ repeat k (op 1) c
  unfolding repeat
  repeated zero c h s = none c h s
  repeated (suc k) c h s =
      let next : Chip = (step (op 1) c).chip in
      ap (λ (n : ℕ). after n c) (sym (add-one k) ∙ add_comm k 1)
      ∙ sym (sum 1 k c)
      ∙ ap (after k) (sym (chip_in 1 c h))
      ∙ repeated k next (keeps_inside (op 1) c h) (keeps_shaped (op 1) c s)

  single : (k : ℕ) (c : Chip) → Shaped c → step (op k) c ≡ record { chip = repeat k (op 1) c; number = cond (inside c) 0 15; value = 0 }
  single k c s = go (inside c) refl
    where
      go : (b : Bool) → inside c ≡ b → step (op k) c ≡ record { chip = repeat k (op 1) c; number = cond b 0 15; value = 0 }
      go true h = answer_in k c h ∙ ap (done 0) (repeated k c h s)
      go false h =
          let out : (n : ℕ) → step (op n) c ≡ replied Outside c = λ n. is n c ∙ sym (guard_out c (done 0 (after n c)) h) in
          out k ∙ ap (replied Outside) (sym (repeat_same k (op 1) c (ap (λ (a : Told). a.chip) (out 1))))

-- ---- the Timestamp's clock

-- the record with another Timestamp, bank and phase
abbrev ticks_to : ℕ → Bank → ℕ → Chip → Chip
ticks_to stamp bank phase c =
    let s = c.switches in
    record {
      stamp = stamp;
      queue = c.queue;
      bank = bank;
      sources = c.sources;
      control = c.control;
      switches = record { enabled = s.enabled; low = s.low; high = s.high; phase = phase; hundredth = s.hundredth };
    }

ticks_none : (c : Chip) → inside c ≡ true → Shaped c → after_ticks 0 c ≡ c
ticks_none c h s =
    let phase : c.switches.phase + 0 < divisor_of c.switches.hundredth = omega (arith, inside_phase c h) in
    let stamp : (c.stamp + 0) % 2 ^ 56 ≡ c.stamp = omega (arith, inside_stamp c h) in
    let bank : ticked Slow (slow_events 0 c.switches) c.switches c.bank ≡ c.bank =
    ap (λ (n : ℕ). ticked Slow n c.switches c.bank) (div-eq_of_lt phase) ∙ counting_none (due Slow c.switches) c.bank (within_at 4 16 c.bank.values s.values) in
    λ i. ticks_to (stamp i) (bank i) ((mod-eq_of_lt phase ∙ add-zero c.switches.phase) i) c

-- "A slow event falls on every tenth Timestamp tick", or every hundredth: those of j ticks and then of k
ticks_sum : (j k : ℕ) (c : Chip) → after_ticks k (after_ticks j c) ≡ after_ticks (j + k) c
ticks_sum j k c =
    let s : Switches = c.switches in
    let d : ℕ = divisor_of s.hundredth in
    let p : ℕ = s.phase in
    let stamp : ((c.stamp + j) % 2 ^ 56 + k) % 2 ^ 56 ≡ (c.stamp + (j + k)) % 2 ^ 56 = omega arith in
    let phase : ((p + j) % d + k) % d ≡ (p + (j + k)) % d = mod-add-mod (p + j) d k ∙ ap (λ (n : ℕ). n % d) (add_assoc p j k) in
    let events : (p + j) / d + ((p + j) % d + k) / d ≡ (p + (j + k)) / d =
    sym (events_sum d (p + j) k (divisor_some s.hundredth)) ∙ ap (λ (n : ℕ). n / d) (add_assoc p j k) in
    let bank : ticked Slow (((p + j) % d + k) / d) s (ticked Slow ((p + j) / d) s c.bank) ≡ ticked Slow ((p + (j + k)) / d) s c.bank =
    counting_twice (due Slow s) ((p + j) / d) (((p + j) % d + k) / d) c.bank
    ∙ ap (λ (n : ℕ). ticked Slow n s c.bank) events in
    λ i. ticks_to (stamp i) (bank i) (phase i) c

-- ---- the node's clock

after_nodes : ℕ → Chip → Chip
after_nodes k c = with_bank (ticked Node k c.switches c.bank) c

nodes_none : (c : Chip) → inside c ≡ true → Shaped c → after_nodes 0 c ≡ c
unfolding after_nodes
nodes_none c h s = ap (λ (b : Bank). with_bank b c) (counting_none (due Node c.switches) c.bank (within_at 4 16 c.bank.values s.values))

nodes_sum : (j k : ℕ) (c : Chip) → after_nodes k (after_nodes j c) ≡ after_nodes (j + k) c
unfolding after_nodes
nodes_sum j k c = ap (λ (b : Bank). with_bank b c) (counting_twice (due Node c.switches) j k c.bank)

-- ---- "A count of k does what k single ticks do"

module _ (k : ℕ) (c : Chip) (s : Shaped c) where
  pub ticks_single : step (op_ticks k) c ≡ record { chip = repeat k (op_ticks 1) c; number = cond (inside c) 0 15; value = 0 }
  unfolding timestamp_ticks
  ticks_single = single op_ticks after_ticks (λ n d. refl) ticks_none ticks_sum k c s

  pub nodes_single : step (op_nodes k) c ≡ record { chip = repeat k (op_nodes 1) c; number = cond (inside c) 0 15; value = 0 }
  unfolding node_ticks after_nodes
  nodes_single = single op_nodes after_nodes (λ n d. refl) nodes_none nodes_sum k c s
