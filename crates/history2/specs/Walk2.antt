-- The settings of the MultiKron II a second time, by a walk over the list that knows resets and writes alone. Of a write's data the low 16 bits decide, in 32-bit
-- mode and in 64-bit mode.
use Rattle.std.specs.Prelude.{ℕ, suc, Bool, true, false, cond, ◌||◌, List, [], ◌∷◌, eqb}
use Rattle.chip2.specs.Operation.{Operation, op_reset, op_write, op_read, op_ticks, op_nodes, op_events, op_send, op_fill}
use Rattle.history.specs.Ledger.{is_set}

-- a yes or no after an operation: what a hardware reset leaves, what a write makes by its address and data; every other operation leaves it
unfoldable pub after_one : Bool → (ℕ → ℕ → Bool → Bool) → Operation → Bool → Bool
after_one reset write op_reset b = reset
after_one reset write (op_write address bits lines) b = write address bits b
after_one reset write (op_read address) b = b
after_one reset write (op_ticks k levels) b = b
after_one reset write (op_nodes k levels) b = b
after_one reset write (op_events mask) b = b
after_one reset write op_send b = b
after_one reset write (op_fill room) b = b

-- and after all of them
unfoldable pub after_all : (Operation → Bool → Bool) → Bool → List Operation → Bool
after_all f b [] = b
after_all f b (op ∷ ops) = after_all f (f op b) ops

-- a setting by what a reset leaves of it and by a pair of CSR bits: the even one turns it on, the one above it off, and "the odd one wins"
abbrev pub setting_after : Bool → ℕ → Operation → Bool → Bool
setting_after reset even =
    after_one reset
    (λ a bits b. cond (eqb a 0) reset (cond (eqb a 1) (cond (is_set bits (suc even)) false (cond (is_set bits even) true b)) b))

abbrev pub setting_of : Bool → ℕ → List Operation → Bool
setting_of reset even ops = after_all (setting_after reset even) reset ops

-- Wish 7, "After either reset, write wait shall be set; sampling and read wait stay off"; document 01, "Writing a 1 in bit 0 turns sampling on, in bit 1 off; bit 2
-- sets write wait, bit 3 discard; bit 4 sets read wait, bit 5 cancels it"; docs/DECISIONS.md, "The MultiKron II": "CSR bit 14 sets 32-bit mode, bit 15 clears it"
abbrev pub sampling_of : List Operation → Bool
sampling_of ops = setting_of false 0 ops

abbrev pub wait_of : List Operation → Bool
wait_of ops = setting_of true 2 ops

abbrev pub read_wait_of : List Operation → Bool
read_wait_of ops = setting_of false 4 ops

abbrev pub narrow_of : List Operation → Bool
narrow_of ops = setting_of false 14 ops

-- Wish 7, "Scripts that counted on discard must write CSR bit 3 first": whether a list did since its last reset
abbrev pub discard_after : Operation → Bool → Bool
discard_after = after_one false (λ a bits b. cond (eqb a 0) false (cond (eqb a 1) (b || is_set bits 3) b))

abbrev pub discard_of : List Operation → Bool
discard_of ops = after_all discard_after false ops
