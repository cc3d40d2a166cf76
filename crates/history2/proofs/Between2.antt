-- What may come while a trigger of the MultiKron II waits, in plain words and by what the chip finds at an address; what came, one operation after the other; and
-- what asking again does. By a test of each address, and by computation. Assumes nothing.
use Prim.Native.Nat.{ℕ, ◌≤◌, ◌<◌}
use native.Mathlib.Nat.{suc-ne-zero}
use native.Mathlib.Omega.{arith}
use mathlib.Core.Path.{◌≡◌, refl, sym, ap, ◌∙◌, subst}
use mathlib.Core.Bool.{Bool, true, false, not, ◌||◌}
use mathlib.Core.List.{List, [], ◌∷◌, ◌++◌}
use lib.Dec.{eqb}
use lib.ListN.{length, drop, get_or}
use borrow.Author.Tests.{eq-eqb}
use Rattle.chip2.specs.Operation.{Operation, op_reset, op_write, op_read, op_ticks, op_nodes, op_events, op_send, op_fill, step}
use Rattle.chip2.specs.Place.{place_of, register_of}
use Rattle.chip2.specs.declared.chip2.Chip2.{Chip2}
use Rattle.chip2.proofs.AddressLaws.{place_test}
use Rattle.chip2.proofs.Refusals.{when_waiting}
use Rattle.history.specs.Waiting.{barred}
use Rattle.history.proofs.RoomLaws.{not_barred}
use Rattle.history.proofs.Triggers.{or_true}
use Rattle.history2.specs.Run2.{run_from}
use Rattle.history2.specs.Waiting2.{Between, EndsBySends, leaves_alone, matters_to, may_come, waited_more}
use Rattle.history2.specs.Walk2.{after_one}

-- ---- what may come

-- the trigger itself may be asked again
pub may_ask : (address bits lines : ℕ) → may_come address (op_write address bits lines) ≡ true
unfolding after_one
may_ask a bits lines = ap (λ (b : Bool). b || not (barred a)) (eq-eqb a a refl)

-- a write may come where the chip finds nothing at its address that matters to a trigger, or the trigger itself; of the others all but a reset
pub may_said : (address : ℕ) (op : Operation) → may_come address op ≡ leaves_alone address op
unfolding after_one place_of register_of
may_said address op_reset = refl
may_said address (op_write a bits lines) =
    ap (λ (b : Bool). eqb a address || not b) (sym (place_test matters_to barred refl refl (λ x beyond. not_barred x (λ z. omega arith) (λ z. omega arith) (λ z. omega arith) (λ p q. omega arith)) a))
may_said address (op_read a) = refl
may_said address (op_ticks k levels) = refl
may_said address (op_nodes k levels) = refl
may_said address (op_events mask) = refl
may_said address op_send = refl
may_said address (op_fill room) = refl

-- and so in plain words: any write may come but at 0, 1, 4 and from 96 to 127, and any read, ticks, events and sends
pub may_write : (address a bits lines : ℕ) → (a ≡ 0 → ⊥) → (a ≡ 1 → ⊥) → (a ≡ 4 → ⊥) → (96 ≤ a → a ≤ 127 → ⊥) → may_come address (op_write a bits lines) ≡ true
unfolding after_one
may_write address a bits lines n0 n1 n4 outside =
    ap (λ (b : Bool). eqb a address || not b) (not_barred a n0 n1 n4 outside) ∙ or_true (eqb a address)

pub may_others : (address : ℕ) → ((a : ℕ) → may_come address (op_read a) ≡ true) × (((k levels : ℕ) → may_come address (op_ticks k levels) ≡ true) × (((k levels : ℕ) → may_come address (op_nodes k levels) ≡ true) × (((mask : ℕ) → may_come address (op_events mask) ≡ true) × ((may_come address op_send ≡ true) × ((room : ℕ) → may_come address (op_fill room) ≡ true)))))
unfolding after_one
may_others address = (λ a. refl, (λ k levels. refl, (λ k levels. refl, (λ mask. refl, (refl, λ room. refl)))))

-- ---- what came in between, one operation after the other: it may come, and where it is the trigger asked again, it is not taken

nothing_stands : (first rest : List Operation) (op : Operation) → ◌≡◌ {A = List Operation} [] (first ++ (op ∷ rest)) → ⊥
nothing_stands [] rest op e = suc-ne-zero _ (sym (ap length e))
nothing_stands (x ∷ first) rest op e = suc-ne-zero _ (sym (ap length e))

pub between_none : (address : ℕ) (c : Chip2) → Between address c []
between_none address c =
    record { quiet = λ first rest op e. absurd (nothing_stands first rest op e); untaken = λ first rest bits lines e. absurd (nothing_stands first rest _ e) }

pub between_next : (address : ℕ) (c : Chip2) (op : Operation) (ops : List Operation) → may_come address op ≡ true → ((bits lines : ℕ) → op ≡ op_write address bits lines → eqb (step op c).number 0 ≡ false) → Between address (step op c).chip ops → Between address c (op ∷ ops)
unfolding run_from
between_next address c op ops may un h = record { quiet = quiet; untaken = untaken }
  where
    quiet : (first rest : List Operation) (o : Operation) → op ∷ ops ≡ first ++ (o ∷ rest) → may_come address o ≡ true
    quiet [] rest o e = subst (λ (x : Operation). may_come address x ≡ true) (ap (λ (os : List Operation). get_or os 0 op) e) may
    quiet (x ∷ first) rest o e = h.quiet first rest o (ap (drop 1) e)

    untaken : (first rest : List Operation) (bits lines : ℕ) → op ∷ ops ≡ first ++ (op_write address bits lines ∷ rest) → eqb (step (op_write address bits lines) (run_from c first)).number 0 ≡ false
    untaken [] rest bits lines e =
        let is : op ≡ op_write address bits lines = ap (λ (os : List Operation). get_or os 0 op) e in
        subst (λ (x : Operation). eqb (step x c).number 0 ≡ false) is (un bits lines is)
    untaken (x ∷ first) rest bits lines e =
        subst (λ (y : Operation). eqb (step (op_write address bits lines) (run_from (step y c).chip first)).number 0 ≡ false) (ap (λ (os : List Operation). get_or os 0 op) e)
        (h.untaken first rest bits lines (ap (drop 1) e))

-- ---- asking

-- answered 10, whatever asked changed nothing but the Wait Counter
pub asked_again : (op : Operation) (c : Chip2) → (step op c).number ≡ 10 → (step op c).chip ≡ waited_more c
asked_again op c e = (when_waiting op c e).1

-- the sends that end a wait are always as many
pub ends_once : (trigger : Operation) (c : Chip2) (x y : EndsBySends trigger c) → x.sends ≡ y.sends
ends_once trigger c x y =
    let a : x.sends < y.sends → ⊥ = λ h. clash (sym x.taken ∙ y.waits x.sends h) in
    let b : y.sends < x.sends → ⊥ = λ h. clash (sym y.taken ∙ x.waits y.sends h) in
    omega arith
  where
    clash : ◌≡◌ {A = ℕ} 0 10 → ⊥
    clash e = omega arith
