-- `samples::reader::scan` meets its contract: at each turn the words before the place are good, and the place is no more than the words
-- before the last. Assumes nothing.
use Prim.Native.Nat.{ℕ, suc, ◌<◌}
use native.Mathlib.Omega.{arith}
use native.Mathlib.Numerals.{add-one}
use mathlib.Core.Path.{◌≡◌, refl, sym, ap, ap₂, ◌∙◌}
use mathlib.Core.Bool.{Bool, cond}
use mathlib.Core.List.{List}
use lib.Dec.{eqb}
use lib.ListN.{drop, get_or, length}
use borrow.Author.Tests.{eq-eqb, ne_eqb}
use Rattle.std.specs.Prelude.{None, Some, Ok, Err}
use Rattle.samples.specs.declared.reader.Fault.{Fault}
use Rattle.samples.specs.declared.reader.Fault.TheVariants.{Unfinished}
use Rattle.samples.specs.Read.{decided_at, fault_at, is_good, scan, scanned}
use Rattle.samples.proofs.ReadLaws.{Past, fault_ends, scan_bad, scan_end, scan_good}
use Rattle.samples.proofs.reader.scan.Goals as goal

-- at such a place a bad word decides, and a good one is the last that is wanted or leaves it to those after it; `end` says which
module _ (n i : ℕ) (ws : List ℕ) (there : i < length ws) (past : Past n i ws) {last : Bool} (end : eqb (suc i) n ≡ last) where
  past_bad : {f : Fault} → Some f ≡ fault_at (cond last (suc i) 0) i (get_or ws i 0) → Err (record { fault = f; place = i }) ≡ scanned (scan n 0 ws) (decided_at n 0 ws)
  past_bad e =
      let bad = e ∙ fault_ends n i (get_or ws i 0) end in
      let here = scan_bad n i ws there (ap is_good (sym bad)) in
      sym (ap₂ scanned (past.0 ∙ here.0 ∙ sym bad) (past.1 ∙ here.1))

  past_good : None ≡ fault_at (cond last (suc i) 0) i (get_or ws i 0) → (scan n 0 ws ≡ cond last None (scan n (suc i) (drop (suc i) ws))) × (decided_at n 0 ws ≡ cond last n (decided_at n (suc i) (drop (suc i) ws)))
  past_good e =
      let here = scan_good n i ws there (ap is_good (sym (e ∙ fault_ends n i (get_or ws i 0) end))) end in
      (past.0 ∙ here.0, past.1 ∙ here.1)

past_next : (n i : ℕ) (ws : List ℕ) → i < length ws → Past n i ws → suc i < n → None ≡ fault_at 0 i (get_or ws i 0) → Past n (suc i) ws
past_next n i ws there past more e = past_good n i ws there past (ne_eqb (suc i) n (λ q. omega (arith, q))) e

past_last : (n i : ℕ) (ws : List ℕ) → i < length ws → Past n i ws → suc i ≡ n → None ≡ fault_at (suc i) i (get_or ws i 0) → Ok tt ≡ scanned (scan n 0 ws) (decided_at n 0 ws)
past_last n i ws there past last e = rw ((past_good n i ws there past (eq-eqb (suc i) n last) e).0)

past_end : (n i : ℕ) (ws : List ℕ) → length ws ≡ i → Past n i ws → Err (record { fault = Unfinished; place = i }) ≡ scanned (scan n 0 ws) (decided_at n 0 ws)
past_end n i ws all past = let here = scan_end n i ws (omega (arith, all)) in sym (ap₂ scanned (past.0 ∙ here.0) (past.1 ∙ here.1))

pub returns-in-Some : goal.returns-in-Some
returns-in-Some c =
    past_bad c.args.count c.loop-place.place c.args.part.now (omega (arith, c.min-others.ensures)) c.loop-place.invariant (ne_eqb (suc c.loop-place.place) c.args.count (λ e. omega (arith, e, c.min-others.ensures))) c.in-Some.ensures

pub loop-place-preserved : goal.loop-place-preserved
loop-place-preserved c =
    rw add-one (past_next c.args.count c.loop-place.place c.args.part.now (omega (arith, c.min-others.ensures)) c.loop-place.invariant (omega (arith, c.min-others.ensures)) c.in_default.ensures)

pub returns-then-others-part : goal.returns-then-others-part
returns-then-others-part c =
    let end : c.loop-place.place ≡ length c.args.part.now = omega arith in past_end c.args.count (length c.args.part.now) c.args.part.now refl (rw end at c.loop-place.invariant)

pub returns-in-Some-fault_at : goal.returns-in-Some-fault_at
returns-in-Some-fault_at c =
    let end : c.loop-place.place ≡ c.min-others.result = omega arith in
    past_bad c.args.count c.min-others.result c.args.part.now (omega (arith, c.min-others.ensures)) (rw end at c.loop-place.invariant) (eq-eqb (suc c.min-others.result) c.args.count (omega (arith, c.min-others.ensures))) c.in-Some-fault_at.ensures

pub returns-in-None : goal.returns-in-None
returns-in-None c =
    let end : c.loop-place.place ≡ c.min-others.result = omega arith in
    past_last c.args.count c.min-others.result c.args.part.now (omega (arith, c.min-others.ensures)) (rw end at c.loop-place.invariant) (omega (arith, c.min-others.ensures)) c.in-None.ensures
