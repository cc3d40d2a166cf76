-- A record's step is the one that its bytes tell, said a second time (`record_tells_lem`); reply 9 is given exactly to bad records (`reply_9`),
-- since the chip's rows leave no 9 (`never_9`); data and lines by example. By the kinds, one after the other. Assumes nothing.
use Prim.Native.Nat.{ℕ, zero, suc, ◌^◌, ◌≤◌}
use native.Mathlib.Omega.{arith}
use mathlib.Core.Path.{◌≡◌, refl, sym, ap, ◌∙◌}
use mathlib.Core.Bool.{Bool, true, false, cond, not, ◌||◌, false≢true}
use mathlib.Core.List.{List, [], ◌∷◌}
use lib.Dec.{eqb, ltb, eqb-suc-suc}
use lib.ListN.{get_or, length}
use borrow.Author.Tests.{eqb-true, lt-ltb, le-ltb, ltb-true, ltb-false, ne_eqb}
use Rattle.std.proofs.Common.{Option, None, Some}
use Rattle.words.specs.Bytes.{number}
use Rattle.chip.proofs.Replies.{reply_0, reply_1, reply_2, reply_3, reply_4, reply_5, reply_6, reply_7, reply_8, reply_10, reply_11, reply_15}
use Rattle.chip.specs.Operation.{op_reset, op_ticks, op_nodes, op_events, step}
use Rattle.chip.specs.Operation as chip
use Rattle.chip.specs.Told.{Told}
use Rattle.chip.specs.declared.chip.Chip.{Chip}
use Rattle.script.specs.Kinds.{asked, bad_kind, bad_record, kind_list, record_tells, refused_record}
use Rattle.script.specs.Line.{answer_line, decimal, width_of}
use Rattle.script.specs.Record.{by_kind, operation_of, outcome_of, run_of}
use Rattle.script.specs.declared.operation.Operation.{Operation}
use Rattle.script.specs.declared.operation.Operation.TheVariants.{Ticks, Nodes, Events}
use Rattle.script.specs.declared.operation.Outcome.{Outcome}

-- "data (8 bytes, low first)": bytes 2, 1, 0, .. are 258
pub low_first : number (2 ∷ 1 ∷ 0 ∷ 0 ∷ 0 ∷ 0 ∷ 0 ∷ 0 ∷ []) ≡ 258
unfolding number
low_first = refl

-- "reply, space, value in decimal, newline": "0 261", and "11 9223372036854775808"
pub line_0_261 : answer_line 0 261 ≡ 48 ∷ 32 ∷ 50 ∷ 54 ∷ 49 ∷ 10 ∷ []
unfolding answer_line decimal width_of
line_0_261 = refl

pub line_11_2^63 : answer_line 11 (2 ^ 63) ≡ 49 ∷ 49 ∷ 32 ∷ 57 ∷ 50 ∷ 50 ∷ 51 ∷ 51 ∷ 55 ∷ 50 ∷ 48 ∷ 51 ∷ 54 ∷ 56 ∷ 53 ∷ 52 ∷ 55 ∷ 55 ∷ 53 ∷ 56 ∷ 48 ∷ 56 ∷ 10 ∷ []
unfolding answer_line decimal width_of
line_11_2^63 = refl

-- no chip operation replies 9: each row's number is another, and where no row is given the number is 0
pub never_9 : (op : chip.Operation) (c : Chip) → eqb (step op c).number 9 ≡ false
never_9 op c = go (eqb (step op c).number 9) refl
  where
    no : {row : Bool} (n : ℕ) → eqb (step op c).number n ≡ row → eqb (step op c).number 9 ≡ true → row ≡ eqb 9 n
    no n r e = sym r ∙ ap (λ (m : ℕ). eqb m n) (eqb-true (step op c).number 9 e)

    go : (b : Bool) → eqb (step op c).number 9 ≡ b → b ≡ false
    go false e = refl
    go true e = absurd (false≢true (sym (no 0 (reply_0 op c) e) ∙ (λ i. not (no 15 (reply_15 op c) e i || (no 1 (reply_1 op c) e i || (no 2 (reply_2 op c) e i || (no 3 (reply_3 op c) e i || (no 4 (reply_4 op c) e i || (no 5 (reply_5 op c) e i || (no 6 (reply_6 op c) e i || (no 7 (reply_7 op c) e i || (no 8 (reply_8 op c) e i || (no 10 (reply_10 op c) e i || no 11 (reply_11 op c) e i)))))))))))))

-- a number is above the last one below a bound exactly where it isn't below the bound
above : (last bits : ℕ) → ltb last bits ≡ not (ltb bits (suc last))
above last bits = go (ltb bits (suc last)) refl
  where
    go : (b : Bool) → ltb bits (suc last) ≡ b → ltb last bits ≡ not b
    go true e = le-ltb last bits (omega (arith, ltb-true bits (suc last) e))
    go false e = lt-ltb last bits (omega (arith, ltb-false bits (suc last) e))

or_false : (b : Bool) → (b || false) ≡ b
or_false true = refl
or_false false = refl

-- a test before an operation makes a bad record where it fails
module _ (c : Chip) where
  tested : (t : Told) (o : Operation) → run_of (Some o) c ≡ outcome_of t → (fit : Bool) {bad : Bool} → bad ≡ not fit → run_of (cond fit (Some o) None) c ≡ outcome_of (cond bad (refused_record c) t)
  unfolding run_of
  tested t o h fit e = go fit ∙ ap (λ (b : Bool). outcome_of (cond b (refused_record c) t)) (sym e)
    where
      go : (b : Bool) → run_of (cond b (Some o) None) c ≡ outcome_of (cond (not b) (refused_record c) t)
      go true = h
      go false = refl

  framed : (t : Told) (o : Option Operation) (bad : Bool) → run_of o c ≡ outcome_of (cond bad (refused_record c) t) → (long zeroed : Bool) → run_of (cond long (cond zeroed o None) None) c ≡ outcome_of (cond (not long || (not zeroed || bad)) (refused_record c) t)
  unfolding run_of
  framed t o bad h true true = h
  framed t o bad h true false = refl
  framed t o bad h false zeroed = refl

  -- each kind's operation
  kinds : (address lines bits kind : ℕ) → run_of (by_kind kind address lines bits) c ≡ outcome_of (cond (bad_kind kind bits) (refused_record c) (step (get_or (kind_list address lines bits) kind (op_reset false)) c))
  unfolding by_kind run_of
  kinds address lines zero zero = refl
  kinds address lines (suc zero) zero = refl
  kinds address lines (suc (suc n)) zero =
      let bits = suc (suc n) in
      simp (le-ltb bits 2 (omega arith), lt-ltb 1 bits (omega arith))
  kinds address lines bits (suc zero) = refl
  kinds address lines bits (suc (suc zero)) = refl
  kinds address lines bits (suc (suc (suc zero))) = tested (step (op_ticks bits) c) (Ticks bits) refl (ltb bits (2 ^ 32)) (or_false _ ∙ above 4294967295 bits)
  kinds address lines bits (suc (suc (suc (suc zero)))) = tested (step (op_nodes bits) c) (Nodes bits) refl (ltb bits (2 ^ 32)) (or_false _ ∙ above 4294967295 bits)
  kinds address lines bits (suc (suc (suc (suc (suc zero))))) = tested (step (op_events bits) c) (Events bits) refl (ltb bits (2 ^ 16)) (above 65535 bits)
  kinds address lines bits (suc (suc (suc (suc (suc (suc zero)))))) = refl
  kinds address lines bits (suc (suc (suc (suc (suc (suc (suc k))))))) =
      let kind = suc (suc (suc (suc (suc (suc (suc k)))))) in
      let other : (n : ℕ) → n ≤ 6 → eqb kind n ≡ false = λ n h. ne_eqb kind n (λ q. omega arith) in
      simp (other 0 (omega arith), other 1 (omega arith), other 2 (omega arith), other 3 (omega arith), other 4 (omega arith), other 5 (omega arith), other 6 (omega arith), lt-ltb 6 kind (omega arith))

-- twelve bytes are four and eight
eight_left : (n : ℕ) → eqb (suc (suc (suc (suc n)))) 12 ≡ eqb n 8
eight_left n = eqb-suc-suc (suc (suc (suc n))) 11 ∙ eqb-suc-suc (suc (suc n)) 10 ∙ eqb-suc-suc (suc n) 9 ∙ eqb-suc-suc n 8

-- the two statements agree on every list of bytes
pub record_tells_lem : (bytes : List ℕ) (c : Chip) → run_of (operation_of bytes) c ≡ outcome_of (record_tells bytes c)
unfolding operation_of run_of
record_tells_lem [] c = refl
record_tells_lem (kind ∷ []) c = refl
record_tells_lem (kind ∷ address ∷ []) c = refl
record_tells_lem (kind ∷ address ∷ lines ∷ []) c = refl
record_tells_lem (kind ∷ address ∷ lines ∷ fourth ∷ eight) c =
    ap (λ (long : Bool). run_of (cond long (cond (eqb fourth 0) (by_kind kind address lines (number eight)) None) None) c) (eight_left (length eight))
    ∙ framed c _ _ (bad_kind kind (number eight)) (kinds c address lines (number eight) kind) (eqb (length eight) 8) (eqb fourth 0)

-- "9 bad bench record": exactly there
pub reply_9 : (bytes : List ℕ) (c : Chip) → eqb (run_of (operation_of bytes) c).number 9 ≡ bad_record bytes
reply_9 bytes c = ap (λ (o : Outcome). eqb o.number 9) (record_tells_lem bytes c) ∙ go (bad_record bytes)
  where
    go : (b : Bool) → eqb (cond b (refused_record c) (step (asked bytes) c)).number 9 ≡ b
    go true = refl
    go false = never_9 (asked bytes) c
