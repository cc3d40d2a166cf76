-- The number that four bytes of a record give, that a record's eight data bytes are four and then four, and a count or a mask of any
-- width. Assumes nothing.
use Prim.Native.Nat.{ℕ, suc, ◌+◌, ◌*◌, ◌^◌, ◌≤◌, ◌<◌}
use native.Mathlib.Numerals.{add-one, add-two, add-three}
use native.Mathlib.Omega.{arith}
use mathlib.Core.Path.{◌≡◌, sym, ap, ◌∙◌}
use mathlib.Core.List.{List}
use lib.ListN.{drop, get_or, length, take, take-append-drop, length-drop}
use lib.Seq.{drop-drop, take_all, length-take-le}
use borrow.Author.Tests.{lt-ltb, le-ltb}
use Rattle.words.specs.Bytes.{number}
use Rattle.words.proofs.ByteLaws.{number_append}
use Rattle.script.specs.Record.{fitting}
use Rattle.script.specs.declared.operation.Operation.{Operation}
use Rattle.samples.proofs.ReadLaws.{number_step}
use Rattle.std.proofs.Common.{Err, None, Ok, Result, Some}
use Rattle.std.specs.Result.{OkIff, result_ok}

pub four_bytes : (bs : List ℕ) (i : ℕ) → i + 4 ≤ length bs → number (take 4 (drop i bs)) ≡ get_or bs i 0 + 256 * get_or bs (i + 1) 0 + 65536 * get_or bs (i + 2) 0 + 16777216 * get_or bs (i + 3) 0
unfolding number
four_bytes bs i h =
    let a = number_step bs i 3 (omega arith) in
    let b = number_step bs (suc i) 2 (omega arith) in
    let c = number_step bs (suc (suc i)) 1 (omega arith) in
    let d = number_step bs (suc (suc (suc i))) 0 (omega arith) in
    rw (add-one, add-two, add-three) (omega arith)

pub eight_bytes : (bs : List ℕ) → length bs ≡ 12 → number (drop 4 bs) ≡ number (take 4 (drop 4 bs)) + 2 ^ 32 * number (take 4 (drop 8 bs))
eight_bytes bs h =
    let long : length (drop 4 bs) ≡ 8 = length-drop 4 bs ∙ omega arith in
    let rest : length (drop 8 bs) ≡ 4 = length-drop 8 bs ∙ omega arith in
    let four : length (take 4 (drop 4 bs)) ≡ 4 = length-take-le 4 (drop 4 bs) (omega arith) in
    ap number (sym (take-append-drop 4 (drop 4 bs)))
    ∙ number_append (take 4 (drop 4 bs)) (drop 4 (drop 4 bs))
    ∙ ap (λ (n : ℕ). number (take 4 (drop 4 bs)) + 256 ^ n * number (drop 4 (drop 4 bs))) four
    ∙ ap (λ (l : List ℕ). number (take 4 (drop 4 bs)) + 2 ^ 32 * number l) (drop-drop 4 4 bs ∙ sym (take_all 4 (drop 8 bs) (omega arith)))

-- what `try_from` finds of a number: that it fits so many bits, or that it doesn't
pub try_got : {E : Type 0} {bits x bound : ℕ} (r : Result ℕ E) → OkIff r (bits < bound) bits → result_ok r ≡ Some x → (x ≡ bits) × (bits < bound)
try_got (Ok y) (h, e) q = (cc, h)
try_got (Err d) h q = cc

pub try_lost : {E : Type 0} {bits bound : ℕ} (r : Result ℕ E) → OkIff r (bits < bound) bits → result_ok r ≡ None → bound ≤ bits
try_lost (Ok y) h q = cc
try_lost (Err d) h q = omega arith

-- data that fit a width are the operation's, any other make a bad record
module _ (width : ℕ) (f : ℕ → Operation) (bits : ℕ) where
  pub fitting_taken : bits < 2 ^ width → Some (f bits) ≡ fitting width f bits
  fitting_taken h = rw (lt-ltb bits (2 ^ width) h)

  pub fitting_bad : 2 ^ width ≤ bits → None ≡ fitting width f bits
  fitting_bad h = rw (le-ltb bits (2 ^ width) h)

  module _ {E : Type 0} (r : Result ℕ E) (tried : OkIff r (bits < 2 ^ width) bits) where
    pub fitting_got : {x : ℕ} → result_ok r ≡ Some x → Some (f x) ≡ fitting width f bits
    fitting_got q = let t = try_got r tried q in ap (λ (n : ℕ). Some (f n)) t.0 ∙ fitting_taken t.1

    pub fitting_lost : result_ok r ≡ None → None ≡ fitting width f bits
    fitting_lost q = fitting_bad (try_lost r tried q)
