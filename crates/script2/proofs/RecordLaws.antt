-- The number that the bytes of a record give, and data up to a last number. Assumes nothing.
use Prim.Native.Nat.{ℕ, suc, ◌+◌, ◌*◌, ◌^◌, ◌≤◌, ◌<◌}
use native.Mathlib.Numerals.{add-one}
use native.Mathlib.Omega.{arith}
use mathlib.Core.Path.{◌≡◌, ap, ap₂, ◌∙◌}
use mathlib.Core.List.{List}
use lib.ListN.{drop, get_or, length, take, length-drop}
use lib.Seq.{drop-drop, length-take-le, take-add}
use borrow.Author.Tests.{le-leb, lt-leb}
use Rattle.words.specs.Bytes.{number}
use Rattle.words.proofs.ByteLaws.{number_append}
use Rattle.samples.proofs.ReadLaws.{number_step}
use Rattle.script2.specs.Record.{up_to}
use Rattle.script2.specs.declared.operation.Operation.{Operation}
use Rattle.std.proofs.Common.{None, Result, Some}
use Rattle.std.specs.Result.{OkIff, result_ok}
use Rattle.script.proofs.RecordLaws.{try_got, try_lost}

pub two_bytes : (bs : List ℕ) (i : ℕ) → i + 2 ≤ length bs → number (take 2 (drop i bs)) ≡ get_or bs i 0 + 256 * get_or bs (i + 1) 0
unfolding number
two_bytes bs i h =
    let a = number_step bs i 1 (omega arith) in
    let b = number_step bs (suc i) 0 (omega arith) in
    rw add-one (omega arith)

-- some bytes, and then more
pub bytes_more : (m n at : ℕ) (bs : List ℕ) → at + (m + n) ≤ length bs → number (take (m + n) (drop at bs)) ≡ number (take m (drop at bs)) + 256 ^ m * number (take n (drop (at + m) bs))
bytes_more m n at bs h =
    ap number (take-add m n (drop at bs))
    ∙ number_append (take m (drop at bs)) (take n (drop m (drop at bs)))
    ∙ ap₂ (λ (k : ℕ) (l : List ℕ). number (take m (drop at bs)) + 256 ^ k * number (take n l))
    (length-take-le m (drop at bs) (omega (arith, length-drop at bs)))
    (drop-drop m at bs)

-- data up to a last number are the operation's, any other make a bad record
module _ (last : ℕ) (f : ℕ → Operation) (bits : ℕ) where
  pub up_to_lem : bits ≤ last → Some (f bits) ≡ up_to last bits (f bits)
  up_to_lem h = rw (le-leb bits last h)

  pub beyond : last < bits → None ≡ up_to last bits (f bits)
  beyond h = rw (lt-leb bits last h)

  module _ {E : Type 0} (r : Result ℕ E) (tried : OkIff r (bits < suc last) bits) where
    pub up_to_got : {x : ℕ} → result_ok r ≡ Some x → Some (f x) ≡ up_to last bits (f bits)
    up_to_got q =
        let t = try_got r tried q in
        ap (λ (n : ℕ). Some (f n)) t.0 ∙ up_to_lem (omega (arith, t.1))

    pub up_to_lost : result_ok r ≡ None → None ≡ up_to last bits (f bits)
    up_to_lost q = beyond (try_lost r tried q)
