-- A buffer that is filled from its start, one word at a time, with the words of a list. Assumes nothing.
use Prim.Native.Nat.{ℕ, suc, ◌<◌}
use native.Mathlib.Nat.{zero-add}
use mathlib.Core.Path.{◌≡◌, ap, subst}
use mathlib.Core.List.{List, ◌++◌}
use lib.ListN.{length, get_or, take, drop, set}
use lib.Seq.{paste-suc, take-length}

-- one more word
pub fill_suc : (ws out : List ℕ) (i : ℕ) → i < length ws → i < length out → set (take i ws ++ drop i out) i (get_or ws i 0) ≡ take (suc i) ws ++ drop (suc i) out
fill_suc ws out i h k = simp zero-add at (paste-suc out 0 ws i 0 (rw zero-add k) h)

-- all the words
pub fill_all : (ws out : List ℕ) (n : ℕ) → length ws ≡ n → take n ws ++ drop n out ≡ ws ++ drop n out
fill_all ws out n e = subst (λ (k : ℕ). take k ws ++ drop n out ≡ ws ++ drop n out) e (ap (λ (l : List ℕ). l ++ drop n out) (take-length ws))
