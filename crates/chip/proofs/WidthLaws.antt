-- Laws of numbers of one width: a list of them stays one under a change at a place or at each place. Assumes nothing.
use Prim.Native.Nat.{ℕ, zero, suc, ◌^◌, ◌<◌}
use native.Mathlib.Nat.{one-le-pow, zero-lt-suc}
use mathlib.Core.Path.{◌≡◌}
use mathlib.Core.Bool.{true, ◌&&◌, false≢true}
use mathlib.Core.List.{List, [], ◌∷◌}
use lib.Dec.{ltb}
use lib.ListN.{get_or, replicate, set}
use borrow.Author.Tests.{lt-ltb, ltb-true}
use Rattle.samples.specs.Write.{within}
use Rattle.words.proofs.WordLaws.{both_left, both_right}
use Rattle.counters.specs.Bank.{each}

module _ (k : ℕ) where
  -- the first of them, and the rest
  first_in : (n v : ℕ) (vs : List ℕ) → within (replicate (suc n) k) (v ∷ vs) ≡ true → v < 256 ^ k
  unfolding within
  first_in n v vs e = ltb-true v (256 ^ k) (both_left (ltb v (256 ^ k)) (within (replicate n k) vs) e)

  rest_in : (n v : ℕ) (vs : List ℕ) → within (replicate (suc n) k) (v ∷ vs) ≡ true → within (replicate n k) vs ≡ true
  unfolding within
  rest_in n v vs e = both_right (ltb v (256 ^ k)) (within (replicate n k) vs) e

  cons_in : (n v : ℕ) (vs : List ℕ) → v < 256 ^ k → within (replicate n k) vs ≡ true → within (replicate (suc n) k) (v ∷ vs) ≡ true
  unfolding within
  cons_in n v vs h e = λ i. lt-ltb v (256 ^ k) h i && e i

  pub within_at : (n : ℕ) (vs : List ℕ) → within (replicate n k) vs ≡ true → (i : ℕ) → get_or vs i 0 < 256 ^ k
  unfolding within
  within_at zero [] e i = one-le-pow k 256 (zero-lt-suc 255)
  within_at zero (v ∷ vs) e i = absurd (false≢true e)
  within_at (suc n) [] e i = absurd (false≢true e)
  within_at (suc n) (v ∷ vs) e zero = first_in n v vs e
  within_at (suc n) (v ∷ vs) e (suc i) = within_at n vs (rest_in n v vs e) i

  pub within_set : (n : ℕ) (vs : List ℕ) (i v : ℕ) → within (replicate n k) vs ≡ true → v < 256 ^ k → within (replicate n k) (set vs i v) ≡ true
  unfolding within
  within_set zero [] i v e h = e
  within_set zero (x ∷ vs) i v e h = absurd (false≢true e)
  within_set (suc n) [] i v e h = absurd (false≢true e)
  within_set (suc n) (x ∷ vs) zero v e h = cons_in n v vs h (rest_in n x vs e)
  within_set (suc n) (x ∷ vs) (suc i) v e h = cons_in n x (set vs i v) (first_in n x vs e) (within_set n vs i v (rest_in n x vs e) h)

  pub each_within : (n : ℕ) (f : ℕ → ℕ → ℕ) (i : ℕ) (vs : List ℕ) → ((j v : ℕ) → v < 256 ^ k → f j v < 256 ^ k) → within (replicate n k) vs ≡ true → within (replicate n k) (each f i vs) ≡ true
  unfolding within each
  each_within zero f i [] h e = e
  each_within zero f i (v ∷ vs) h e = absurd (false≢true e)
  each_within (suc n) f i [] h e = absurd (false≢true e)
  each_within (suc n) f i (v ∷ vs) h e =
      cons_in n (f i v) (each f (suc i) vs) (h i v (first_in n v vs e)) (each_within n f (suc i) vs h (rest_in n v vs e))
