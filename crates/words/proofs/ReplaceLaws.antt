-- A loop that visits every place of a list and keeps or replaces what stands there stores one element. Assumes nothing.
use Prim.Native.Nat.{ℕ, suc}
use native.Mathlib.Omega.{arith}
use mathlib.Core.Path.{◌≡◌, refl, sym, ap, ap₂, ◌∙◌}
use mathlib.Core.Bool.{Bool, true, false, cond}
use mathlib.Core.List.{List}
use lib.Dec.{eqb, ltb}
use lib.ListN.{length, get_or, set}
use lib.Seq.{set-get_or, set_out}
use borrow.Author.Tests.{eqb-true, eqb-false, lt-ltb, le-ltb, ltb-true, ltb-false}

module _ {A : Type 0} where
  -- the list after the first i places were visited: the new element stands at its place once that one was
  abbrev pub replaced : List A → ℕ → A → ℕ → List A
  replaced l at v i = cond (ltb at i) (set l at v) l

  -- none visited
  pub replaced_none : (l : List A) (at : ℕ) (v : A) → l ≡ replaced l at v 0
  replaced_none l at v = sym (ap (λ (b : Bool). cond b (set l at v) l) (le-ltb at 0 (omega arith)))

  -- a visit as the loop makes it: at its place it stores the new element, at any other what it read there
  pub replaced_suc : (l now : List A) (at i : ℕ) (v d kept : A) → now ≡ replaced l at v i → kept ≡ cond (eqb i at) v (get_or now i d) → set now i kept ≡ replaced l at v (suc i)
  replaced_suc l now at i v d kept e p = go (eqb i at) refl
    where
      go : (b : Bool) → eqb i at ≡ b → set now i kept ≡ replaced l at v (suc i)
      go true t =
          let here : i ≡ at = eqb-true i at t in
          ap₂ (λ (x : List A) (y : A). set x i y) (e ∙ ap (λ (b : Bool). cond b (set l at v) l) (le-ltb at i (omega arith))) (p ∙ ap (λ (b : Bool). cond b v (get_or now i d)) t)
          ∙ ap (λ (n : ℕ). set l n v) here
          ∙ sym (ap (λ (b : Bool). cond b (set l at v) l) (lt-ltb at (suc i) (omega arith)))
      go false t =
          ap (set now i) (p ∙ ap (λ (b : Bool). cond b v (get_or now i d)) t) ∙ set-get_or now i d ∙ e
          ∙ ap (λ (b : Bool). cond b (set l at v) l) (same (ltb at i) refl (eqb-false i at t))
        where
          same : (b : Bool) → ltb at i ≡ b → (i ≡ at → ⊥) → ltb at i ≡ ltb at (suc i)
          same true h n = h ∙ sym (lt-ltb at (suc i) (omega (arith, ltb-true at i h)))
          same false h n = h ∙ sym (le-ltb at (suc i) (omega (arith, ltb-false at i h)))

  -- all places visited: a store, which past the last place changes nothing
  pub replaced_all : (l : List A) (at : ℕ) (v : A) (n : ℕ) → length l ≡ n → replaced l at v n ≡ set l at v
  replaced_all l at v n e = go (ltb at n) refl
    where
      go : (b : Bool) → ltb at n ≡ b → cond b (set l at v) l ≡ set l at v
      go true t = refl
      go false t = sym (set_out l at v (omega (arith, ltb-false at n t)))
