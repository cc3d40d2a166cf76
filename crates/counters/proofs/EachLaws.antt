-- Laws of `each`, a function of place and number at every place of a list: it is known by what stands at each place, a store is one of
-- them, and a loop that puts it there place by place ends in it. Assumes nothing.
use Rattle.std.proofs.Common.{◌≡◌, ℕ, zero, suc, ◌+◌, ◌<◌, Bool, true, false, cond, ◌&&◌, eqb, List, [], ◌∷◌, ◌++◌, length, get_or, take, drop, set, sym, refl, ap, ◌∙◌, ap₂, append-nil, le_of_suc-le-suc, not-suc-le-zero, add-zero, add-suc, suc-add, zero-add, arith, length-set, drop_of_length-le, length-take-le, drop-cons, get_or-set_other, get_or-set_same, ext_get_or, eqb-true}
use mathlib.Core.Bool.{and-true, and-false}
use lib.Seq.{get_or_at}
use borrow.Author.Tests.{eqb-false}
use Rattle.words.proofs.FillLaws.{fill_all, fill_suc}
use Rattle.counters.specs.Bank.{counting, each, grown}
use Rattle.counters.specs.declared.bank.Bank.{Bank}

pub each_length : (f : ℕ → ℕ → ℕ) (i : ℕ) (vs : List ℕ) → length (each f i vs) ≡ length vs
unfolding each
each_length f i [] = refl
each_length f i (v ∷ vs) = ap suc (each_length f (suc i) vs)

each_from_lem : (f : ℕ → ℕ → ℕ) (i j : ℕ) (vs : List ℕ) → j < length vs → get_or (each f i vs) j 0 ≡ f (i + j) (get_or vs j 0)
unfolding each
each_from_lem f i j [] h = absurd (not-suc-le-zero h)
each_from_lem f i zero (v ∷ vs) h = ap (λ (k : ℕ). f k v) (sym (add-zero i))
each_from_lem f i (suc j) (v ∷ vs) h =
    each_from_lem f (suc i) j vs (le_of_suc-le-suc h) ∙ ap (λ (k : ℕ). f k (get_or vs j 0)) (suc-add i j ∙ sym (add-suc i j))

-- what stands at a place
pub each_at : (f : ℕ → ℕ → ℕ) (j : ℕ) (vs : List ℕ) → j < length vs → get_or (each f 0 vs) j 0 ≡ f j (get_or vs j 0)
each_at f j vs h = each_from_lem f 0 j vs h ∙ ap (λ (k : ℕ). f k (get_or vs j 0)) (zero-add j)

-- a list that has that at each place is the whole
pub each_is : (f : ℕ → ℕ → ℕ) (vs ws : List ℕ) → length vs ≡ length ws → ((j : ℕ) → j < length vs → f j (get_or vs j 0) ≡ get_or ws j 0) → each f 0 vs ≡ ws
each_is f vs ws n h =
    ext_get_or 0 (each f 0 vs) ws (each_length f 0 vs ∙ n)
    (λ j p.
    let q : j < length vs = rw each_length at p in
    each_at f j vs q ∙ h j q)

-- ---- a loop over the places

-- the list after i turns of a loop that puts f of the number there at each place in turn
abbrev pub turned : (ℕ → ℕ → ℕ) → List ℕ → ℕ → List ℕ
turned f vs i = take i (each f 0 vs) ++ drop i vs

module _ (f : ℕ → ℕ → ℕ) (vs : List ℕ) (i : ℕ) (h : i < length vs) where
  -- the place of the next turn is as it was
  pub next_turn : get_or (turned f vs i) i 0 ≡ get_or vs i 0
  next_turn =
      let long : length (take i (each f 0 vs)) ≡ i = length-take-le i (each f 0 vs) (rw each_length (omega arith)) in
      ap (λ (r : List ℕ). get_or (take i (each f 0 vs) ++ r) i 0) (drop-cons vs i 0 h)
      ∙ get_or_at (take i (each f 0 vs)) (get_or vs i 0) (drop (suc i) vs) 0 i long

  pub one_turn : set (turned f vs i) i (f i (get_or vs i 0)) ≡ turned f vs (suc i)
  one_turn = ap (set (turned f vs i) i) (sym (each_at f i vs h)) ∙ fill_suc (each f 0 vs) vs i (rw each_length h) h

-- all turns
pub turned_all : (f : ℕ → ℕ → ℕ) (vs : List ℕ) (n : ℕ) → length vs ≡ n → turned f vs n ≡ each f 0 vs
turned_all f vs n e =
    fill_all (each f 0 vs) vs n (each_length f 0 vs ∙ e)
    ∙ ap (λ (r : List ℕ). each f 0 vs ++ r) (drop_of_length-le vs {i = n} (omega arith))
    ∙ append-nil (each f 0 vs)

-- a turn as the loop makes it: what it stores is f of what it read
pub turn : (f : ℕ → ℕ → ℕ) (vs now : List ℕ) (i v : ℕ) → i < length vs → now ≡ turned f vs i → v ≡ f i (get_or now i 0) → set now i v ≡ turned f vs (suc i)
turn f vs now i v h e p =
    ap₂ (λ (l : List ℕ) (x : ℕ). set l i x) e (p ∙ ap (f i) (ap (λ (l : List ℕ). get_or l i 0) e ∙ next_turn f vs i h))
    ∙ one_turn f vs i h

-- the end of the loop, at the turn n
pub turned_end : (f : ℕ → ℕ → ℕ) (vs now : List ℕ) (i n : ℕ) → now ≡ turned f vs i → i ≡ n → length vs ≡ n → now ≡ each f 0 vs
turned_end f vs now i n e end long = e ∙ ap (turned f vs) end ∙ turned_all f vs n long

-- ---- events

-- two sets of counters that agree at each place
pub counting_same : (f g : ℕ → Bool) (k : ℕ) (b : Bank) → ((i : ℕ) → i < length b.values → f i ≡ g i) → counting f k b ≡ counting g k b
counting_same f g k b h =
    let vs : List ℕ = b.values in
    let next : ℕ → ℕ → ℕ = λ j v. cond (g j) (grown v k) v in
    λ i. record {
      values = each_is (λ j v. cond (f j) (grown v k) v) vs (each next 0 vs) (sym (each_length next 0 vs))
          (λ j p. ap (λ (t : Bool). cond t (grown (get_or vs j 0) k) (get_or vs j 0)) (h j p) ∙ sym (each_at next j vs p)) i;
      shadows = b.shadows;
    }

-- a store changes one place, and past the last place none
pub store_each : (f : ℕ → ℕ) (i : ℕ) (vs : List ℕ) → set vs i (f (get_or vs i 0)) ≡ each (λ j v. cond (eqb j i) (f v) v) 0 vs
store_each f i vs =
    sym (each_is (λ j v. cond (eqb j i) (f v) v) vs (set vs i (f (get_or vs i 0))) (sym (length-set vs i (f (get_or vs i 0)))) (λ j h. go j h (eqb j i) refl))
  where
    go : (j : ℕ) → j < length vs → (c : Bool) → eqb j i ≡ c → cond c (f (get_or vs j 0)) (get_or vs j 0) ≡ get_or (set vs i (f (get_or vs i 0))) j 0
    go j h true e = sym (get_or-set_same vs j (f (get_or vs j 0)) 0 h) ∙ ap (λ (k : ℕ). get_or (set vs k (f (get_or vs k 0))) j 0) (eqb-true j i e)
    go j h false e = sym (get_or-set_other vs i j (f (get_or vs i 0)) 0 (eqb-false j i e))

-- of one counter's events all count or none, by what the test says of that counter
pub counting_one : (t : ℕ → Bool) (i k : ℕ) (b : Bank) → counting (λ j. eqb j i && t j) k b ≡ cond (t i) (counting (λ j. eqb j i) k b) b
counting_one t i k b = counting_same (λ j. eqb j i && t j) (λ j. eqb j i && t i) k b (λ j h. there j (eqb j i) refl) ∙ go (t i)
  where
    there : (j : ℕ) (c : Bool) → eqb j i ≡ c → (c && t j) ≡ (c && t i)
    there j true e = ap t (eqb-true j i e)
    there j false e = refl

    go : (c : Bool) → counting (λ j. eqb j i && c) k b ≡ cond c (counting (λ j. eqb j i) k b) b
    go true = counting_same (λ j. eqb j i && true) (λ j. eqb j i) k b (λ j h. and-true (eqb j i))
    go false =
        λ x. record {
          values = each_is (λ j v. cond (eqb j i && false) (grown v k) v) b.values b.values refl
              (λ j h. ap (λ (c : Bool). cond c (grown (get_or b.values j 0) k) (get_or b.values j 0)) (and-false (eqb j i))) x;
          shadows = b.shadows;
        }
