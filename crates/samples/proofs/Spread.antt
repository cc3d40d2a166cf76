-- Laws of fields laid one after the other, over their widths: what stands at a place, how many bytes there are, and that each
-- is below 256. Assumes nothing.
use Prim.Native.Nat.{ℕ, zero, suc, ◌+◌, ◌-◌, ◌/◌, ◌%◌, ◌≤◌, ◌<◌, zero-le}
use native.Mathlib.Nat.{zero-lt-suc, zero-add, add_assoc, add-sub_of_le, not-suc-le-zero, suc-ne-zero, suc_inj, div-eq_of_lt, mod-eq_of_lt, div-eq-sub-div, mod-eq-sub-mod}
use native.Mathlib.Numerals.{add-one}
use borrow.Author.Tests.{ltb-true, ltb-false}
use lib.Dec.{ltb}
use mathlib.Core.Path.{◌≡◌, refl, sym, ap, ap₂, ◌∙◌, subst}
use mathlib.Core.Bool.{Bool, true, false}
use mathlib.Core.List.{List, [], ◌∷◌, ◌++◌}
use lib.ListN.{length, get_or, take, replicate, get_or-append, length-append}
use lib.Seq.{get_or-append-add}
use Rattle.words.specs.Bytes.{byte_at, low_bytes}
use Rattle.words.proofs.ByteLaws.{byte_past, low_length, low_at, low_below}
use Rattle.samples.specs.Layout.{spread, total}

-- a list of n before another: below n the first is read, from n on the second
pub at_before : (xs ys : List ℕ) (n i : ℕ) → length xs ≡ n → i < n → get_or (xs ++ ys) i 0 ≡ get_or xs i 0
at_before xs ys n i e h = get_or-append xs ys 0 i (subst (λ (m : ℕ). i < m) (sym e) h)

pub at_add : (xs ys : List ℕ) (n i : ℕ) → length xs ≡ n → get_or (xs ++ ys) (n + i) 0 ≡ get_or ys i 0
at_add xs ys n i e = subst (λ (m : ℕ). get_or (xs ++ ys) (m + i) 0 ≡ get_or ys i 0) e (get_or-append-add xs ys i 0)

-- the first field's bytes stand first
pub spread_here : (n x i : ℕ) (ns xs : List ℕ) → i < n → get_or (spread (n ∷ ns) (x ∷ xs)) i 0 ≡ byte_at x i
unfolding spread
spread_here n x i ns xs h = at_before (low_bytes n x) (spread ns xs) n i (low_length n x) h ∙ low_at n x i h

-- and the other fields' after them
pub spread_add : (n x i : ℕ) (ns xs : List ℕ) → get_or (spread (n ∷ ns) (x ∷ xs)) (n + i) 0 ≡ get_or (spread ns xs) i 0
unfolding spread
spread_add n x i ns xs = at_add (low_bytes n x) (spread ns xs) n i (low_length n x)

-- so the bytes of a field stand after the widths of the fields before it
pub spread_at : (ns xs : List ℕ) (k i : ℕ) → length xs ≡ length ns → i < get_or ns k 0 → get_or (spread ns xs) (total (take k ns) + i) 0 ≡ byte_at (get_or xs k 0) i
spread_at [] xs k i e h = absurd (not-suc-le-zero h)
spread_at (n ∷ ns) [] k i e h = absurd (suc-ne-zero _ (sym e))
spread_at (n ∷ ns) (x ∷ xs) zero i e h = rw zero-add (spread_here n x i ns xs h)
spread_at (n ∷ ns) (x ∷ xs) (suc k) i e h =
    rw add_assoc (spread_add n x (total (take k ns) + i) ns xs ∙ spread_at ns xs k i (suc_inj e) h)

-- how many bytes there are, and that each is one
pub spread_length : (ns xs : List ℕ) → length xs ≡ length ns → length (spread ns xs) ≡ total ns
unfolding spread
spread_length [] xs e = refl
spread_length (n ∷ ns) [] e = absurd (suc-ne-zero _ (sym e))
spread_length (n ∷ ns) (x ∷ xs) e =
    length-append (low_bytes n x) (spread ns xs) ∙ ap₂ (λ (a b : ℕ). a + b) (low_length n x) (spread_length ns xs (suc_inj e))

pub below_append : (xs ys : List ℕ) → ((i : ℕ) → get_or xs i 0 < 256) → ((i : ℕ) → get_or ys i 0 < 256) → (i : ℕ) → get_or (xs ++ ys) i 0 < 256
below_append [] ys h k i = k i
below_append (x ∷ xs) ys h k zero = h zero
below_append (x ∷ xs) ys h k (suc i) = below_append xs ys (λ j. h (suc j)) k i

pub spread_below : (ns xs : List ℕ) (i : ℕ) → get_or (spread ns xs) i 0 < 256
unfolding spread
spread_below [] xs i = zero-lt-suc 255
spread_below (n ∷ ns) [] i = zero-lt-suc 255
spread_below (n ∷ ns) (x ∷ xs) i = below_append (low_bytes n x) (spread ns xs) (low_below n x) (spread_below ns xs) i

-- numbers of one width: the byte at a place is one of the number that the place falls into
pub spread_each : (m k : ℕ) (xs : List ℕ) (i : ℕ) → zero < m → length xs ≡ k → get_or (spread (replicate k m) xs) i 0 ≡ byte_at (get_or xs (i / m) 0) (i % m)
unfolding spread
spread_each m zero [] i p e = sym (byte_past 0 0 (i % m) (zero-lt-suc 0) zero-le)
spread_each m zero (x ∷ xs) i p e = absurd (suc-ne-zero _ e)
spread_each m (suc k) [] i p e = absurd (suc-ne-zero _ (sym e))
spread_each m (suc k) (x ∷ xs) i p e = go (ltb i m) refl (spread_each m k xs (i - m) p (suc_inj e))
  where
    go : (t : Bool) → ltb i m ≡ t → get_or (spread (replicate k m) xs) (i - m) 0 ≡ byte_at (get_or xs ((i - m) / m) 0) ((i - m) % m) → get_or (spread (m ∷ replicate k m) (x ∷ xs)) i 0 ≡ byte_at (get_or (x ∷ xs) (i / m) 0) (i % m)
    go true q ih = let h : i < m = ltb-true i m q in rw (div-eq_of_lt h, mod-eq_of_lt h) (spread_here m x i (replicate k m) xs h)
    go false q ih =
        let h : m ≤ i = ltb-false i m q in
        rw (div-eq-sub-div p h, mod-eq-sub-mod h, add-one)
        (ap (λ (j : ℕ). get_or (spread (m ∷ replicate k m) (x ∷ xs)) j 0) (sym (add-sub_of_le h))
        ∙ spread_add m x (i - m) (replicate k m) xs ∙ ih)
