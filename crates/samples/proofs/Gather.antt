-- Numbers gathered from bytes by their widths, and spread again: each undoes the other, over the widths. Assumes nothing.
use Prim.Native.Nat.{ℕ, zero, suc, ◌*◌, ◌^◌, ◌≤◌, ◌<◌}
use native.Mathlib.Nat.{zero-mul, suc-mul, add_comm, le_of_suc-le-suc, not-suc-le-zero, mod-eq_of_lt}
use native.Mathlib.Omega.{arith}
use mathlib.Core.Path.{◌≡◌, refl, sym, ap, ap₂, ◌∙◌, subst}
use mathlib.Core.Bool.{Bool, true, ◌&&◌, false≢true}
use mathlib.Core.List.{List, [], ◌∷◌, ◌++◌, append_assoc}
use lib.ListN.{length, get_or, take, drop, replicate, length-drop}
use lib.Seq.{ext_get_or, drop-drop, take_at, drop_at, take-add, length-take-le}
use borrow.Author.Tests.{ltb-true, lt-ltb}
use lib.Dec.{ltb}
use Rattle.words.specs.Bytes.{low_bytes, number}
use Rattle.words.proofs.ByteLaws.{low_length, number_low, low_number}
use Rattle.words.proofs.WordLaws.{both_left, both_right}
use Rattle.samples.specs.Layout.{counter_widths, spread, total}
use Rattle.samples.specs.Read.{gather}
use Rattle.samples.specs.Write.{within}
use Rattle.samples.proofs.ReadLaws.{number_take, take_below, drop_below}

pub gather_length : (ns bs : List ℕ) → length (gather ns bs) ≡ length ns
unfolding gather
gather_length [] bs = refl
gather_length (n ∷ ns) bs = ap suc (gather_length ns (drop n bs))

-- numbers of one width
pub gather_at : (m k i : ℕ) (bs : List ℕ) → i < k → get_or (gather (replicate k m) bs) i 0 ≡ number (take m (drop (i * m) bs))
unfolding gather
gather_at m zero i bs h = absurd (not-suc-le-zero h)
gather_at m (suc k) zero bs h = ap (λ (j : ℕ). number (take m (drop j bs))) (sym (zero-mul m))
gather_at m (suc k) (suc i) bs h =
    gather_at m k i (drop m bs) (le_of_suc-le-suc h)
    ∙ ap (λ (l : List ℕ). number (take m l)) (drop-drop (i * m) m bs ∙ ap (λ (j : ℕ). drop j bs) (add_comm m (i * m) ∙ sym (suc-mul i m)))

-- sixteen numbers, each that of the four bytes at its place, are those gathered
pub gather_each : (xs bs : List ℕ) → length xs ≡ 16 → ((i : ℕ) → i < 16 → get_or xs i 0 ≡ number (take 4 (drop (4 * i) bs))) → xs ≡ gather counter_widths bs
gather_each xs bs sixteen each =
    ext_get_or 0 xs (gather counter_widths bs) (sixteen ∙ sym (gather_length counter_widths bs)) (λ i h.
    let there : i < 16 = subst (λ (n : ℕ). i < n) sixteen h in
    let place : 4 * i ≡ i * 4 = omega arith in
    each i there ∙ ap (λ (n : ℕ). number (take 4 (drop n bs))) place ∙ sym (gather_at 4 16 i bs there))

-- numbers within their widths are read back from their bytes, whatever comes after
pub gather_spread : (ns xs rest : List ℕ) → within ns xs ≡ true → gather ns (spread ns xs ++ rest) ≡ xs
unfolding gather spread within
gather_spread [] [] rest e = refl
gather_spread [] (x ∷ xs) rest e = absurd (false≢true e)
gather_spread (n ∷ ns) [] rest e = absurd (false≢true e)
gather_spread (n ∷ ns) (x ∷ xs) rest e =
    let small : x < 256 ^ n = ltb-true x (256 ^ n) (both_left (ltb x (256 ^ n)) (within ns xs) e) in
    let tail : List ℕ = spread ns xs ++ rest in
    let whole : (low_bytes n x ++ spread ns xs) ++ rest ≡ low_bytes n x ++ tail = append_assoc (low_bytes n x) (spread ns xs) rest in
    let here : number (take n ((low_bytes n x ++ spread ns xs) ++ rest)) ≡ x =
    ap (λ (l : List ℕ). number (take n l)) whole ∙ ap number (take_at (low_bytes n x) tail n (low_length n x)) ∙ number_low n x ∙ mod-eq_of_lt small in
    let after : drop n ((low_bytes n x ++ spread ns xs) ++ rest) ≡ tail =
    ap (drop n) whole ∙ drop_at (low_bytes n x) tail n (low_length n x) in
    ap₂ (λ (a : ℕ) (l : List ℕ). a ∷ l) here
    (ap (gather ns) after ∙ gather_spread ns xs rest (both_right (ltb x (256 ^ n)) (within ns xs) e))

-- bytes are had back from the numbers that they give
pub spread_gather : (ns bs : List ℕ) → ((i : ℕ) → get_or bs i 0 < 256) → total ns ≤ length bs → spread ns (gather ns bs) ≡ take (total ns) bs
unfolding gather spread
spread_gather [] bs h k = refl
spread_gather (n ∷ ns) bs h k =
    let long : length (take n bs) ≡ n = length-take-le n bs (omega arith) in
    let rest : total ns ≤ length (drop n bs) = rw length-drop (omega arith) in
    ap₂ (λ (a b : List ℕ). a ++ b)
    (ap (λ (m : ℕ). low_bytes m (number (take n bs))) (sym long) ∙ low_number (take n bs) (take_below n bs h))
    (spread_gather ns (drop n bs) (drop_below n bs h) rest)
    ∙ sym (take-add n (total ns) bs)

-- numbers from bytes are within their widths
pub within_gather : (ns bs : List ℕ) → ((i : ℕ) → get_or bs i 0 < 256) → within ns (gather ns bs) ≡ true
unfolding gather within
within_gather [] bs h = refl
within_gather (n ∷ ns) bs h =
    ap₂ (λ (a b : Bool). a && b) (lt-ltb (number (take n bs)) (256 ^ n) (number_take n bs h)) (within_gather ns (drop n bs) (drop_below n bs h))
