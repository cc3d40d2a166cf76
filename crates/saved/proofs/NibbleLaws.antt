-- A saved set has a field that its register can never hold exactly where one of its bytes has one: two fields to a byte, by induction on the bytes. Assumes
-- that all 88 are there.
use Prim.Native.Nat.{ℕ, zero, suc, ◌+◌, ◌*◌, ◌/◌, ◌%◌, ◌≤◌}
use native.Mathlib.Nat.{add-mul-mod_self_left, suc_inj, suc-ne-zero}
use native.Mathlib.Omega.{arith}
use mathlib.Core.Path.{◌≡◌, refl, sym, ap, ◌∙◌}
use mathlib.Core.Bool.{Bool, true, false, not, ◌&&◌, ◌||◌, or_assoc}
use mathlib.Core.List.{List, [], ◌∷◌, ◌++◌, map}
use lib.Dec.{eqb}
use lib.ListN.{drop, length, length-drop, take}
use lib.Seq.{drop-drop, length-take-le, take-add}
use Rattle.std.proofs.lemmas.List.{drop-map, take-map}
use Rattle.words.specs.Bytes.{number}
use Rattle.words.specs.Word.{byte_of}
use Rattle.counters2.specs.Fields.{holdable, none_zero}
use Rattle.saved.specs.Nibbles.{poor_set, poor, some_poor}
use Rattle.saved.specs.Saved.{number_from, set_of}

-- of two tests and the rest none holds
none_of : (a b c : Bool) → not a && (not b && not c) ≡ not ((a || b) || c)
none_of true b c = refl
none_of false true c = refl
none_of false false c = refl

-- n bytes have 2n fields; `low` is a number of which the bits of a field and of a byte are multiples
module _ (low : ℕ) (first : (b : ℕ) → b % 256 % 16 % low ≡ b % low) (second : (b : ℕ) → b % 256 / 16 % 16 % low ≡ b / 16 % low) where
  pub nibbles : (bs : List ℕ) (n : ℕ) → length bs ≡ n → none_zero (n + n) low (number (map byte_of bs)) ≡ not (some_poor low bs)
  unfolding none_zero number some_poor
  nibbles [] zero e = refl
  nibbles [] (suc n) e = absurd (suc-ne-zero n (sym e))
  nibbles (b ∷ bs) zero e = absurd (suc-ne-zero _ e)
  nibbles (b ∷ bs) (suc n) e =
      let rest : ℕ = number (map byte_of bs) in
      let x : ℕ = b % 256 + 256 * rest in
      let here : x % 16 ≡ b % 256 % 16 = omega arith in
      let cut : x / 16 ≡ b % 256 / 16 + 16 * rest = omega arith in
      let next : x / 16 % 16 ≡ b % 256 / 16 % 16 = ap (λ (y : ℕ). y % 16) cut ∙ add-mul-mod_self_left (b % 256 / 16) 16 rest in
      let gone : x / 16 / 16 ≡ rest = omega (arith, cut) in
      let two : suc n + suc n ≡ suc (suc (n + n)) = omega arith in
      ap (λ (k : ℕ). none_zero k low x) two
      ∙ (λ i. not (eqb ((ap (λ (y : ℕ). y % low) here ∙ first b) i) 0) && (not (eqb ((ap (λ (y : ℕ). y % low) next ∙ second b) i) 0) && none_zero (n + n) low (gone i)))
      ∙ ap (λ (t : Bool). not (eqb (b % low) 0) && (not (eqb (b / 16 % low) 0) && t)) (nibbles bs n (suc_inj e))
      ∙ none_of (eqb (b % low) 0) (eqb (b / 16 % low) 0) (some_poor low bs)

some_append : (low : ℕ) (xs ys : List ℕ) → some_poor low (xs ++ ys) ≡ some_poor low xs || some_poor low ys
unfolding some_poor
some_append low [] ys = refl
some_append low (x ∷ xs) ys =
    ap (λ (t : Bool). poor low x || t) (some_append low xs ys) ∙ sym (or_assoc (poor low x) (some_poor low xs) (some_poor low ys))

-- some bytes of a list, each with its low byte
map_part : (n k : ℕ) (bs : List ℕ) → take n (drop k (map byte_of bs)) ≡ map byte_of (take n (drop k bs))
map_part n k bs = ap (take n) (drop-map byte_of k bs) ∙ take-map byte_of n (drop k bs)

module _ (saved : List ℕ) (all : 88 ≤ length saved) where
  abbrev eight_at : ℕ → List ℕ
  eight_at k = take 8 (drop k saved)

  long : (k : ℕ) → k ≤ 80 → length (eight_at k) ≡ 8
  long k h = length-take-le 8 (drop k saved) (rw length-drop (omega arith))

  -- a register of the set
  register : (low k : ℕ) → k ≤ 80 → ((b : ℕ) → b % 256 % 16 % low ≡ b % low) → ((b : ℕ) → b % 256 / 16 % 16 % low ≡ b / 16 % low) → none_zero 16 low (number_from 8 k saved) ≡ not (some_poor low (eight_at k))
  register low k h first second =
      ap (λ (l : List ℕ). none_zero 16 low (number l)) (map_part 8 k saved) ∙ nibbles low first second (eight_at k) 8 (long k h)

  pub poor_set_lem : holdable (set_of saved).fields ≡ not (poor_set saved)
  unfolding set_of poor_set
  poor_set_lem =
      let e : none_zero 16 4 (number_from 8 64 saved) ≡ not (some_poor 4 (eight_at 64)) = register 4 64 (omega arith) (λ b. omega arith) (λ b. omega arith) in
      let m : none_zero 16 8 (number_from 8 72 saved) ≡ not (some_poor 8 (eight_at 72)) = register 8 72 (omega arith) (λ b. omega arith) (λ b. omega arith) in
      let s : none_zero 16 8 (number_from 8 80 saved) ≡ not (some_poor 8 (eight_at 80)) = register 8 80 (omega arith) (λ b. omega arith) (λ b. omega arith) in
      let two : take 16 (drop 72 saved) ≡ eight_at 72 ++ eight_at 80 =
      take-add 8 8 (drop 72 saved) ∙ ap (λ (l : List ℕ). eight_at 72 ++ take 8 l) (drop-drop 8 72 saved) in
      (λ i. e i && (m i && s i))
      ∙ none_of (some_poor 4 (eight_at 64)) (some_poor 8 (eight_at 72)) (some_poor 8 (eight_at 80))
      ∙ ap not (or_assoc (some_poor 4 (eight_at 64)) (some_poor 8 (eight_at 72)) (some_poor 8 (eight_at 80)) ∙ ap (λ (t : Bool). some_poor 4 (eight_at 64) || t) (sym (some_append 8 (eight_at 72) (eight_at 80)) ∙ ap (some_poor 8) (sym two)))
