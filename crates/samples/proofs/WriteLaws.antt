-- Laws of the writer's tests: widths and zeros are tested number by number. Assumes nothing.
use Prim.Native.Nat.{ℕ, zero, suc, ◌^◌, ◌≤◌, ◌<◌}
use native.Mathlib.Nat.{not-suc-le-zero, suc-ne-zero, suc_inj, lt_trans}
use mathlib.Core.Path.{◌≡◌, refl, sym, ap, ap₂, ◌∙◌}
use mathlib.Core.Bool.{Bool, true, false, ◌&&◌, ◌||◌, and-false}
use mathlib.Core.List.{List, [], ◌∷◌, ◌++◌}
use lib.Dec.{eqb, ltb, lit<}
use lib.ListN.{length, get_or, drop, replicate}
use borrow.Author.Tests.{lt-ltb, le-ltb, le-leb, lt-leb}
use Rattle.std.specs.List.{list_all}
use Rattle.samples.specs.Layout.{Widths, counter_widths, field_widths, resource, sample_length, sample_words}
use Rattle.samples.specs.Write.{all_zero, row, within, writable, write_answer, write_buffer}
use Rattle.samples.specs.declared.sample.Sample.{Sample}

-- asking each number is what the definition does
pub zero_all : (xs : List ℕ) → list_all (λ (x : ℕ). eqb x 0) xs ≡ all_zero xs
unfolding all_zero
zero_all [] = refl
zero_all (x ∷ xs) = ap (λ (b : Bool). eqb x 0 && b) (zero_all xs)

-- numbers of one width
pub within_each : (n k : ℕ) (xs : List ℕ) → length xs ≡ k → ((i : ℕ) → get_or xs i 0 < 256 ^ n) → within (replicate k n) xs ≡ true
unfolding within
within_each n zero [] e h = refl
within_each n zero (x ∷ xs) e h = absurd (suc-ne-zero _ e)
within_each n (suc k) [] e h = absurd (suc-ne-zero _ (sym e))
within_each n (suc k) (x ∷ xs) e h =
    ap₂ (λ (a b : Bool). a && b) (lt-ltb x (256 ^ n) (h zero)) (within_each n k xs (suc_inj e) (λ i. h (suc i)))

-- one number above its width is enough, whichever it is
above : (ns xs : List ℕ) (k : ℕ) → 256 ^ get_or ns k 0 ≤ get_or xs k 0 → within ns xs ≡ false
unfolding within
above [] [] k h = absurd (not-suc-le-zero h)
above [] (x ∷ xs) k h = refl
above (n ∷ ns) [] k h = refl
above (n ∷ ns) (x ∷ xs) zero h = ap (λ (b : Bool). b && within ns xs) (le-ltb x (256 ^ n) h)
above (n ∷ ns) (x ∷ xs) (suc k) h = ap (λ (b : Bool). ltb x (256 ^ n) && b) (above ns xs k h) ∙ and-false (ltb x (256 ^ n))

pub refuse_field : (w : Widths) (s : Sample) (k : ℕ) → 256 ^ get_or (field_widths w) k 0 ≤ get_or (s.header ∷ s.source ∷ s.stamp ∷ s.user ∷ []) k 0 → writable w s ≡ false
unfolding writable
refuse_field w s k h =
    ap (λ (b : Bool). b && (within counter_widths s.counters && (ltb s.header 32 && (resource s.header || all_zero s.counters))))
    (above (field_widths w) (s.header ∷ s.source ∷ s.stamp ∷ s.user ∷ []) k h)

-- header bits 5 to 7 are enough too, and with no fault left but the counters', they decide
module _ (w : Widths) (s : Sample) where
  pub refuse_header : 32 ≤ s.header → writable w s ≡ false
  unfolding writable
  refuse_header h = simp (le-ltb s.header 32 h, and-false)

  pub counters_decide : s.header < 32 → s.source < 256 ^ 4 → s.stamp < 256 ^ w.stamp_bytes → s.user < 256 ^ w.user_bytes → within counter_widths s.counters ≡ true → writable w s ≡ resource s.header || all_zero s.counters
  unfolding writable within
  counters_decide h so st u c =
      simp (lt-ltb s.header 256 (lt_trans h (lit< tt)), lt-ltb s.source (256 ^ 4) so, lt-ltb s.stamp (256 ^ w.stamp_bytes) st, lt-ltb s.user (256 ^ w.user_bytes) u, c, lt-ltb s.header 32 h)

-- the writer's answer and buffer, case by case
module _ (w : Widths) (s : Sample) (out : List ℕ) (n : ℕ) (size : n ≡ sample_length w (resource s.header)) where
  pub wrote : writable w s ≡ true → n ≤ length out → (row 0 n ≡ write_answer w s (length out)) × (sample_words w s ++ drop n out ≡ write_buffer w s out)
  unfolding write_answer write_buffer
  wrote fit room = rw (fit, ← size, le-leb n (length out) room) (refl, refl)

  pub wrote_short : writable w s ≡ true → length out < n → (row 18 0 ≡ write_answer w s (length out)) × (out ≡ write_buffer w s out)
  unfolding write_answer write_buffer
  wrote_short fit room = rw (fit, ← size, lt-leb n (length out) room) (refl, refl)

pub wrote_unfit : (w : Widths) (s : Sample) (out : List ℕ) → writable w s ≡ false → (row 17 0 ≡ write_answer w s (length out)) × (out ≡ write_buffer w s out)
unfolding write_answer write_buffer
wrote_unfit w s out fault = rw fault (refl, refl)
