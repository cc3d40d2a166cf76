-- Laws of the processor lines: a count of ones that is one is one of the eight lines alone, its number, and that no other write looks at
-- them. By computation over the 256 settings of the lines and the 128 addresses, and by induction on how many lines there are. Assumes
-- nothing.
use Prim.Native.Nat.{ℕ, zero, suc, ◌+◌, ◌/◌, ◌%◌, ◌^◌, ◌<◌, suc-le-suc}
use native.Mathlib.Nat.{mod-lt, zero-lt-suc, zero-add}
use native.Mathlib.Omega.{arith}
use mathlib.Core.Path.{◌≡◌, refl, sym, ap, ◌∙◌}
use mathlib.Core.Bool.{Bool, true, false, ◌&&◌, false≢true}
use mathlib.Core.List.{List, [], ◌∷◌}
use lib.Count.{ones_in, count_trailing_zeros, under}
use lib.Dec.{eqb, leb}
use lib.ListN.{get_or}
use borrow.Author.Tests.{eqb-true, lt-leb}
use Rattle.words.proofs.WordLaws.{ones_low}
use Rattle.chip.specs.Chip.{guarded, line_of, one_line, write, write_at}
use Rattle.chip.specs.Operation.{op_write, step}
use Rattle.chip.specs.Place.{place_of, register_of}
use Rattle.chip.specs.Rows.{line_alone, one_active, triggering}
use Rattle.chip.specs.declared.chip.Chip.{Chip}
use Rattle.chip.specs.declared.place.Place.{Place}
use Rattle.chip.specs.declared.place.Place.TheVariants.{Beyond, Nowhere, Reset, Csr, Timestamp, Filter, Waits, Overruns, Mux, Clear, Enable, Disable, Source, Counter, Trigger}
use Rattle.chip.proofs.AddressLaws.{place_test, same, same_eq, up_to, up_to_at}

-- "exactly one active processor line"
pub one_line_lem : (lines : ℕ) → one_line lines ≡ one_active lines
unfolding ones_in
one_line_lem lines =
    let one : (one_line (lines % 256) ∷ []) ≡ (line_alone (lines % 256) ∷ []) =
    same_eq _ _ (up_to_at 256 (λ b. same (one_line b ∷ []) (line_alone b ∷ [])) refl (lines % 256) (mod-lt lines (zero-lt-suc 255))) in
    ap (λ (n : ℕ). eqb n 1) (sym (ones_low 8 lines)) ∙ ap (λ (l : List Bool). get_or l 0 false) one

-- "the active line's number": line i alone has the number i
pub line_number_lem : up_to 8 (λ i. eqb (line_of (2 ^ i)) i && one_line (2 ^ i)) ≡ true
unfolding count_trailing_zeros ones_in
line_number_lem = refl

-- a line's number
line_under : (k n : ℕ) → (ones_in k n ≡ 0 → ⊥) → count_trailing_zeros k n < k
unfolding ones_in count_trailing_zeros
line_under zero n h = absurd (h refl)
line_under (suc k) n h = go (n % 2) h (line_under k (n / 2))
  where
    go : (d : ℕ) → (d + ones_in k (n / 2) ≡ 0 → ⊥) → ((ones_in k (n / 2) ≡ 0 → ⊥) → count_trailing_zeros k (n / 2) < k) → under d (count_trailing_zeros k (n / 2)) < suc k
    go zero p ih = suc-le-suc (ih (λ e. p (zero-add (ones_in k (n / 2)) ∙ e)))
    go (suc d) p ih = zero-lt-suc k

pub line_below : (lines : ℕ) → one_line lines ≡ true → line_of lines < 8
line_below lines e = line_under 8 lines (λ z. let p : ones_in 8 lines ≡ 1 = eqb-true (ones_in 8 lines) 1 e in omega arith)

-- ---- "The lines count only for writes to 96 to 127"

abbrev trigger_place : Place → Bool
trigger_place Beyond = false
trigger_place Nowhere = false
trigger_place Reset = false
trigger_place Csr = false
trigger_place Timestamp = false
trigger_place Filter = false
trigger_place Waits = false
trigger_place Overruns = false
trigger_place Mux = false
trigger_place Clear = false
trigger_place Enable = false
trigger_place Disable = false
trigger_place (Source i) = false
trigger_place (Counter i) = false
trigger_place (Trigger r level) = true

other_place : (p : Place) (bits lines lines' : ℕ) (c : Chip) → trigger_place p ≡ false → write_at p bits lines c ≡ write_at p bits lines' c
unfolding write_at
other_place Beyond bits lines lines' c e = refl
other_place Nowhere bits lines lines' c e = refl
other_place Reset bits lines lines' c e = refl
other_place Csr bits lines lines' c e = refl
other_place Timestamp bits lines lines' c e = refl
other_place Filter bits lines lines' c e = refl
other_place Waits bits lines lines' c e = refl
other_place Overruns bits lines lines' c e = refl
other_place Mux bits lines lines' c e = refl
other_place Clear bits lines lines' c e = refl
other_place Enable bits lines lines' c e = refl
other_place Disable bits lines lines' c e = refl
other_place (Source i) bits lines lines' c e = refl
other_place (Counter i) bits lines lines' c e = refl
other_place (Trigger r level) bits lines lines' c e = absurd (false≢true (sym e))

trigger_at : (a : ℕ) → trigger_place (place_of a) ≡ triggering a
unfolding place_of register_of
trigger_at a = place_test trigger_place triggering refl refl (λ b h. ap (λ (t : Bool). t && leb 96 b) (lt-leb b 127 h)) a

pub lines_ignored : (a bits lines lines' : ℕ) (c : Chip) → triggering a ≡ false → step (op_write a bits lines) c ≡ step (op_write a bits lines') c
unfolding write
lines_ignored a bits lines lines' c e = ap (guarded c) (other_place (place_of a) bits lines lines' c (trigger_at a ∙ e))
