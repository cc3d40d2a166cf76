-- A law of the processor lines on the MultiKron II: no write but a trigger looks at them. By the cases of places and computation over the 128
-- addresses; the first chip's laws of the lines themselves are the II's too. Assumes nothing.
use Prim.Native.Nat.{ℕ}
use mathlib.Core.Path.{◌≡◌, refl, sym, ap, ◌∙◌}
use mathlib.Core.Bool.{Bool, true, false, ◌&&◌, false≢true}
use lib.Dec.{leb}
use borrow.Author.Tests.{lt-leb}
use Rattle.chip.specs.Rows.{triggering}
use Rattle.chip2.specs.Chip2.{data_of, guarded, write, write_at}
use Rattle.chip2.specs.Operation.{op_write, step}
use Rattle.chip2.specs.Place.{place_of, register_of}
use Rattle.chip2.specs.declared.chip2.Chip2.{Chip2}
use Rattle.chip2.specs.declared.place.Place.{Place}
use Rattle.chip2.specs.declared.place.Place.TheVariants.{Beyond, Nowhere, Reset, Csr, Timestamp, Filter, Waits, Overruns, HighOrder, Enable, Mode, Select, Source, Counter, Shadow, Trigger}
use Rattle.chip2.proofs.AddressLaws.{place_test}

-- ---- "The lines count only for writes to 96 to 127"

abbrev trigger_place : Place → Bool
trigger_place Beyond = false
trigger_place Nowhere = false
trigger_place Reset = false
trigger_place Csr = false
trigger_place Timestamp = false
trigger_place Filter = false
trigger_place Waits = false
trigger_place Overruns = false
trigger_place HighOrder = false
trigger_place Enable = false
trigger_place Mode = false
trigger_place Select = false
trigger_place (Source i) = false
trigger_place (Counter i) = false
trigger_place (Shadow i) = false
trigger_place (Trigger r level) = true

other_place : (p : Place) (bits lines lines' : ℕ) (c : Chip2) → trigger_place p ≡ false → write_at p bits lines c ≡ write_at p bits lines' c
unfolding write_at
other_place Beyond bits lines lines' c e = refl
other_place Nowhere bits lines lines' c e = refl
other_place Reset bits lines lines' c e = refl
other_place Csr bits lines lines' c e = refl
other_place Timestamp bits lines lines' c e = refl
other_place Filter bits lines lines' c e = refl
other_place Waits bits lines lines' c e = refl
other_place Overruns bits lines lines' c e = refl
other_place HighOrder bits lines lines' c e = refl
other_place Enable bits lines lines' c e = refl
other_place Mode bits lines lines' c e = refl
other_place Select bits lines lines' c e = refl
other_place (Source i) bits lines lines' c e = refl
other_place (Counter i) bits lines lines' c e = refl
other_place (Shadow i) bits lines lines' c e = refl
other_place (Trigger r level) bits lines lines' c e = absurd (false≢true (sym e))

trigger_at : (a : ℕ) → trigger_place (place_of a) ≡ triggering a
unfolding place_of register_of
trigger_at a = place_test trigger_place triggering refl refl (λ b h. ap (λ (t : Bool). t && leb 96 b) (lt-leb b 127 h)) a

pub lines_ignored : (a bits lines lines' : ℕ) (c : Chip2) → triggering a ≡ false → step (op_write a bits lines) c ≡ step (op_write a bits lines') c
unfolding write
lines_ignored a bits lines lines' c e = ap (guarded c) (other_place (place_of a) (data_of bits c) lines lines' c (trigger_at a ∙ e))
