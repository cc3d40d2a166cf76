-- The rows' own words for room, for busy shadows and for the bounds of 15 agree with the definitions: place after place by the first chip's law,
-- and bound by bound. Assumes nothing.
use Prim.Native.Nat.{ℕ, ◌%◌, ◌<◌}
use native.Mathlib.Omega.{arith}
use mathlib.Core.Path.{◌≡◌, refl, ap, ◌∙◌}
use mathlib.Core.Logic.{◌↔◌}
use mathlib.Core.Bool.{Bool, true, false, ◌&&◌, ◌||◌}
use lib.Dec.{leb}
use borrow.Author.Tests.{le-leb, leb-false, leb-true, lt-leb}
use Rattle.samples.specs.Layout.{sample_length, widths}
use Rattle.samples.specs.declared.edition.Edition.TheVariants.{Second}
use Rattle.samples.proofs.PlaceLaws.{resource_number}
use Rattle.queue.specs.Queue.{busy, first_count}
use Rattle.queue.specs.declared.queue.Queue.{Queue}
use Rattle.queue.proofs.BoundLaws.{bounds, bounds_back}
use Rattle.chip.specs.Chip.{lacks_room}
use Rattle.chip.proofs.RoomLaws.{some_any}
use Rattle.chip2.specs.Chip2.{inside}
use Rattle.chip2.specs.Rows.{WithinBounds, first_header, lacking, resource_held}
use Rattle.chip2.specs.declared.chip2.Chip2.{Chip2}
use Rattle.chip2.proofs.ChipLaws.{inside_by, inside_phase, inside_queue_lem, inside_stamp}

pub rows_busy : (c : Chip2) → busy c.queue ≡ resource_held c
rows_busy c = some_any c.queue.held c.queue.places

pub rows_room : (c : Chip2) (a : ℕ) → lacks_room (leb 112 a) c.queue ≡ lacking c a
rows_room c a = ap (λ (b : Bool). leb 8 c.queue.held || (leb 112 a && b)) (rows_busy c)

-- a record is inside the bounds exactly where they hold by number
pub inside_bounded : (c : Chip2) → inside c ≡ true ↔ WithinBounds c
inside_bounded c = (to, back)
  where
    q : Queue
    q = c.queue

    size : (r : Bool) → leb 8 (first_header c % 16) ≡ r → first_count (widths Second) q ≡ sample_length (widths Second) r
    size r e = ap (sample_length (widths Second)) (resource_number (first_header c) ∙ e)

    to : inside c ≡ true → WithinBounds c
    to h =
        let b = bounds (widths Second) q (inside_queue_lem c h) in
        record {
          held = b.few;
          none = b.none;
          trace = λ some low. omega (arith, b.some (λ z. omega arith), size false (lt-leb 8 (first_header c % 16) low));
          resource = λ some high. omega (arith, b.some (λ z. omega arith), size true (le-leb 8 (first_header c % 16) high));
          phase = inside_phase c h;
          stamp = inside_stamp c h;
        }

    left : WithinBounds c → (q.held ≡ 0 → ⊥) → (r : Bool) → leb 8 (first_header c % 16) ≡ r → q.sent < first_count (widths Second) q
    left b some true e = omega (arith, size true e, b.resource (omega arith) (leb-true 8 (first_header c % 16) e))
    left b some false e = omega (arith, size false e, b.trace (omega arith) (leb-false 8 (first_header c % 16) e))

    back : WithinBounds c → inside c ≡ true
    back b =
        inside_by c
        (bounds_back (widths Second) q (record { few = b.held; none = b.none; some = λ some. left b some (leb 8 (first_header c % 16)) refl }))
        b.phase
        b.stamp
