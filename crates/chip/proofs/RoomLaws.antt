-- The rows' own words for room, for busy shadows and for the bounds of 15 agree with the definitions: one place after the other, and bound
-- by bound. Assumes nothing.
use Prim.Native.Nat.{ℕ, zero, suc, ◌%◌, ◌<◌}
use native.Mathlib.Omega.{arith}
use mathlib.Core.Path.{◌≡◌, refl, sym, ap, ap₂, subst, ◌∙◌}
use mathlib.Core.Logic.{◌↔◌}
use mathlib.Core.Bool.{Bool, true, false, ◌&&◌, ◌||◌}
use mathlib.Core.List.{List, [], ◌∷◌}
use lib.Dec.{leb}
use lib.ListN.{get_or, take}
use borrow.Author.Tests.{le-leb, leb-false, leb-true, lt-leb}
use Rattle.counters.specs.Due.{divisor_of}
use Rattle.samples.specs.Layout.{sample_length, widths}
use Rattle.samples.specs.declared.edition.Edition.TheVariants.{First}
use Rattle.samples.proofs.PlaceLaws.{resource_number}
use Rattle.queue.specs.Queue.{any_resource, busy, first_count, zero_held}
use Rattle.queue.specs.declared.queue.Held.{Held}
use Rattle.queue.specs.declared.queue.Queue.{Queue}
use Rattle.queue.proofs.BoundLaws.{bounds, bounds_back}
use Rattle.chip.specs.Chip.{inside, lacks_room}
use Rattle.chip.specs.Rows.{WithinBounds, first_header, lacking, resource_held, some_resource}
use Rattle.chip.specs.declared.chip.Chip.{Chip}
use Rattle.chip.proofs.ChipLaws.{inside_by, inside_phase, inside_queue_lem, inside_stamp}

or_swap : (a b x : Bool) → (a || (b || x)) ≡ (b || (a || x))
or_swap true true x = refl
or_swap true false x = refl
or_swap false b x = refl

-- the first place and the others
some_none : (n : ℕ) → some_resource n [] ≡ false
unfolding some_resource
some_none zero = refl
some_none (suc n) = some_none n

some_cons : (n : ℕ) (h : Held) (hs : List Held) → some_resource (suc n) (h ∷ hs) ≡ (leb 8 (h.header % 16) || some_resource n hs)
unfolding some_resource
some_cons zero h hs = refl
some_cons (suc n) h hs =
    let here : Bool = leb 8 ((get_or hs n zero_held).header % 16) in
    ap (λ (b : Bool). here || b) (some_cons n h hs) ∙ or_swap here (leb 8 (h.header % 16)) (some_resource n hs)

pub some_any : (n : ℕ) (hs : List Held) → any_resource (take n hs) ≡ some_resource n hs
unfolding any_resource some_resource
some_any zero hs = refl
some_any (suc n) [] = sym (some_none (suc n))
some_any (suc n) (h ∷ hs) = ap₂ (λ (a b : Bool). a || b) (resource_number h.header) (some_any n hs) ∙ sym (some_cons n h hs)

pub rows_busy : (c : Chip) → busy c.queue ≡ resource_held c
rows_busy c = some_any c.queue.held c.queue.places

pub rows_room : (c : Chip) (a : ℕ) → lacks_room (leb 112 a) c.queue ≡ lacking c a
rows_room c a = ap (λ (b : Bool). leb 8 c.queue.held || (leb 112 a && b)) (rows_busy c)

-- a record is inside the bounds exactly where they hold by number
pub inside_bounded : (c : Chip) → inside c ≡ true ↔ WithinBounds c
inside_bounded c = (to, back)
  where
    q : Queue
    q = c.queue

    size : (r : Bool) → leb 8 (first_header c % 16) ≡ r → first_count (widths First) q ≡ sample_length (widths First) r
    size r e = ap (sample_length (widths First)) (resource_number (first_header c) ∙ e)

    bounded : inside c ≡ true → (b : Bool) → c.switches.hundredth ≡ b → c.switches.phase < divisor_of b
    bounded h b e = subst (λ (x : Bool). c.switches.phase < divisor_of x) e (inside_phase c h)

    to : inside c ≡ true → WithinBounds c
    to h =
        let b = bounds (widths First) q (inside_queue_lem c h) in
        record {
          held = b.few;
          none = b.none;
          trace = λ some low. omega (arith, b.some (λ z. omega arith), size false (lt-leb 8 (first_header c % 16) low));
          resource = λ some high. omega (arith, b.some (λ z. omega arith), size true (le-leb 8 (first_header c % 16) high));
          tenth = bounded h false;
          hundredth = bounded h true;
          stamp = inside_stamp c h;
        }

    left : WithinBounds c → (q.held ≡ 0 → ⊥) → (r : Bool) → leb 8 (first_header c % 16) ≡ r → q.sent < first_count (widths First) q
    left b some true e = omega (arith, size true e, b.resource (omega arith) (leb-true 8 (first_header c % 16) e))
    left b some false e = omega (arith, size false e, b.trace (omega arith) (leb-false 8 (first_header c % 16) e))

    below : (b : Bool) → (b ≡ false → c.switches.phase < 10) → (b ≡ true → c.switches.phase < 100) → c.switches.phase < divisor_of b
    below true tenth hundredth = hundredth refl
    below false tenth hundredth = tenth refl

    back : WithinBounds c → inside c ≡ true
    back b =
        inside_by c
        (bounds_back (widths First) q (record { few = b.held; none = b.none; some = λ some. left b some (leb 8 (first_header c % 16)) refl }))
        (below c.switches.hundredth b.tenth b.hundredth)
        b.stamp
