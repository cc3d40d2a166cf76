-- A fresh chip's fields are such as operations leave, and every operation keeps that: a write holds a field's old number or one that isn't zero in its
-- low bits. Assumes nothing.
use Prim.Native.Nat.{ℕ, ◌%◌, ◌<◌}
use mathlib.Core.Path.{◌≡◌, refl, sym, ap, ◌∙◌}
use mathlib.Core.Bool.{Bool, true, false, cond, not, false≢true}
use lib.Dec.{eqb}
use borrow.Author.Tests.{eq-eqb, eqb-false}
use Rattle.counters2.specs.Fields.{field_at, fresh_fields, written_fields}
use Rattle.counters2.proofs.FieldLaws.{written_field}
use Rattle.chip.proofs.AddressLaws.{up_to_at}
use Rattle.chip.proofs.ChipLaws.{either, not_true}
use Rattle.chip2.specs.Chip2.{data_of, external_events, fresh, inside, node_ticks, read, send, send_into, timestamp_ticks, write}
use Rattle.chip2.specs.Left.{Leavable}
use Rattle.chip2.specs.Operation.{Operation, op_reset, op_write, op_read, op_ticks, op_nodes, op_events, op_send, op_fill, step}
use Rattle.chip2.specs.Place.{place_of}
use Rattle.chip2.specs.Told.{Told}
use Rattle.chip2.specs.declared.chip2.Chip2.{Chip2}
use Rattle.chip2.proofs.Bounds.{guarded_keeps, read_keeps, write_keeps}

-- a test that a number doesn't pass
fails : (n : ℕ) → not (eqb n 0) ≡ true → n ≡ 0 → ⊥
fails n t e = false≢true (sym (not_true (eqb n 0) t) ∙ eq-eqb n 0 e)

-- "** default setting"
pub fresh_left : Leavable fresh.fields
fresh_left i h =
    let e = up_to_at 16 (λ j. not (eqb (field_at fresh_fields.enable j % 4) 0)) refl i h in
    let m = up_to_at 16 (λ j. not (eqb (field_at fresh_fields.mode j % 8) 0)) refl i h in
    let s = up_to_at 16 (λ j. not (eqb (field_at fresh_fields.select j % 8) 0)) refl i h in
    (fails _ e, (fails _ m, fails _ s))

-- a written register
written_left : (low old new i : ℕ) → i < 16 → (field_at old i % low ≡ 0 → ⊥) → field_at (written_fields 16 low old new) i % low ≡ 0 → ⊥
written_left low old new i h f e = go (eqb (field_at new i % low) 0) refl (ap (λ (n : ℕ). n % low) (sym (written_field low 16 old new i h)) ∙ e)
  where
    go : (b : Bool) → eqb (field_at new i % low) 0 ≡ b → cond b (field_at old i) (field_at new i) % low ≡ 0 → ⊥
    go true q r = f r
    go false q r = eqb-false (field_at new i % low) 0 q r

-- every operation, on any record
pub keeps_left : (op : Operation) (c : Chip2) → Leavable c.fields → Leavable (step op c).chip.fields
unfolding write read timestamp_ticks node_ticks external_events send send_into
keeps_left op_reset c h = fresh_left
keeps_left (op_write a bits lines) c h =
    let P : Chip2 → Type 0 = λ d. Leavable d.fields in
    let f = c.fields in
    guarded_keeps P (inside c) c _ h
    (write_keeps P (place_of a) (data_of bits c) lines c h (λ k w. h) h h
    (λ i p. (written_left 4 f.enable (data_of bits c) i p (h i p).0, (h i p).1))
    (λ i p. ((h i p).0, (written_left 8 f.mode (data_of bits c) i p (h i p).1.0, (h i p).1.1)))
    (λ i p. ((h i p).0, ((h i p).1.0, written_left 8 f.select (data_of bits c) i p (h i p).1.1)))
    (λ i. h) (λ i. h) (λ i. h) fresh_left (λ r. h))
keeps_left (op_read a) c h =
    let P : Chip2 → Type 0 = λ d. Leavable d.fields in
    guarded_keeps P (inside c) c _ h (read_keeps P (place_of a) c h (λ k w. h) (λ v w. h) (λ v w. h))
keeps_left (op_ticks k levels) c h = guarded_keeps (λ d. Leavable d.fields) (inside c) c _ h h
keeps_left (op_nodes k levels) c h = guarded_keeps (λ d. Leavable d.fields) (inside c) c _ h h
keeps_left (op_events mask) c h = guarded_keeps (λ d. Leavable d.fields) (inside c) c _ h h
keeps_left op_send c h =
    guarded_keeps (λ d. Leavable d.fields) (inside c) c _ h (either (λ (t : Told). Leavable t.chip.fields) (eqb c.queue.held 0) _ _ h h)
keeps_left (op_fill room) c h = guarded_keeps (λ d. Leavable d.fields) (inside c) c _ h h
