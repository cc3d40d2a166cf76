-- `samples::reader::decode` meets its contract: each field is the number of the bytes at its place. Assumes nothing.
use Prim.Native.Nat.{ℕ}
use native.Mathlib.Omega.{arith}
use mathlib.Core.Path.{◌≡◌, refl, sym, ap, ◌∙◌}
use mathlib.Core.Bool.{true}
use mathlib.Core.List.{map}
use lib.ListN.{get_or, drop}
use Rattle.words.specs.Word.{byte_of}
use Rattle.samples.specs.Layout.{counter_widths, resource, sample_length, widths}
use Rattle.samples.specs.Read.{gather}
use Rattle.samples.proofs.ReadLaws.{number_read, header_byte, sample_read}
use Rattle.samples.proofs.reader.decode.Goals as goal

pub overflow_cast-header : goal.overflow_cast-header
overflow_cast-header c = omega (arith, number_read 1 0 c.args.part.now c.number_at-header.result c.number_at-header.ensures)

pub overflow_cast-source : goal.overflow_cast-source
overflow_cast-source c = record { fits = number_read 4 1 c.args.part.now c.number_at-source.result c.number_at-source.ensures }

pub counters_of-counters-requires : goal.counters_of-counters-requires
counters_of-counters-requires c =
    let a = c.args in
    let long : resource (byte_of (get_or a.part.now 0 0)) ≡ true =
    ap resource (sym (header_byte a.part.now) ∙ sym c.number_at-header.ensures) ∙ sym c.is_resource.ensures ∙ c.if-is_resource.true in
    omega (arith, c.trace_bytes.ensures, ap (sample_length (widths a.edition)) long)

pub returns-then-is_resource : goal.returns-then-is_resource
returns-then-is_resource c =
    let bytes = map byte_of c.args.part.now in
    sample_read (widths c.args.edition) bytes _ _ c.stamp_bytes-stamp_size.ensures c.user_bytes.ensures _ _ _ _ _ _
    c.number_at-user.ensures
    c.number_at-stamp.ensures
    c.number_at-source.ensures
    c.number_at-header.ensures
    (sym c.if-is_resource.true ∙ c.is_resource.ensures)
    (c.counters_of-counters.ensures ∙ ap (λ (n : ℕ). gather counter_widths (drop n bytes)) c.trace_bytes.ensures)

pub returns-else-is_resource : goal.returns-else-is_resource
returns-else-is_resource c =
    sample_read (widths c.args.edition) (map byte_of c.args.part.now) _ _ c.stamp_bytes-stamp_size.ensures c.user_bytes.ensures _ _ _ _ _ _
    c.number_at-user.ensures
    c.number_at-stamp.ensures
    c.number_at-source.ensures
    c.number_at-header.ensures
    (sym c.if-is_resource.false ∙ c.is_resource.ensures)
    refl
