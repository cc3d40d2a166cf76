-- `chip2::chip2::Chip2::write` meets its contract: inside the bounds a reset at 0, else by the place; outside 15. Assumes nothing.
use mathlib.Core.Path.{sym, ap, ap₂, ◌∙◌}
use Prim.Native.Nat.{ℕ}
use borrow.Author.Tests.{ne_eqb}
use Rattle.chip2.specs.Chip2.{data_of, done, write, write_at}
use Rattle.chip2.specs.Place.{place_of, resets}
use Rattle.chip2.specs.declared.place.Place.{Place}
use Rattle.chip2.proofs.AddressLaws.{place_reset, place_resets}
use Rattle.chip2.proofs.ChipLaws.{guard_in, guard_out}
use Rattle.chip2.proofs.chip2.Chip2.write.Goals as goal

pub returns-then-address-eq0 : goal.returns-then-address-eq0
unfolding write write_at
returns-then-address-eq0 c =
    let a = c.args in
    let s = a.self in
    c.done.ensures
    ∙ ap (done 0) c.fresh_with.ensures
    ∙ ap (λ (p : Place). write_at p (data_of a.bits s) a.lines s) (sym (ap place_of c.if-address-eq0.true ∙ place_reset))
    ∙ guard_in s _ (sym c.inside.ensures ∙ c.if-inside.true)

pub write_at-requires : goal.write_at-requires
write_at-requires c =
    let a = c.args in
    ap resets c.find.ensures ∙ place_resets a.address ∙ ne_eqb a.address 0 c.if-address-eq0.false

pub returns-then-inside : goal.returns-then-inside
unfolding write
returns-then-inside c =
    let a = c.args in
    c.write_at.ensures
    ∙ ap₂ (λ (p : Place) (d : ℕ). write_at p d a.lines a.self) c.find.ensures c.data_of.ensures
    ∙ guard_in a.self _ (sym c.inside.ensures ∙ c.if-inside.true)

pub returns : goal.returns
unfolding write
returns c =
    let s = c.args.self in
    c.replied.ensures ∙ guard_out s _ (sym c.inside.ensures ∙ c.if-inside.false)
