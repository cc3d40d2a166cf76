-- `saved::saved::byte_of` meets its contract: by where each byte of a set stands. Assumes nothing.
use borrow.Author.Rules.{rules}
use Prim.Native.Nat.{ℕ, ◌+◌, ◌-◌}
use native.Mathlib.Omega.{arith}
use mathlib.Core.Path.{◌≡◌, sym, ap, ◌∙◌}
use lib.ListN.{get_or}
use Rattle.saved.specs.Saved.{saved_bytes}
use Rattle.saved.proofs.SavedLaws.{at_counters, at_enable, at_end, at_mode}
use Rattle.saved.proofs.saved.byte_of.Goals as goal

pub returns-then-place-lt64 : goal.returns-then-place-lt64
returns-then-place-lt64 c =
    let a = c.args in
    c.counter_byte.ensures ∙ sym (at_counters a.set (search rules) a.place (search rules))

pub returns-then-place-lt72 : goal.returns-then-place-lt72
returns-then-place-lt72 c =
    let a = c.args in
    let place : 64 + (a.place - 64) ≡ a.place = omega arith in
    c.byte_at.ensures ∙ sym (at_enable a.set (search rules) (a.place - 64) (omega arith)) ∙ ap (λ (k : ℕ). get_or (saved_bytes a.set) k 0) place

pub returns-then-place-lt80 : goal.returns-then-place-lt80
returns-then-place-lt80 c =
    let a = c.args in
    let place : 72 + (a.place - 72) ≡ a.place = omega arith in
    c.byte_at-then-place-lt80.ensures ∙ sym (at_mode a.set (search rules) (a.place - 72) (omega arith)) ∙ ap (λ (k : ℕ). get_or (saved_bytes a.set) k 0) place

pub returns : goal.returns
returns c =
    let a = c.args in
    let place : 80 + (a.place - 80) ≡ a.place = omega arith in
    c.byte_at-2.ensures ∙ sym (at_end a.set (search rules) (search rules) (a.place - 80)) ∙ ap (λ (k : ℕ). get_or (saved_bytes a.set) k 0) place
