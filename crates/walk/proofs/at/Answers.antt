-- `walk::at` meets its contract: the reader is given the words from the place on, and each kind of answer is told by its law. Assumes nothing.
use mathlib.Core.List.{List}
use Rattle.samples.specs.declared.edition.Edition.{Edition}
use Prim.Native.Nat.{ℕ, ◌+◌, ◌-◌, ◌≤◌, min}
use native.Mathlib.Nat.{add-sub_cancel_left}
use native.Mathlib.Omega.{arith}
use mathlib.Core.Path.{◌≡◌, sym, ap, ◌∙◌, subst}
use lib.ListN.{drop, length, length-drop, take}
use Rattle.samples.specs.Layout.{widths, zero_sample}
use Rattle.samples.specs.Read.{Found, fault_number, read_part}
use Rattle.samples.proofs.Decided.{place_within, place_20}
use Rattle.samples.proofs.Numbers.{count_within}
use Rattle.walk.specs.Pieces.{end_answer, sample_answer}
use Rattle.walk.specs.Walk.{after_boundary}
use Rattle.walk.proofs.Answers.{after_moved, answer_end, answer_gap, answer_sample, gap_number, least_rest}
use Rattle.walk.proofs.at.Goals as goal

-- what the reader found in the words from the place on
there : (edition : Edition) (ws : List ℕ) (place : ℕ) {start : ℕ} {r : Found} → r ≡ read_part (widths edition) (take (length ws - start) (drop start ws)) → start ≡ min place (length ws) → r ≡ read_part (widths edition) (drop place ws)
there edition ws place e f = e ∙ ap (read_part (widths edition)) (least_rest ws place _ f)

pub overflow_add-result : goal.overflow_add-result
overflow_add-result c =
    let a = c.args in
    let ws = a.capture.now in
    let is = there a.edition ws a.place c.in-Ok.ensures c.min-start.ensures in
    omega (arith, ap (λ (f : Found). f.count) is, count_within (widths a.edition) (drop a.place ws), length-drop a.place ws)

pub overflow_add-decided : goal.overflow_add-decided
overflow_add-decided c =
    let a = c.args in
    let ws = a.capture.now in
    let is = there a.edition ws a.place c.in-Err.ensures c.min-start.ensures in
    omega (arith, ap (λ (f : Found). f.place) is, (place_within (widths a.edition) (drop a.place ws)).0, length-drop a.place ws)

pub returns-in-Ok : goal.returns-in-Ok
returns-in-Ok c =
    let a = c.args in
    let ws = a.capture.now in
    let is = there a.edition ws a.place c.in-Ok.ensures c.min-start.ensures in
    (λ i. sample_answer (a.place + (is i).count) (is i).sample)
    ∙ sym (answer_sample (widths a.edition) ws a.place (sym (ap (λ (f : Found). f.number) is)))

pub returns-in-Unfinished : goal.returns-in-Unfinished
returns-in-Unfinished c =
    let a = c.args in
    let ws = a.capture.now in
    let w = widths a.edition in
    let is = there a.edition ws a.place c.in-Err.ensures c.min-start.ensures in
    let end = sym (ap (λ (f : Found). f.number) is) ∙ ap fault_number c.in-Unfinished.is in
    let all = ap (λ (f : Found). f.place) is ∙ place_20 w (drop a.place ws) end in
    (λ i. end_answer a.place (a.place + all i)) ∙ sym (answer_end w ws a.place end)

pub returns-in_default : goal.returns-in_default
returns-in_default c =
    let a = c.args in
    let ws = a.capture.now in
    let w = widths a.edition in
    let is = there a.edition ws a.place c.in-Err.ensures c.min-start.ensures in
    let high = gap_number c.in-Err.refusal.fault c.in_default.not-Unfinished in
    let gap = subst (λ (n : ℕ). 21 ≤ n) (ap (λ (f : Found). f.number) is) high in
    let next = c.after_boundary-next.ensures ∙ ap (λ (f : Found). after_boundary ws (a.place + f.place)) is ∙ after_moved w ws a.place in
    let skipped = ap (λ (n : ℕ). n - a.place) next ∙ add-sub_cancel_left a.place _ in
    (λ i. record { sample = zero_sample; next = next i; decided = a.place + (is i).place; skipped = skipped i; number = (is i).number })
    ∙ sym (answer_gap w ws a.place gap)
