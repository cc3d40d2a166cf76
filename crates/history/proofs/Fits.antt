-- On every list eight samples at most are held, one Resource sample among them, and no more words are sent than there are: a trigger is taken where it
-- has room. By the laws over the edition, and what each operation leaves of the ledger. Assumes nothing.
use Prim.Native.Nat.{ℕ, ◌<◌, min}
use native.Mathlib.Omega.{arith}
use mathlib.Core.Path.{◌≡◌, refl, sym, ap, ◌∙◌}
use mathlib.Core.Bool.{Bool, true, false, cond, ◌||◌}
use mathlib.Core.List.{List}
use Rattle.samples.specs.Layout.{resource as isResource}
use Rattle.samples.specs.declared.edition.Edition.TheVariants.{First}
use Rattle.control.proofs.HeaderLaws.{header_kind}
use Rattle.chip.specs.Operation.{Operation}
use Rattle.chip.proofs.ChipLaws.{either}
use Rattle.history.specs.Ledger.{Fate, Ledger, after_fate, entry_of, fate_in, held, is_set, ledger_of, left, reset_at, sample_in, was_lost, was_taken, was_told}
use Rattle.history.specs.Stream.{is_blocked, is_full}
use Rattle.history.specs.Waiting.{Fits, kind_of, lacks_at}
use Rattle.history.proofs.Leaves.{all_leave, one_leaves, write_leaves}
use Rattle.history.proofs.WaitLaws.{fits_none, fits_sent, fits_taken, lacks_said}
use Rattle.history.proofs.Triggers.{header_same}

-- the ledger's test of room
abbrev pub lacks : Bool → Ledger → Bool
lacks resource l = is_full (held l) || is_blocked resource (held l)

abbrev Fit : Ledger → Type 0
Fit l = Fits First 8 1 l.taken l.sent

module _ (l : Ledger) (h : Fit l) where
  fate_fits : (resource : Bool) (level line bits : ℕ) → line < 8 → Fit (after_fate (fate_in resource level l) resource line bits l)
  unfolding after_fate
  fate_fits resource level line bits small =
      either P l.settings.sampling _ _ (either P (is_set l.settings.filter level) _ _ (go (lacks resource l) refl) h) h
    where
      P : Fate → Type 0
      P f = Fit (after_fate f resource line bits l)

      -- the sample is of the trigger's kind
      kind : kind_of (sample_in resource line bits l) ≡ resource
      kind = ap isResource (sym (header_same line resource l.errors.mark)) ∙ header_kind line small resource l.errors.mark

      go : (b : Bool) → lacks resource l ≡ b → P (cond b (cond l.settings.writewait was_told was_lost) was_taken)
      go true e = either P l.settings.writewait _ _ h h
      go false e =
          fits_taken First 8 1 l.taken l.sent (sample_in resource line bits l) h
          (ap (λ (r : Bool). lacks_at kind_of 8 1 r (held l)) kind ∙ lacks_said resource (held l) ∙ e)

one_fits : (op : Operation) (l : Ledger) (b : Bool) → Fit l → Fit (entry_of op l).ledger
one_fits op l b h =
    one_leaves P l b h (λ hundredth. false) (λ a bits c. false) (λ hundredth. fits_none First 8 1)
    (λ a bits lines.
    write_leaves P l b h bits h h h (λ g. h) (λ xs. h) (λ resource level line small. fate_fits l h resource level line bits small) b b (fits_none First 8 1) h a lines)
    h
    (λ g. h)
    (λ k g. h)
    (λ room. fits_sent First 8 1 l.taken l.sent (min room (left l)) h (omega (arith, h.1.1)))
    op
  where
    P : Ledger → Bool → Type 0
    P m c = Fit m

-- after any list
pub always_fits : (ops : List Operation) → Fits First 8 1 (ledger_of ops).taken (ledger_of ops).sent
always_fits ops = all_leave (λ l b. Fit l) (λ op b. b) one_fits ops (reset_at 0 false) false (fits_none First 8 1)
