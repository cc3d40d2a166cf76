-- What one call gives, at every place of every capture and for every width. Each of the three kinds of answers is one equation; the walk moves
-- on with all but 20; a gap's words are counted and end at the first boundary; and nothing before the place matters. By the reader's
-- theorems. Assumes nothing.
use Prim.Native.Nat.{ℕ, suc, ◌+◌, ◌-◌, ◌≤◌, ◌<◌, min}
use native.Mathlib.Nat.{add_assoc, add-sub_cancel_left, add-sub_of_le, add-zero, zero-add}
use native.Mathlib.Omega.{arith}
use mathlib.Core.Path.{◌≡◌, refl, sym, ap, ◌∙◌, subst}
use mathlib.Core.Bool.{Bool, true, false}
use mathlib.Core.List.{List, ◌++◌}
use lib.Dec.{eqb, leb, ltb}
use Rattle.std.proofs.lemmas.List.{drop_min}
use lib.ListN.{drop, get_or, length, take, drop_of_length-le, length-drop}
use lib.Seq.{drop-append-add, drop-drop, get_or-drop, take_all}
use borrow.Author.Tests.{eqb-false, eqb-true, leb-false, leb-true, ltb-false, ltb-true, ne_eqb}
use mathlib.Core.HLevel.{Π_prop, ⊥_prop, is_prop→PathP}
use Rattle.std.specs.Prelude.{◌≢◌}
use Rattle.samples.specs.Layout.{Widths, sample_words, zero_sample}
use Rattle.samples.specs.Read.{Found, fault_at, fault_number, read_part, verdict_number, wanted}
use Rattle.samples.specs.declared.sample.Sample.{Sample}
use Rattle.samples.specs.declared.reader.Fault.{Fault}
use Rattle.samples.specs.declared.reader.Fault.TheVariants.{Header, Mark, Parity, TooLarge, Unfinished}
use Rattle.samples.proofs.Decided.{place_20, place_fault}
use Rattle.samples.proofs.Numbers.{empty_20, fault_one, refused_nothing, refused_numbers}
use Rattle.samples.proofs.RoundTrip.{word_passed}
use Rattle.samples.proofs.Theorems.{accepted_count, accepted_place, accepted_words}
use Rattle.walk.specs.declared.gap.Gap.{Gap}
use Rattle.walk.specs.declared.Step.{Step}
use Rattle.walk.specs.declared.Step.TheVariants.{End, Gap as Gapped, Whole}
use Rattle.walk.specs.Pieces.{Boundary, EndsAt, end_answer, gap_answer, moved, sample_answer}
use Rattle.walk.specs.Walk.{Answer, after_boundary, answer_at, told}
use Rattle.walk.proofs.BoundaryLaws.{after_ends, unmarked}
use Rattle.walk.proofs.SkipLaws.{skip_gap}

moved_moved : (m n : ℕ) (a : Answer) → moved (m + n) a ≡ moved m (moved n a)
moved_moved m n a = simp add_assoc

-- a step is told by its own fields
pub told_own : ((s : Sample) (next : ℕ) → told (Whole s next) ≡ sample_answer next s) × ((g : Gap) → ((told (Gapped g)).sample ≡ zero_sample) × ((told (Gapped g)).next ≡ g.next) × ((told (Gapped g)).decided ≡ g.decided) × ((told (Gapped g)).skipped ≡ g.skipped) × ((told (Gapped g)).number ≡ fault_number g.fault)) × ((place decided : ℕ) → told (End place decided) ≡ end_answer place decided)
told_own = (λ s next. refl, λ g. (refl, refl, refl, refl, refl), λ place decided. refl)

-- a gap's number is not the end's
pub gap_number : (f : Fault) → f ≢ Unfinished → 21 ≤ fault_number f
gap_number Unfinished other = absurd (other refl)
gap_number TooLarge other = omega arith
gap_number Parity other = omega arith
gap_number Header other = omega arith
gap_number Mark other = omega arith

-- and two that are told alike are equal, so the walk's contract leaves one
pub step_one : (a b : Step) → told a ≡ told b → a ≡ b
step_one (Whole s m) (Whole t n) e = λ i. Whole (e i).sample (e i).next
step_one (Whole s m) (Gapped h) e = absurd (omega (arith, ap (λ (x : Answer). x.number) e, gap_number h.fault h.bad_word))
step_one (Whole s m) (End n q) e = absurd (omega (arith, ap (λ (x : Answer). x.number) e))
step_one (Gapped g) (Whole t n) e = absurd (omega (arith, ap (λ (x : Answer). x.number) e, gap_number g.fault g.bad_word))
step_one (Gapped g) (Gapped h) e =
    let same : g.fault ≡ h.fault = fault_one g.fault h.fault (ap (λ (x : Answer). x.number) e) in
    λ i.
    Gapped
    (record {
      fault = same i;
      decided = (e i).decided;
      skipped = (e i).skipped;
      next = (e i).next;
      bad_word = is_prop→PathP (λ j. same j ≢ Unfinished) (λ j. Π_prop (λ _. ⊥_prop)) g.bad_word h.bad_word i;
    })
step_one (Gapped g) (End n q) e = absurd (omega (arith, ap (λ (x : Answer). x.number) e, gap_number g.fault g.bad_word))
step_one (End m p) (Whole t n) e = absurd (omega (arith, ap (λ (x : Answer). x.number) e))
step_one (End m p) (Gapped h) e = absurd (omega (arith, ap (λ (x : Answer). x.number) e, gap_number h.fault h.bad_word))
step_one (End m p) (End n q) e = λ i. End (e i).next (e i).decided

-- ---- the three kinds of answers

pub data Kind (number : ℕ) : Type 0 where
  a_sample : number ≡ 0 → Kind number
  the_end : number ≡ 20 → Kind number
  a_gap : 21 ≤ number → number ≤ 24 → Kind number

pub kind_of_lem : (w : Widths) (ws : List ℕ) → Kind (read_part w ws).number
kind_of_lem w ws = go (eqb (read_part w ws).number 0) refl (leb 21 (read_part w ws).number) refl
  where
    go : (t : Bool) → eqb (read_part w ws).number 0 ≡ t → (u : Bool) → leb 21 (read_part w ws).number ≡ u → Kind (read_part w ws).number
    go true e u q = a_sample (eqb-true (read_part w ws).number 0 e)
    go false e true q = a_gap (leb-true 21 (read_part w ws).number q) (refused_numbers w ws e).1
    go false e false q = the_end (omega (arith, leb-false 21 (read_part w ws).number q, (refused_numbers w ws e).0))

module _ (w : Widths) (ws : List ℕ) (place : ℕ) where
  abbrev rest : List ℕ
  rest = drop place ws

  abbrev r : Found
  r = read_part w rest

  -- a sample, and the place after it
  pub answer_sample : r.number ≡ 0 → answer_at w ws place ≡ sample_answer (place + r.count) r.sample
  unfolding answer_at
  answer_sample e = simp (e, add-zero, accepted_place w rest e)

  -- 20
  pub answer_end : r.number ≡ 20 → answer_at w ws place ≡ end_answer place (place + length rest)
  unfolding answer_at
  answer_end e =
      let nothing = refused_nothing w rest (ap (λ (n : ℕ). eqb n 0) e) in
      simp (e, ap (λ (f : Found). f.sample) nothing, ap (λ (f : Found). f.count) nothing, place_20 w rest e, add-zero)

  -- a gap
  pub answer_gap : 21 ≤ r.number → answer_at w ws place ≡ gap_answer r.number place (place + r.place) (after_boundary rest r.place)
  unfolding answer_at
  answer_gap h =
      let nothing = refused_nothing w rest (ne_eqb r.number 0 (λ e. omega (arith, e, h))) in
      simp (skip_gap r rest h, ap (λ (f : Found). f.sample) nothing, ap (λ (f : Found). f.count) nothing, zero-add)

  -- the deciding word is one of the capture
  gap_there : 21 ≤ r.number → place + r.place < length ws
  gap_there h = omega (arith, (place_fault w rest h).0.there, length-drop place ws)

  -- the place after the boundary, from the capture's first word on
  pub after_moved : after_boundary ws (place + r.place) ≡ place + after_boundary rest r.place
  after_moved = simp (drop-drop, add_assoc)

  gap_end : 21 ≤ r.number → EndsAt ws (place + r.place) (place + after_boundary rest r.place)
  gap_end h = subst (EndsAt ws (place + r.place)) after_moved (after_ends ws (place + r.place) (gap_there h))

  -- ---- gaps

  abbrev a : Answer
  a = answer_at w ws place

  -- "the number of words skipped, which must be the count of words between the two boundaries"; no gap is empty
  pub gap_skips : 21 ≤ r.number → (a.next ≡ place + a.skipped) × (0 < a.skipped)
  unfolding answer_at
  gap_skips h =
      subst (λ (b : Answer). (b.next ≡ place + b.skipped) × (0 < b.skipped)) (sym (answer_gap h)) (refl, omega (arith, (gap_end h).after))

  -- "up to and including the first word, at or after the bad one, that is" a boundary; "if there is none, skip everything"
  pub gap_ends : 21 ≤ r.number → (place ≤ a.decided) × EndsAt ws a.decided a.next
  unfolding answer_at
  gap_ends h = subst (λ (b : Answer). (place ≤ b.decided) × EndsAt ws b.decided b.next) (sym (answer_gap h)) (omega arith, gap_end h)

  -- the bad word stands at its place in the whole capture
  pub gap_fault : 21 ≤ r.number → verdict_number (fault_at (wanted w rest) (a.decided - place) (get_or ws a.decided 0)) ≡ a.number
  unfolding answer_at
  gap_fault h =
      (λ i. verdict_number (fault_at (wanted w rest) (add-sub_cancel_left place r.place i) (sym (get_or-drop place ws r.place 0) i))) ∙ (place_fault w rest h).1

  -- a good word before the bad one is no boundary
  good_inside : 21 ≤ r.number → (j : ℕ) → place ≤ j → j < place + r.place → Boundary (get_or ws j 0) → ⊥
  good_inside h j low high at =
      let k : ℕ = j - place in
      let reached = (place_fault w rest h).0 in
      let same : get_or rest k 0 ≡ get_or ws j 0 = get_or-drop place ws k 0 ∙ ap (λ (n : ℕ). get_or ws n 0) (add-sub_of_le low) in
      let passed = word_passed (wanted w rest) k (get_or rest k 0) (reached.before k (omega arith)) in
      let more : eqb (suc k) (wanted w rest) ≡ false = ne_eqb (suc k) (wanted w rest) (λ e. omega (arith, e, reached.inside)) in
      unmarked (get_or rest k 0) (passed.3 ∙ more) (subst Boundary (sym same) at)

  -- so the first boundary from the sample's first word on is the same one
  pub gap_first : 21 ≤ r.number → EndsAt ws place a.next
  unfolding answer_at
  gap_first h =
      let ends = gap_ends h in
      record {
        after = omega (arith, ends.0, ends.1.after);
        within = ends.1.within;
        none = λ j low high. go j (ltb j (place + r.place)) refl low high;
        last = ends.1.last;
      }
    where
      go : (j : ℕ) (t : Bool) → ltb j (place + r.place) ≡ t → place ≤ j → suc j < a.next → Boundary (get_or ws j 0) → ⊥
      go j true q low high = good_inside h j low (ltb-true j (place + r.place) q)
      go j false q low high = (gap_ends h).1.none j (ltb-false j (place + r.place) q) high

  -- ---- samples and the end

  -- a sample's words are those from its place to the next, and nothing is skipped
  pub sample_words_lem : r.number ≡ 0 → (take (a.next - place) rest ≡ sample_words w a.sample) × (a.skipped ≡ 0)
  unfolding answer_at
  sample_words_lem e =
      subst (λ (b : Answer). (take (b.next - place) rest ≡ sample_words w b.sample) × (b.skipped ≡ 0)) (sym (answer_sample e))
      (ap (λ (k : ℕ). take k rest) (add-sub_cancel_left place r.count) ∙ accepted_words w rest e, refl)

  -- 20 "is no gap, hands back the place given and skips 0"; the good words end with the capture
  pub end_stays : r.number ≡ 20 → (a.next ≡ place) × (a.skipped ≡ 0) × (a.decided ≡ place + (length ws - place))
  end_stays e =
      let end = answer_end e in
      (ap (λ (b : Answer). b.next) end, ap (λ (b : Answer). b.skipped) end, ap (λ (b : Answer). b.decided) end ∙ ap (λ (k : ℕ). place + k) (length-drop place ws))

  -- "20 at or past the end"
  pub past_end : length ws ≤ place → a ≡ end_answer place place
  past_end past =
      let none : length rest ≡ 0 = omega (arith, length-drop place ws) in
      let empty : r.number ≡ 20 = ap (λ (l : List ℕ). (read_part w l).number) (drop_of_length-le ws past) ∙ empty_20 w in
      answer_end empty ∙ ap (end_answer place) (omega (arith, none))

  -- beside all but a sample the fields are zeros
  pub no_sample : eqb r.number 0 ≡ false → a.sample ≡ zero_sample
  unfolding answer_at
  no_sample e = ap (λ (f : Found). f.sample) (refused_nothing w rest e)

  -- ---- the walk

  -- all but 20 bring it on, within the capture
  pub moves_on : eqb a.number 20 ≡ false → (place < a.next) × (a.next ≤ length ws)
  unfolding answer_at
  moves_on e = go (kind_of_lem w rest)
    where
      go : Kind r.number → (place < a.next) × (a.next ≤ length ws)
      go (a_sample q) =
          let size = accepted_count w rest q in
          subst (λ (b : Answer). (place < b.next) × (b.next ≤ length ws)) (sym (answer_sample q)) (omega (arith, size.0), omega (arith, size.1, length-drop place ws))
      go (the_end q) = absurd (eqb-false r.number 20 e q)
      go (a_gap h most) = subst (λ (b : Answer). (place < b.next) × (b.next ≤ length ws)) (sym (answer_gap h)) (omega (arith, (gap_end h).after), (gap_end h).within)

  -- what a call gives is what the reader finds in the words from the place on, with the place added
  pub reader_told : (a.sample ≡ r.sample) × (a.number ≡ r.number) × (a.decided ≡ place + r.place)
  unfolding answer_at
  reader_told = (refl, refl, refl)

  -- "Whatever follows the boundary is read as a fresh reader would read it": a call gives what one at the start of the words from the place
  -- on gives, with the place added; nothing before it matters
  pub fresh : answer_at w ws place ≡ moved place (answer_at w (drop place ws) 0)
  unfolding answer_at
  fresh = simp zero-add

-- the words from the least of a place and the length on are those from the place on
pub least_rest : (ws : List ℕ) (place start : ℕ) → start ≡ min place (length ws) → take (length ws - start) (drop start ws) ≡ drop place ws
least_rest ws place start e = take_all (length ws - start) (drop start ws) (omega (arith, length-drop start ws)) ∙ ap (λ (k : ℕ). drop k ws) e ∙ drop_min place ws

-- so words before a capture move its answers and change nothing else
pub answer_behind : (w : Widths) (front ws : List ℕ) (place : ℕ) → answer_at w (front ++ ws) (length front + place) ≡ moved (length front) (answer_at w ws place)
answer_behind w front ws place =
    fresh w (front ++ ws) (length front + place)
    ∙ ap (λ (l : List ℕ). moved (length front + place) (answer_at w l 0)) (drop-append-add front ws place)
    ∙ moved_moved (length front) place (answer_at w (drop place ws) 0)
    ∙ ap (moved (length front)) (sym (fresh w ws place))
