-- Damage stays where it is: a capture laid out piece by piece, samples and damaged stretches in any order, walks to exactly these pieces, and
-- then to what the words behind them walk to. By induction on the pieces. Assumes nothing.
use Prim.Native.Nat.{ℕ, zero, suc, ◌+◌, ◌-◌, ◌≤◌, ◌<◌}
use native.Mathlib.Nat.{add-zero, not-suc-le-zero, zero-add}
use native.Mathlib.Omega.{arith}
use mathlib.Core.Path.{◌≡◌, refl, sym, ap, ap₂, ◌∙◌, subst}
use mathlib.Core.Bool.{Bool, true, false, cond}
use mathlib.Core.List.{List, [], ◌∷◌, ◌++◌, map, append_assoc, append-nil}
use lib.Dec.{eqb}
use Rattle.std.proofs.lemmas.Grind.{flat_map-append}
use lib.ListN.{length, length-append, get_or-append}
use borrow.Author.Tests.{ne_eqb}
use Rattle.samples.specs.Layout.{Widths, sample_words}
use Rattle.samples.specs.Read.{Found, read_part}
use Rattle.samples.specs.Write.{writable}
use Rattle.samples.specs.declared.sample.Sample.{Sample}
use Rattle.samples.proofs.Decided.{after_bad, place_fault}
use Rattle.samples.proofs.RoundTrip.{sixteen_fit}
use Rattle.samples.proofs.SampleLaws.{sample_length_lem}
use Rattle.samples.proofs.Theorems.{read_written}
use Rattle.walk.specs.Pieces.{AllFit, Boundary, Damaged, EndsAt, Fit, Piece, damaged, end_answer, gap_answer, gap_between, laid, moved, piece_answer, piece_answers, piece_words, sample_answer, samples_of, sound, sound_of}
use Rattle.walk.specs.Walk.{Answer, after_boundary, answer_at, answers, walk}
use Rattle.walk.proofs.Answers.{answer_behind, answer_gap, answer_sample, moves_on, past_end}
use Rattle.walk.proofs.BoundaryLaws.{after_ends, ends_only}
use Rattle.walk.proofs.Whole.{enough_calls, one_call}

-- ---- one piece, with any words behind it

sample_piece : (w : Widths) (s : Sample) (rest : List ℕ) → writable w s ≡ true → answer_at w (sample_words w s ++ rest) 0 ≡ piece_answer w 0 (sound s)
sample_piece w s rest fit =
    let read = read_written w s rest fit in
    let size : (read_part w (sample_words w s ++ rest)).count ≡ length (sample_words w s) = ap (λ (f : Found). f.count) read ∙ sym (sample_length_lem w s (sixteen_fit w s fit)) in
    answer_sample w (sample_words w s ++ rest) 0 (ap (λ (f : Found). f.number) read)
    ∙ (λ i. sample_answer (0 + size i) (read i).sample)

damaged_piece : (w : Widths) (ws rest : List ℕ) → Damaged w ws → answer_at w (ws ++ rest) 0 ≡ piece_answer w 0 (damaged ws)
damaged_piece w ws rest d =
    answer_gap w (ws ++ rest) 0 (subst (λ (n : ℕ). 21 ≤ n) (sym same.0) d.bad)
    ∙ (λ i. gap_answer (same.0 i) 0 (0 + same.1 i) (size i))
  where
    p : ℕ
    p = (read_part w ws).place

    same : ((read_part w (ws ++ rest)).number ≡ (read_part w ws).number) × ((read_part w (ws ++ rest)).place ≡ p)
    same = after_bad w ws rest d.bad

    there : p < length ws
    there = (place_fault w ws d.bad).0.there

    long : length (ws ++ rest) ≡ length ws + length rest
    long = length-append ws rest

    last : EndsAt (ws ++ rest) p (length ws)
    last =
        record {
          after = there;
          within = omega (arith, long);
          none = λ j a b at. d.others j a b (subst Boundary (get_or-append ws rest 0 j (omega arith)) at);
          last = λ h. subst Boundary (sym (get_or-append ws rest 0 (length ws - 1) (omega (arith, there)))) d.last;
        }

    size : after_boundary (ws ++ rest) (read_part w (ws ++ rest)).place ≡ length ws
    size =
        ap (after_boundary (ws ++ rest)) same.1
        ∙ ends_only (ws ++ rest) p (after_boundary (ws ++ rest) p) (length ws) (after_ends (ws ++ rest) p (omega (arith, there, long))) last

piece_here : (w : Widths) (p : Piece) (rest : List ℕ) → Fit w p → answer_at w (piece_words w p ++ rest) 0 ≡ piece_answer w 0 p
piece_here w (sound s) rest fit = sample_piece w s rest fit
piece_here w (damaged ws) rest fit = damaged_piece w ws rest fit

-- with words before it
piece_moved : (w : Widths) (n : ℕ) (p : Piece) → moved n (piece_answer w 0 p) ≡ piece_answer w n p
piece_moved w n (sound s) = simp zero-add
piece_moved w n (damaged ws) = simp zero-add

piece_at : (w : Widths) (front : List ℕ) (p : Piece) (rest : List ℕ) → Fit w p → answer_at w (front ++ (piece_words w p ++ rest)) (length front) ≡ piece_answer w (length front) p
piece_at w front p rest fit =
    ap (answer_at w (front ++ (piece_words w p ++ rest))) (sym (add-zero (length front)))
    ∙ answer_behind w front (piece_words w p ++ rest) 0
    ∙ ap (moved (length front)) (piece_here w p rest fit)
    ∙ piece_moved w (length front) p

-- it is not the end, and the next place is after its words
piece_on : (w : Widths) (n : ℕ) (p : Piece) → Fit w p → (eqb (piece_answer w n p).number 20 ≡ false) × ((piece_answer w n p).next ≡ n + length (piece_words w p))
piece_on w n (sound s) fit = (refl, refl)
piece_on w n (damaged ws) fit = (ne_eqb (read_part w ws).number 20 (λ e. omega (arith, e, fit.bad)), refl)

-- ---- the walk over pieces

-- words before a capture move its walk and change nothing else
calls_behind : (w : Widths) (front ws : List ℕ) (k place : ℕ) → answers w (front ++ ws) k (length front + place) ≡ map (moved (length front)) (answers w ws k place)
unfolding answers
calls_behind w front ws zero place = refl
calls_behind w front ws (suc k) place =
    ap (λ (b : Answer). b ∷ cond (eqb b.number 20) [] (answers w (front ++ ws) k b.next)) (answer_behind w front ws place)
    ∙ go (eqb (answer_at w ws place).number 20) (calls_behind w front ws k (answer_at w ws place).next)
  where
    n : ℕ
    n = (answer_at w ws place).next

    go : (t : Bool) → answers w (front ++ ws) k (length front + n) ≡ map (moved (length front)) (answers w ws k n) → ◌≡◌ {A = List Answer} (moved (length front) (answer_at w ws place) ∷ cond t [] (answers w (front ++ ws) k (length front + n))) (moved (length front) (answer_at w ws place) ∷ map (moved (length front)) (cond t [] (answers w ws k n)))
    go true more = refl
    go false more = ap (λ (l : List Answer). moved (length front) (answer_at w ws place) ∷ l) more

module _ (w : Widths) (tail : List ℕ) where
  -- the answers to the pieces from a place on, and behind them those to what is left
  abbrev due : ℕ → List Piece → List Answer
  due n ps = piece_answers w n ps ++ map (moved (n + length (laid w ps))) (walk w tail)

  calls_pieces : (ps : List Piece) (front : List ℕ) (k : ℕ) → AllFit w ps → length (laid w ps ++ tail) < k → answers w (front ++ (laid w ps ++ tail)) k (length front) ≡ due (length front) ps
  unfolding laid piece_answers
  calls_pieces [] front k fit h =
      ap (answers w (front ++ tail) k) (sym (add-zero (length front)))
      ∙ calls_behind w front tail k 0
      ∙ ap₂ (λ (n : ℕ) (l : List Answer). map (moved n) l) (sym (add-zero (length front))) (enough_calls w tail k h)
  calls_pieces (p ∷ ps) front zero fit h = absurd (not-suc-le-zero h)
  calls_pieces (p ∷ ps) front (suc k) fit h =
      ap (λ (c : List ℕ). answers w c (suc k) (length front)) (ap (λ (l : List ℕ). front ++ l) (append_assoc pw (laid w ps) tail))
      ∙ one_call w c k (length front) on
      ∙ ap₂ (λ (b : Answer) (l : List Answer). b ∷ l)
      here
      (ap (answers w c k) next
      ∙ ap (λ (l : List ℕ). answers w l k (length (front ++ pw))) (sym (append_assoc front pw (laid w ps ++ tail)))
      ∙ calls_pieces ps (front ++ pw) k fit.1 few
      ∙ ap₂ (λ (m n : ℕ). piece_answers w m ps ++ map (moved n) (walk w tail)) (length-append front pw) behind)
    where
      pw : List ℕ
      pw = piece_words w p

      c : List ℕ
      c = front ++ (pw ++ (laid w ps ++ tail))

      here : answer_at w c (length front) ≡ piece_answer w (length front) p
      here = piece_at w front p (laid w ps ++ tail) fit.0

      on : eqb (answer_at w c (length front)).number 20 ≡ false
      on = ap (λ (b : Answer). eqb b.number 20) here ∙ (piece_on w (length front) p fit.0).0

      next : (answer_at w c (length front)).next ≡ length (front ++ pw)
      next = ap (λ (b : Answer). b.next) here ∙ (piece_on w (length front) p fit.0).1 ∙ sym (length-append front pw)

      few : length (laid w ps ++ tail) < k
      few =
          let some : length front < (answer_at w c (length front)).next = (moves_on w c (length front) on).0 in
          omega (arith, h, some, next, length-append front pw, length-append (pw ++ laid w ps) tail, length-append pw (laid w ps), length-append (laid w ps) tail)

      behind : length (front ++ pw) + length (laid w ps) ≡ length front + length (pw ++ laid w ps)
      behind = omega (arith, length-append front pw, length-append pw (laid w ps))

-- Samples and damaged stretches in any order, then any words: exactly these, each where it stands, and then what those words walk to.
pub walk_pieces : (w : Widths) (ps : List Piece) (tail : List ℕ) → AllFit w ps → walk w (laid w ps ++ tail) ≡ piece_answers w 0 ps ++ map (moved (length (laid w ps))) (walk w tail)
walk_pieces w ps tail fit =
    sym (enough_calls w (laid w ps ++ tail) (suc (length (laid w ps ++ tail))) (omega arith))
    ∙ calls_pieces w tail ps [] (suc (length (laid w ps ++ tail))) fit (omega arith)
    ∙ ap (λ (n : ℕ). piece_answers w 0 ps ++ map (moved n) (walk w tail)) (zero-add (length (laid w ps)))

-- a capture without words
walk_none : (w : Widths) → walk w [] ≡ end_answer 0 0 ∷ []
unfolding walk
walk_none w =
    let end : answer_at w [] 0 ≡ end_answer 0 0 = past_end w [] 0 (omega arith) in
    one_call w [] 0 0 (ap (λ (b : Answer). eqb b.number 20) end) ∙ ap (λ (b : Answer). b ∷ []) end

-- and alone: these, then 20 where they end, with nothing unread
pub walk_laid : (w : Widths) (ps : List Piece) → AllFit w ps → walk w (laid w ps) ≡ piece_answers w 0 ps ++ (end_answer (length (laid w ps)) (length (laid w ps)) ∷ [])
walk_laid w ps fit =
    ap (walk w) (sym (append-nil (laid w ps)))
    ∙ walk_pieces w ps [] fit
    ∙ ap (λ (l : List Answer). piece_answers w 0 ps ++ map (moved (length (laid w ps))) l) (walk_none w)
    ∙ ap (λ (n : ℕ). piece_answers w 0 ps ++ (end_answer n n ∷ [])) (add-zero (length (laid w ps)))

-- ---- samples alone, and samples with one damaged stretch among them

-- a capture that is the words of some samples walks to exactly those samples, then 20 at its end
pub walk_samples : (w : Widths) (ss : List Sample) → AllFit w (map sound ss) → walk w (laid w (map sound ss)) ≡ piece_answers w 0 (map sound ss) ++ (end_answer (length (laid w (map sound ss))) (length (laid w (map sound ss))) ∷ [])
walk_samples w ss = walk_laid w (map sound ss)

module _ (w : Widths) where
  laid_append : (ps qs : List Piece) → laid w (ps ++ qs) ≡ laid w ps ++ laid w qs
  unfolding laid
  laid_append = flat_map-append (piece_words w)

  answers_append : (n : ℕ) (ps qs : List Piece) → piece_answers w n (ps ++ qs) ≡ piece_answers w n ps ++ piece_answers w (n + length (laid w ps)) qs
  unfolding piece_answers laid
  answers_append n [] qs = ap (λ (k : ℕ). piece_answers w k qs) (sym (add-zero n))
  answers_append n (p ∷ ps) qs =
      ap (λ (l : List Answer). piece_answer w n p ∷ l)
      (answers_append (n + length (piece_words w p)) ps qs
      ∙ ap (λ (k : ℕ). piece_answers w (n + length (piece_words w p)) ps ++ piece_answers w k qs) (omega (arith, length-append (piece_words w p) (laid w ps))))

  fit_append : (ps qs : List Piece) → AllFit w ps → AllFit w qs → AllFit w (ps ++ qs)
  fit_append [] qs f g = g
  fit_append (p ∷ ps) qs f g = (f.0, fit_append ps qs f.1 g)

-- the samples before, one gap as long as the stretch, and every sample after
pub walk_damage : (w : Widths) (before after : List Sample) (ws : List ℕ) → AllFit w (map sound before) → Damaged w ws → AllFit w (map sound after) → walk w (laid w (map sound before) ++ (ws ++ laid w (map sound after))) ≡ gap_between w before (read_part w ws).number (read_part w ws).place (length ws) after
unfolding laid piece_answers gap_between
walk_damage w before after ws f d g =
    let front : List Piece = map sound before in
    let behind : List Piece = damaged ws ∷ map sound after in
    let same : laid w (front ++ behind) ≡ laid w front ++ laid w behind = laid_append w front behind in
    let end : length (laid w (front ++ behind)) ≡ length (laid w front) + length ws + length (laid w (map sound after)) =
    ap length same ∙ omega (arith, length-append (laid w front) (ws ++ laid w (map sound after)), length-append ws (laid w (map sound after))) in
    ap (walk w) (sym same)
    ∙ walk_laid w (front ++ behind) (fit_append w front behind f (d, g))
    ∙ ap₂ (λ (l : List Answer) (n : ℕ). l ++ (end_answer n n ∷ []))
    (answers_append w 0 front behind ∙ ap (λ (k : ℕ). piece_answers w 0 front ++ piece_answers w k behind) (zero-add (length (laid w front))))
    end

-- every sample is given, whatever stands between them
samples_given : (w : Widths) (n end : ℕ) (ps : List Piece) → AllFit w ps → samples_of (piece_answers w n ps ++ (end_answer end end ∷ [])) ≡ sound_of ps
unfolding samples_of sound_of piece_answers
samples_given w n end [] fit = refl
samples_given w n end (sound s ∷ ps) fit = ap (λ (l : List Sample). s ∷ l) (samples_given w (n + length (sample_words w s)) end ps fit.1)
samples_given w n end (damaged ws ∷ ps) fit =
    simp (ne_eqb (read_part w ws).number 0 (λ e. omega (arith, e, fit.0.bad))) (samples_given w (n + length ws) end ps fit.1)

pub walk_sound : (w : Widths) (ps : List Piece) → AllFit w ps → samples_of (walk w (laid w ps)) ≡ sound_of ps
walk_sound w ps fit = ap samples_of (walk_laid w ps fit) ∙ samples_given w 0 (length (laid w ps)) ps fit
