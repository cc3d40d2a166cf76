-- Document 02, Wish 1: carry on after a bad word; with Wish 12's "The walk of Wish 1 turns this into a place in the whole capture".
use Rattle.std.specs.Prelude.{ℕ, zero, suc, ◌+◌, Bool, cond, ◌&&◌, List, [], ◌∷◌, eqb, leb, drop, length}
use Rattle.words.specs.Word.{marked}
use Rattle.samples.specs.Layout.{Widths, zero_sample}
use Rattle.samples.specs.Read.{Found, fault_number, read_part}
use Rattle.samples.specs.declared.sample.Sample.{Sample}
use Rattle.walk.specs.declared.Step.{Step}
use Rattle.walk.specs.declared.Step.TheVariants.{End, Gap, Whole}

-- a boundary: a word "that is at most 1023 and has its end mark"
abbrev pub is_boundary : ℕ → Bool
is_boundary w = leb w 1023 && marked w

-- "up to and including the first" boundary; "if there is none, skip everything": how many of these words
unfoldable pub through : List ℕ → ℕ
through [] = 0
through (w ∷ ws) = suc (cond (is_boundary w) 0 (through ws))

-- the place after the first boundary "at or after the bad one"
abbrev pub after_boundary : List ℕ → ℕ → ℕ
after_boundary ws bad = bad + through (drop bad ws)

-- "After 21 to 24, skip from the sample's first word up to and including" that boundary, in words from the sample's first on; after a sample
-- nothing is skipped, and 20 "skips 0"
abbrev pub skip : Found → List ℕ → ℕ
skip r ws = cond (leb 21 r.number) (after_boundary ws r.place) 0

-- an answer: "the sample or gap there and the place after it ..; with each gap its number and the number of words skipped", and where that
-- was decided
pub record Answer : Type 0 where
  pub sample : Sample
  pub next : ℕ
  pub decided : ℕ
  pub skipped : ℕ
  pub number : ℕ

-- "Each call takes a place": what the reader finds in the words from there on, in places of the whole capture; next is the place after its
-- words or the skipped ones, and 20 has neither
unfoldable pub answer_at : Widths → List ℕ → ℕ → Answer
answer_at w ws place =
    let rest = drop place ws in
    let r = read_part w rest in
    record {
      sample = r.sample;
      next = place + (r.count + skip r rest);
      decided = place + r.place;
      skipped = skip r rest;
      number = r.number;
    }

-- what the walk hands back, told so: a sample was decided where its words end, and the next place is there; a gap and the end have zeros
-- beside them
abbrev pub told : Step → Answer
told (Whole s next) = record { sample = s; next = next; decided = next; skipped = 0; number = 0 }
told (Gap g) = record { sample = zero_sample; next = g.next; decided = g.decided; skipped = g.skipped; number = fault_number g.fault }
told (End place decided) = record { sample = zero_sample; next = place; decided = decided; skipped = 0; number = 20 }

-- the answers to at most k calls, the first at a place and each other one at the place that the one before it gave; "Reply 20 ends the walk"
unfoldable pub answers : Widths → List ℕ → ℕ → ℕ → List Answer
answers w ws zero place = []
answers w ws (suc k) place =
    let a = answer_at w ws place in
    a ∷ cond (eqb a.number 20) [] (answers w ws k a.next)

-- the whole walk: as many calls as there are words, and one more, are enough (`enough_calls`)
unfoldable pub walk : Widths → List ℕ → List Answer
walk w ws = answers w ws (suc (length ws)) 0
