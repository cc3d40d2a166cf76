-- Document 02, Wish 1, a second time: where a gap ends by places and numbers alone, each kind of answer field by field, what words the answers of
-- a walk stand for, and captures that are laid out piece by piece. Of the first statement only what an answer is stands in it.
use Rattle.std.specs.Prelude.{ℕ, zero, suc, ◌+◌, ◌-◌, ◌*◌, ◌/◌, ◌%◌, ◌≤◌, ◌<◌, ◌≡◌, Bool, true, false, cond, List, [], ◌∷◌, ◌++◌, map, eqb, drop, get_or, length, take}
use Rattle.std.specs.List.{flat_map}
use Rattle.samples.specs.Layout.{Widths, sample_words, zero_sample}
use Rattle.samples.specs.Read.{read_part}
use Rattle.samples.specs.Write.{writable}
use Rattle.samples.specs.declared.sample.Sample.{Sample}
use Rattle.walk.specs.Walk.{Answer}

-- a word "that is at most 1023 and has its end mark", bit 9 of ten
abbrev pub Boundary : ℕ → Type 0
Boundary x = (512 ≤ x) × (x ≤ 1023)

-- the words of a gap, whose bad word stands at a place, end before another one: after the first boundary "at or after the bad one"; "if there
-- is none", with the capture
pub record EndsAt (ws : List ℕ) (bad next : ℕ) : Type 0 where
  pub after : bad < next
  pub within : next ≤ length ws
  pub none : (j : ℕ) → bad ≤ j → suc j < next → Boundary (get_or ws j 0) → ⊥
  pub last : next < length ws → Boundary (get_or ws (next - 1) 0)

-- the three kinds of answers, told by themselves: a sample, where its words end; a gap; and 20, which "hands back the place given and skips 0".
-- Beside the last two the sample is all zeros
abbrev pub sample_answer : ℕ → Sample → Answer
sample_answer end s = record { sample = s; next = end; decided = end; skipped = 0; number = 0 }

abbrev pub gap_answer : ℕ → ℕ → ℕ → ℕ → Answer
gap_answer number place bad skipped = record { sample = zero_sample; next = place + skipped; decided = bad; skipped = skipped; number = number }

abbrev pub end_answer : ℕ → ℕ → Answer
end_answer place end = record { sample = zero_sample; next = place; decided = end; skipped = 0; number = 20 }

-- an answer with so many words before the capture
abbrev pub moved : ℕ → Answer → Answer
moved n a = record { sample = a.sample; next = n + a.next; decided = n + a.decided; skipped = a.skipped; number = a.number }

-- the words that an answer stands for: a sample's as the writer writes them, a gap's skipped ones, and what 20 leaves unread
unfoldable pub stands_for : Widths → List ℕ → Answer → List ℕ
stands_for w ws a =
    cond (eqb a.number 0) (sample_words w a.sample)
    (cond (eqb a.number 20) (drop a.next ws) (take a.skipped (drop (a.next - a.skipped) ws)))

unfoldable pub all_words : Widths → List ℕ → List Answer → List ℕ
all_words w ws = flat_map (stands_for w ws)

-- "Reply 20 ends the walk": it comes, and it comes last
unfoldable pub ends_with20 : List Answer → Bool
ends_with20 [] = false
ends_with20 (a ∷ rest) = cond (eqb a.number 20) (eqb (length rest) 0) (ends_with20 rest)

-- a stretch of a capture: a sample's words, or others
pub data Piece : Type 0 where
  sound : Sample → Piece
  damaged : List ℕ → Piece

abbrev pub piece_words : Widths → Piece → List ℕ
piece_words w (sound s) = sample_words w s
piece_words w (damaged ws) = ws

unfoldable pub laid : Widths → List Piece → List ℕ
laid w = flat_map (piece_words w)

-- a stretch that is damaged, and ends as damage ends: it has a bad word, and of the words from that on the last is a boundary and no other
pub record Damaged (w : Widths) (ws : List ℕ) : Type 0 where
  pub bad : 21 ≤ (read_part w ws).number
  pub others : (j : ℕ) → (read_part w ws).place ≤ j → suc j < length ws → Boundary (get_or ws j 0) → ⊥
  pub last : Boundary (get_or ws (length ws - 1) 0)

-- each sample is one that the writer takes, and all else is damaged so
abbrev pub Fit : Widths → Piece → Type 0
Fit w (sound s) = writable w s ≡ true
Fit w (damaged ws) = Damaged w ws

abbrev pub AllFit : Widths → List Piece → Type 0
AllFit w [] = Unit
AllFit w (p ∷ ps) = Fit w p × AllFit w ps

-- what is due for a piece from a place on: the sample; or one gap as long as the stretch, with what the reader finds in it
abbrev pub piece_answer : Widths → ℕ → Piece → Answer
piece_answer w place (sound s) = sample_answer (place + length (sample_words w s)) s
piece_answer w place (damaged ws) = gap_answer (read_part w ws).number place (place + (read_part w ws).place) (length ws)

unfoldable pub piece_answers : Widths → ℕ → List Piece → List Answer
piece_answers w place [] = []
piece_answers w place (p ∷ ps) = piece_answer w place p ∷ piece_answers w (place + length (piece_words w p)) ps

-- what is due for samples, then one gap of n words whose word p is bad, then samples: each of them, the gap, and 20 at the end
unfoldable pub gap_between : Widths → List Sample → ℕ → ℕ → ℕ → List Sample → List Answer
gap_between w before number p n after =
    let b = length (laid w (map sound before)) in
    let end = b + n + length (laid w (map sound after)) in
    piece_answers w 0 (map sound before) ++ (gap_answer number b (b + p) n ∷ piece_answers w (b + n) (map sound after)) ++ (end_answer end end ∷ [])

-- the samples of answers, and of pieces
unfoldable pub samples_of : List Answer → List Sample
samples_of [] = []
samples_of (a ∷ rest) = cond (eqb a.number 0) (a.sample ∷ samples_of rest) (samples_of rest)

unfoldable pub sound_of : List Piece → List Sample
sound_of [] = []
sound_of (sound s ∷ ps) = s ∷ sound_of ps
sound_of (damaged ws ∷ ps) = sound_of ps

-- "A flaky serial cable flips bits": a number with its bit i flipped, bit 0 the lowest
unfoldable pub flip : ℕ → ℕ → ℕ
flip zero x = x + 1 - 2 * (x % 2)
flip (suc i) x = x % 2 + 2 * flip i (x / 2)
