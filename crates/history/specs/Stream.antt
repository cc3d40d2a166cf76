-- Document 01, "Triggers and the queue": "the list decides alone: samples taken since the last reset, in order with their lengths, and
-- words sent since then, say which are held".
use Rattle.std.specs.Prelude.{ℕ, ◌+◌, ◌-◌, ◌<◌, Bool, false, cond, ◌&&◌, ◌||◌, List, [], ◌∷◌, ◌++◌, leb, length}
use Rattle.samples.specs.Layout.{resource, sample_words, widths}
use Rattle.samples.specs.declared.edition.Edition.{Edition}
use Rattle.samples.specs.declared.edition.Edition.TheVariants.{First, Second}
use Rattle.samples.specs.declared.sample.Sample.{Sample}

-- "That is 16 bytes. A Resource sample adds ..: 80", a word for each; document 02, Wish 9: "Samples are 20 and 84 bytes"
abbrev pub length_of : Edition → Sample → ℕ
length_of First s = cond (resource s.header) 80 16
length_of Second s = cond (resource s.header) 84 20

-- "in order with their lengths": the words of samples, one sample after the other, and how many that must be
unfoldable pub words_of_all : Edition → List Sample → List ℕ
words_of_all ed [] = []
words_of_all ed (s ∷ ss) = sample_words (widths ed) s ++ words_of_all ed ss

unfoldable pub total_of : Edition → List Sample → ℕ
total_of ed [] = 0
total_of ed (s ∷ ss) = length_of ed s + total_of ed ss

-- what is so of every sample of a list
abbrev pub Every : (Sample → Type 0) → List Sample → Type 0
Every P [] = Unit {0}
Every P (s ∷ ss) = P s × Every P ss

-- "bit 4 the lost mark before this trigger, bits 5..7 zero": a sample without the mark
abbrev pub Unmarked : Sample → Type 0
Unmarked s = s.header < 16

-- "A sample is held from its trigger until its last word is sent": of the samples taken, those not wholly among the n words sent; over any length
-- of a sample, for the law of document 02, Wish 8
unfoldable pub unsent_of : {A : Type 0} → (A → ℕ) → List A → ℕ → List A
unsent_of len [] n = []
unsent_of len (s ∷ ss) n = cond (leb (len s) n) (unsent_of len ss (n - len s)) (s ∷ ss)

abbrev pub held_of : Edition → List Sample → ℕ → List Sample
held_of ed = unsent_of (length_of ed)

-- "The shadows are busy while a Resource sample is held"
unfoldable pub any_held : List Sample → Bool
any_held [] = false
any_held (s ∷ ss) = resource s.header || any_held ss

-- "A trigger lacks room if 8 are held, or if it is a Resource trigger and a Resource sample is held"
abbrev pub is_full : List Sample → Bool
is_full held = leb 8 (length held)

abbrev pub is_blocked : Bool → List Sample → Bool
is_blocked resource held = resource && any_held held
