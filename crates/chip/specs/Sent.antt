-- Document 01, "Sample and words" and "Triggers and the queue": the sample that a trigger takes, and the words of the one that is being sent.
use Rattle.std.specs.Prelude.{ℕ, Bool, List}
use Rattle.samples.specs.Layout.{sample_words, widths}
use Rattle.samples.specs.declared.edition.Edition.TheVariants.{First}
use Rattle.samples.specs.declared.sample.Sample.{Sample}
use Rattle.queue.specs.Queue.{first_held, held_sample}
use Rattle.chip.specs.Chip.{sample_now, take_sample}
use Rattle.chip.specs.declared.chip.Chip.{Chip}

-- "A taken sample fixes its fields at the trigger; a Resource trigger also copies all counters to the shadows"
abbrev pub taken_sample : Bool → ℕ → ℕ → Chip → Sample
taken_sample resource line bits c = held_sample (take_sample resource line bits c).bank.shadows (sample_now resource line bits c)

-- the words of the first sample held
abbrev pub first_words : Chip → List ℕ
first_words c = sample_words (widths First) (held_sample c.bank.shadows (first_held c.queue))
