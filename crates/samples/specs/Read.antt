-- Document 01, "Sample and words": the reader and its answers 20 to 24; and document 02, Wish 12: where it broke.
use Rattle.std.specs.Prelude.{ℕ, suc, Bool, true, false, cond, not, ◌&&◌, List, [], ◌∷◌, map, leb, eqb, take, drop, get_or, replicate, Option, Some, None, Result, Ok, Err, ⊤}
use Rattle.words.specs.Bytes.{number}
use Rattle.words.specs.Word.{too_large, odd_ones, marked, byte_of}
use Rattle.samples.specs.Layout.{Widths, field_widths, counter_widths, resource, total, sample_length, zero_sample}
use Rattle.samples.specs.declared.sample.Sample.{Sample}
use Rattle.samples.specs.declared.reader.Fault.{Fault}
use Rattle.samples.specs.declared.reader.Fault.TheVariants.{Unfinished, TooLarge, Parity, Header, Mark}
use Rattle.samples.specs.declared.reader.Reading.{Reading}
use Rattle.samples.specs.declared.reader.Refusal.{Refusal}

-- what is said of a word, or of the words of a part: a fault, or none
abbrev pub Verdict : Type 0
Verdict = Option Fault

-- "21 a word above 1023; 22 parity; 23 header bits 5..7; 24 end mark early or missing", in that order, of the word at a
-- place of a sample of n words
unfoldable pub fault_at : ℕ → ℕ → ℕ → Verdict
fault_at n place w =
    cond (too_large w) (Some TooLarge)
    (cond (not (odd_ones w)) (Some Parity)
    (cond (eqb place 0 && leb 32 (byte_of w)) (Some Header)
    (cond (eqb (suc place) n) (cond (marked w) None (Some Mark)) (cond (marked w) (Some Mark) None))))

abbrev pub is_good : Verdict → Bool
is_good None = true
is_good (Some f) = false

-- a fault decides, and a good word leaves it to what comes after
abbrev pub or_else : Verdict → Verdict → Verdict
or_else a b = cond (is_good a) b a

-- "The first bad word decides"; "20 the words so far are good but unfinished": the words from a place on, n wanted in all
unfoldable pub scan : ℕ → ℕ → List ℕ → Verdict
scan n place [] = Some Unfinished
scan n place (w ∷ ws) = or_else (fault_at n place w) (cond (eqb (suc place) n) None (scan n (suc place) ws))

-- Wish 12: "With 21 to 24 .. the place of the deciding word, counted from 0 ..; with 20, the number of good words": the first place, from
-- this one on, with a bad word or none; or after the n that are wanted: a sample's place, which Wish 12 leaves open, is the words it took
unfoldable pub decided_at : ℕ → ℕ → List ℕ → ℕ
decided_at n place [] = place
decided_at n place (w ∷ ws) = cond (is_good (fault_at n place w)) (cond (eqb (suc place) n) n (decided_at n (suc place) ws)) place

-- the numbers of fields of these widths, from bytes low first
unfoldable pub gather : List ℕ → List ℕ → List ℕ
gather [] bs = []
gather (n ∷ ns) bs = number (take n bs) ∷ gather ns (drop n bs)

-- the sample that bytes give; "The reader gives a Trace sample zero counters"
unfoldable pub sample_of : Widths → List ℕ → Sample
sample_of w bs =
    let f = gather (field_widths w) bs in
    record {
      user = get_or f 3 0;
      stamp = get_or f 2 0;
      source = get_or f 1 0;
      header = get_or f 0 0;
      counters = cond (resource (get_or f 0 0)) (gather counter_widths (drop (total (field_widths w)) bs)) (replicate 16 0);
    }

-- a reading: "the first sample and how many words it took, or" a number, and Wish 12's place
pub record Found : Type 0 where
  pub sample : Sample
  pub count : ℕ
  pub place : ℕ
  pub number : ℕ

-- "With 20 to 24 the reader's sample is all zeros and its word count 0"; Wish 12: "The word count stays 0"
abbrev pub nothing : ℕ → ℕ → Found
nothing number place = record { sample = zero_sample; count = 0; place = place; number = number }

-- each case's: "or: 20 the words so far are good but unfinished ..; 21 a word above 1023; 22 parity; 23 header bits 5..7; 24 end mark early
-- or missing". The number of a sample, which document 01 leaves open, is 0
abbrev pub fault_number : Fault → ℕ
fault_number Unfinished = 20
fault_number TooLarge = 21
fault_number Parity = 22
fault_number Header = 23
fault_number Mark = 24

abbrev pub found_by : Verdict → Sample → ℕ → ℕ → Found
found_by None s n place = record { sample = s; count = n; place = place; number = 0 }
found_by (Some f) s n place = nothing (fault_number f) place

abbrev pub verdict_number : Verdict → ℕ
verdict_number v = (found_by v zero_sample 0 0).number

-- what the reader hands back, told so: a sample's place is the words it took
abbrev pub found : Result Reading Refusal → Found
found (Ok r) = found_by None r.sample r.count r.count
found (Err r) = nothing (fault_number r.fault) r.place

-- what a scan that was decided so hands back
abbrev pub scanned : Verdict → ℕ → Result ⊤ Refusal
scanned None place = Ok tt
scanned (Some f) place = Err (record { fault = f; place = place })

-- how many words the sample at the start of a part has: its first word holds the header
abbrev pub wanted : Widths → List ℕ → ℕ
wanted w ws = sample_length w (resource (byte_of (get_or ws 0 0)))

-- "the first sample and how many words it took", and where that was decided
unfoldable pub read_part : Widths → List ℕ → Found
read_part w ws =
    let n = wanted w ws in
    found_by (scan n 0 ws) (sample_of w (map byte_of ws)) n (decided_at n 0 ws)
