-- On the MultiKron II what is sent are the words of the first sample held, one after the other; a trigger with reply 0 takes a sample, and it is
-- one that the writer takes, so the reader gives it back: its user data are cut to 64 bits at the trigger, and its Timestamp has 56 inside the
-- bounds. Assumes, where said, a record inside its bounds with the lists that its types give, and a line below 8.
use Prim.Native.Nat.{ℕ, ◌+◌, ◌%◌, ◌≤◌, ◌<◌}
use native.Mathlib.Nat.{mod-lt}
use native.Mathlib.Omega.{arith}
use mathlib.Core.Path.{◌≡◌, refl, sym, ap, ◌∙◌, subst}
use mathlib.Core.Bool.{Bool, true, false, cond}
use mathlib.Core.List.{List, ◌++◌}
use lib.Dec.{leb}
use lib.ListN.{drop, length, take, length-drop}
use lib.Seq.{length-take-le}
use Rattle.std.specs.Prelude.{None}
use Rattle.samples.specs.Layout.{counter_widths, resource, sample_length, sample_words, widths}
use Rattle.samples.specs.declared.edition.Edition.TheVariants.{Second}
use Rattle.samples.specs.Read.{found_by, read_part}
use Rattle.samples.specs.Write.{within, writable}
use Rattle.samples.proofs.RoundTrip.{within_length}
use Rattle.samples.proofs.SampleLaws.{sample_length_lem}
use Rattle.samples.proofs.Theorems.{read_written, within_kind, zeros_kind}
use Rattle.samples.proofs.WriteLaws.{counters_decide}
use Rattle.counters.specs.Bank.{copied}
use Rattle.queue.specs.Queue.{first_count, first_held, held_sample, send_words}
use Rattle.queue.proofs.CountLaws.{words_first}
use Rattle.queue.proofs.QueueLaws.{held_sixteen}
use Rattle.control.specs.Control.{header_of}
use Rattle.control.specs.declared.fate.Fate.{Fate}
use Rattle.control.specs.declared.fate.Fate.TheVariants.{Off as is_off, Filtered as is_filtered, Lost as is_lost, Wait as is_told, Taken as is_taken}
use Rattle.control.specs.declared.reply.Reply.TheVariants.{Lines, Outside}
use Rattle.control.proofs.HeaderLaws.{header_kind, header_small}
use Rattle.chip.specs.Chip.{line_of, one_line}
use Rattle.chip.specs.Rows.{one_active, triggering}
use Rattle.chip.proofs.LineLaws.{one_line_lem}
use Rattle.chip.proofs.WidthLaws.{within_at}
use Rattle.chip.proofs.Words.{differ}
use Rattle.chip2.specs.Chip2.{data_of, done, fate_of, inside, replied, take_sample, trigger, trigger_by, write, write_at}
use Rattle.chip2.specs.Place.{place_of}
use Rattle.chip2.specs.Sent.{first_words, taken_sample}
use Rattle.chip2.specs.Operation.{op_send, op_write, step}
use Rattle.chip2.specs.Repeat.{given}
use Rattle.chip2.specs.Shape.{Shaped}
use Rattle.chip2.specs.declared.chip2.Chip2.{Chip2}
use Rattle.chip2.specs.declared.place.Place.{Place}
use Rattle.chip2.specs.declared.place.Place.TheVariants.{Trigger}
use Rattle.chip2.proofs.AddressLaws.{place_trigger}
use Rattle.chip2.proofs.ChipLaws.{inside_stamp}
use Rattle.chip2.proofs.Sends.{given_sends}

-- ---- the words of the sample that is being sent

module _ (c : Chip2) (h : inside c ≡ true) (some : c.queue.held ≡ 0 → ⊥) where
  -- k sends give k of them, from the first one that is not sent yet
  pub words_after : (k : ℕ) → Shaped c → c.queue.sent + k ≤ first_count (widths Second) c.queue → given k op_send c ≡ take k (drop c.queue.sent (first_words c))
  words_after k s p =
      let sixteen : length c.bank.shadows ≡ 16 = within_length counter_widths c.bank.shadows s.shadows in
      let ws : List ℕ = first_words c in
      let long : length ws ≡ first_count (widths Second) c.queue = sample_length_lem (widths Second) (held_sample c.bank.shadows (first_held c.queue)) (held_sixteen c.bank.shadows (first_held c.queue) sixteen) in
      let words : send_words (widths Second) k c.bank.shadows c.queue ≡ take k (drop c.queue.sent ws) = words_first (widths Second) k c.bank.shadows c.queue sixteen some p in
      let count : length (send_words (widths Second) k c.bank.shadows c.queue) ≡ k =
      ap length words ∙ length-take-le k (drop c.queue.sent ws) (simp (length-drop, long) (omega arith)) in
      ap (λ (n : ℕ). given n op_send c) (sym count) ∙ given_sends k c h ∙ words

-- ---- the sample that a trigger takes

module _ (r : Bool) (line bits : ℕ) (c : Chip2) (small : line < 8) (h : inside c ≡ true) (s : Shaped c) where
  pub taken_writable : writable (widths Second) (taken_sample r line bits c) ≡ true
  taken_writable =
      let header : ℕ = header_of line r c.control.lost in
      counters_decide (widths Second) (taken_sample r line bits c) (header_small line small r c.control.lost) (within_at 4 8 c.sources s.sources line) (inside_stamp c h) (mod-lt bits (omega arith))
      (within_kind (resource header) (shadows r) (λ e. copy r))
      ∙ zeros_kind (resource header) (shadows r)
    where
      shadows : Bool → List ℕ
      shadows k = (cond k (copied c.bank) c.bank).shadows

      copy : (k : Bool) → within counter_widths (shadows k) ≡ true
      copy true = s.values
      copy false = s.shadows

  -- so the reader gives it back from its words, whatever comes after them
  pub taken_read : (rest : List ℕ) → read_part (widths Second) (sample_words (widths Second) (taken_sample r line bits c) ++ rest) ≡ found_by None (taken_sample r line bits c) (sample_length (widths Second) r) (sample_length (widths Second) r)
  taken_read rest =
      read_written (widths Second) (taken_sample r line bits c) rest taken_writable
      ∙ ap (λ (k : Bool). found_by None (taken_sample r line bits c) (sample_length (widths Second) k) (sample_length (widths Second) k)) (header_kind line small r c.control.lost)

-- ---- "0 .. sample taken"

trigger_done : (o r : Bool) (f : Fate) (line bits : ℕ) (c : Chip2) → (cond o (trigger_by f r line bits c) (replied Lines c)).number ≡ 0 → (cond o (trigger_by f r line bits c) (replied Lines c) ≡ done 0 (take_sample r line bits c)) × (o ≡ true)
unfolding trigger_by
trigger_done false r f line bits c e = absurd (differ 4 e refl)
trigger_done true r is_off line bits c e = absurd (differ 6 e refl)
trigger_done true r is_filtered line bits c e = absurd (differ 7 e refl)
trigger_done true r is_lost line bits c e = absurd (differ 8 e refl)
trigger_done true r is_told line bits c e = absurd (differ 10 e refl)
trigger_done true r is_taken line bits c e = (refl, refl)

-- a trigger with reply 0 has exactly one active line and takes a sample
pub trigger_takes : (a bits lines : ℕ) (c : Chip2) → triggering a ≡ true → (step (op_write a bits lines) c).number ≡ 0 → (step (op_write a bits lines) c ≡ done 0 (take_sample (leb 112 a) (line_of lines) (data_of bits c) c)) × (one_active lines ≡ true)
unfolding write write_at trigger
trigger_takes a bits lines c t e = guard (inside c) e
  where
    kind : (r : Bool) → (write_at (Trigger r (a % 16)) (data_of bits c) lines c).number ≡ 0 → (write_at (Trigger r (a % 16)) (data_of bits c) lines c ≡ done 0 (take_sample r (line_of lines) (data_of bits c) c)) × (one_active lines ≡ true)
    kind r q = let p = trigger_done (one_line lines) r (fate_of r (a % 16) c) (line_of lines) (data_of bits c) c q in (p.0, sym (one_line_lem lines) ∙ p.1)

    guard : (b : Bool) → (cond b (write_at (place_of a) (data_of bits c) lines c) (replied Outside c)).number ≡ 0 → (cond b (write_at (place_of a) (data_of bits c) lines c) (replied Outside c) ≡ done 0 (take_sample (leb 112 a) (line_of lines) (data_of bits c) c)) × (one_active lines ≡ true)
    guard false q = absurd (differ 15 q refl)
    guard true q =
        subst (λ (p : Place). (write_at p (data_of bits c) lines c).number ≡ 0 → (write_at p (data_of bits c) lines c ≡ done 0 (take_sample (leb 112 a) (line_of lines) (data_of bits c) c)) × (one_active lines ≡ true)) (sym (place_trigger a t)) (kind (leb 112 a)) q
