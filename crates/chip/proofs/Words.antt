-- What is sent are the words of the first sample held, one after the other; a trigger with reply 0 takes a sample, and it is one that the
-- writer takes, so the reader gives it back: its fields are cut to their widths at the trigger. Assumes,
-- where said, a record inside its bounds with the lists that its types give, and a line below 8.
use Prim.Native.Nat.{ℕ, ◌+◌, ◌%◌, ◌^◌, ◌≤◌, ◌<◌}
use native.Mathlib.Omega.{arith}
use mathlib.Core.Path.{◌≡◌, refl, sym, ap, ◌∙◌, subst}
use mathlib.Core.Bool.{Bool, true, false, cond, ◌&&◌, ◌||◌, false≢true}
use mathlib.Core.List.{List, ◌++◌}
use lib.Dec.{eqb, leb, ltb}
use lib.ListN.{drop, length, replicate, take, length-drop}
use lib.Seq.{length-take-le}
use borrow.Author.Tests.{lt-ltb}
use Rattle.std.specs.Prelude.{None}
use Rattle.samples.specs.Layout.{counter_widths, resource, sample_length, sample_words, widths}
use Rattle.samples.specs.declared.edition.Edition.TheVariants.{First}
use Rattle.samples.specs.Read.{found_by, read_part}
use Rattle.samples.specs.Write.{all_zero, within, writable}
use Rattle.samples.proofs.RoundTrip.{within_length}
use Rattle.samples.proofs.SampleLaws.{sample_length_lem}
use Rattle.samples.proofs.Theorems.{read_written, within_kind, zeros_kind}
use Rattle.counters.specs.Bank.{copied}
use Rattle.queue.specs.Queue.{first_count, first_held, held_sample, send_words}
use Rattle.queue.specs.declared.queue.Held.{Held}
use Rattle.queue.proofs.CountLaws.{words_first}
use Rattle.queue.proofs.QueueLaws.{held_sixteen}
use Rattle.control.specs.declared.fate.Fate.{Fate}
use Rattle.control.specs.declared.fate.Fate.TheVariants.{Off as is_off, Filtered as is_filtered, Lost as is_lost, Wait as is_told, Taken as is_taken}
use Rattle.control.specs.declared.reply.Reply.TheVariants.{Lines, Outside}
use Rattle.control.proofs.HeaderLaws.{header_kind, header_small}
use Rattle.chip.specs.Chip.{done, fate_of, inside, line_of, one_line, replied, sample_now, take_sample, trigger, trigger_by, write, write_at}
use Rattle.chip.specs.Place.{place_of}
use Rattle.chip.specs.Rows.{one_active, triggering}
use Rattle.chip.specs.Sent.{first_words, taken_sample}
use Rattle.chip.specs.Operation.{op_send, op_write, step}
use Rattle.chip.specs.Repeat.{given}
use Rattle.chip.specs.Shape.{Shaped}
use Rattle.chip.specs.declared.chip.Chip.{Chip}
use Rattle.chip.specs.declared.place.Place.{Place}
use Rattle.chip.specs.declared.place.Place.TheVariants.{Trigger}
use Rattle.chip.proofs.AddressLaws.{place_trigger}
use Rattle.chip.proofs.LineLaws.{one_line_lem}
use Rattle.chip.proofs.Sends.{given_sends}
use Rattle.chip.proofs.WidthLaws.{within_at}

-- ---- the words of the sample that is being sent

module _ (c : Chip) (h : inside c ≡ true) (some : c.queue.held ≡ 0 → ⊥) where
  -- k sends give k of them, from the first one that is not sent yet
  pub words_after : (k : ℕ) → Shaped c → c.queue.sent + k ≤ first_count (widths First) c.queue → given k op_send c ≡ take k (drop c.queue.sent (first_words c))
  words_after k s p =
      let sixteen : length c.bank.shadows ≡ 16 = within_length counter_widths c.bank.shadows s.shadows in
      let ws : List ℕ = first_words c in
      let long : length ws ≡ first_count (widths First) c.queue = sample_length_lem (widths First) (held_sample c.bank.shadows (first_held c.queue)) (held_sixteen c.bank.shadows (first_held c.queue) sixteen) in
      let words : send_words (widths First) k c.bank.shadows c.queue ≡ take k (drop c.queue.sent ws) = words_first (widths First) k c.bank.shadows c.queue sixteen some p in
      let count : length (send_words (widths First) k c.bank.shadows c.queue) ≡ k =
      ap length words ∙ length-take-le k (drop c.queue.sent ws) (simp (length-drop, long) (omega arith)) in
      ap (λ (n : ℕ). given n op_send c) (sym count) ∙ given_sends k c h ∙ words

-- ---- the sample that a trigger takes

-- a held sample that the writer takes
held_writable : (shadows : List ℕ) (x : Held) → x.header < 32 → x.source < 256 ^ 4 → x.stamp < 256 ^ 5 → x.user < 256 ^ 6 → (resource x.header ≡ true → within counter_widths shadows ≡ true) → writable (widths First) (held_sample shadows x) ≡ true
unfolding writable within
held_writable shadows x h s t u w =
    let small : ltb x.header 32 ≡ true = lt-ltb x.header 32 h in
    let header : ltb x.header (256 ^ 1) ≡ true = lt-ltb x.header (256 ^ 1) (omega arith) in
    let source : ltb x.source (256 ^ 4) ≡ true = lt-ltb x.source (256 ^ 4) s in
    let stamp : ltb x.stamp (256 ^ 5) ≡ true = lt-ltb x.stamp (256 ^ 5) t in
    let user : ltb x.user (256 ^ 6) ≡ true = lt-ltb x.user (256 ^ 6) u in
    let counters : within counter_widths (cond (resource x.header) shadows (replicate 16 0)) ≡ true = within_kind (resource x.header) shadows w in
    let zeros : (resource x.header || all_zero (cond (resource x.header) shadows (replicate 16 0))) ≡ true = zeros_kind (resource x.header) shadows in
    λ i. (header i && (source i && (stamp i && (user i && true)))) && (counters i && (small i && zeros i))

module _ (r : Bool) (line bits : ℕ) (c : Chip) (small : line < 8) (s : Shaped c) where
  pub taken_writable : writable (widths First) (taken_sample r line bits c) ≡ true
  taken_writable =
      held_writable (take_sample r line bits c).bank.shadows (sample_now r line bits c) (header_small line small r c.control.lost) (within_at 4 8 c.sources s.sources line) (omega arith) (omega arith)
      (λ e. copy r (sym (header_kind line small r c.control.lost) ∙ e))
    where
      copy : (k : Bool) → k ≡ true → within counter_widths (cond k (copied c.bank) c.bank).shadows ≡ true
      copy true e = s.values
      copy false e = s.shadows

  -- so the reader gives it back from its words, whatever comes after them
  pub taken_read : (rest : List ℕ) → read_part (widths First) (sample_words (widths First) (taken_sample r line bits c) ++ rest) ≡ found_by None (taken_sample r line bits c) (sample_length (widths First) r) (sample_length (widths First) r)
  taken_read rest =
      read_written (widths First) (taken_sample r line bits c) rest taken_writable
      ∙ ap (λ (k : Bool). found_by None (taken_sample r line bits c) (sample_length (widths First) k) (sample_length (widths First) k)) (header_kind line small r c.control.lost)

-- ---- "0 .. sample taken"

pub differ : (n : ℕ) → n ≡ 0 → eqb n 0 ≡ false → ⊥
differ n e p = false≢true (sym p ∙ ap (λ (m : ℕ). eqb m 0) e)

trigger_done : (o r : Bool) (f : Fate) (line bits : ℕ) (c : Chip) → (cond o (trigger_by f r line bits c) (replied Lines c)).number ≡ 0 → (cond o (trigger_by f r line bits c) (replied Lines c) ≡ done 0 (take_sample r line bits c)) × (o ≡ true)
unfolding trigger_by
trigger_done false r f line bits c e = absurd (differ 4 e refl)
trigger_done true r is_off line bits c e = absurd (differ 6 e refl)
trigger_done true r is_filtered line bits c e = absurd (differ 7 e refl)
trigger_done true r is_lost line bits c e = absurd (differ 8 e refl)
trigger_done true r is_told line bits c e = absurd (differ 10 e refl)
trigger_done true r is_taken line bits c e = (refl, refl)

-- a trigger with reply 0 has exactly one active line and takes a sample
pub trigger_takes : (a bits lines : ℕ) (c : Chip) → triggering a ≡ true → (step (op_write a bits lines) c).number ≡ 0 → (step (op_write a bits lines) c ≡ done 0 (take_sample (leb 112 a) (line_of lines) bits c)) × (one_active lines ≡ true)
unfolding write write_at trigger
trigger_takes a bits lines c t e = guard (inside c) e
  where
    kind : (r : Bool) → (write_at (Trigger r (a % 16)) bits lines c).number ≡ 0 → (write_at (Trigger r (a % 16)) bits lines c ≡ done 0 (take_sample r (line_of lines) bits c)) × (one_active lines ≡ true)
    kind r q = let p = trigger_done (one_line lines) r (fate_of r (a % 16) c) (line_of lines) bits c q in (p.0, sym (one_line_lem lines) ∙ p.1)

    guard : (b : Bool) → (cond b (write_at (place_of a) bits lines c) (replied Outside c)).number ≡ 0 → (cond b (write_at (place_of a) bits lines c) (replied Outside c) ≡ done 0 (take_sample (leb 112 a) (line_of lines) bits c)) × (one_active lines ≡ true)
    guard false q = absurd (differ 15 q refl)
    guard true q =
        subst (λ (p : Place). (write_at p bits lines c).number ≡ 0 → (write_at p bits lines c ≡ done 0 (take_sample (leb 112 a) (line_of lines) bits c)) × (one_active lines ≡ true)) (sym (place_trigger a t)) (kind (leb 112 a)) q
