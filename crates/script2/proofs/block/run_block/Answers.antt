-- `script2::block::run_block` meets its contract: after i turns the chip and the text are those of the first i records (`Ran`), whichever
-- kind each has, for the table that is lent is the table of parity bits, and a line has at most 6,042 bytes. Assumes nothing.
use Rattle.script2.specs.Line.{words_line}
use Rattle.std.proofs.Common.{Option, None, Some}
use Rattle.script2.specs.declared.operation.Operation.{Operation}
use Prim.Native.Nat.{ℕ, ◌+◌, ◌-◌, ◌≤◌, min, ◌*◌}
use native.Mathlib.Omega.{arith}
use mathlib.Core.Path.{◌≡◌, refl, sym, ap, ap₂, ◌∙◌}
use mathlib.Core.List.{List, [], ◌++◌}
use lib.ListN.{length, drop, take, length-append, length-drop}
use lib.Seq.{length-take-le, take-append-le}
use Rattle.chip2.specs.Chip2.{send_into, sent_buffer}
use Rattle.chip2.specs.Table.{send_by}
use Rattle.chip2.specs.Told.{Told, told}
use Rattle.chip2.specs.declared.chip2.Chip2.{Chip2}
use Rattle.chip2.proofs.TableLaws.{send_by_lem}
use Rattle.script2.specs.Record.{operation_of, sent_words, step_of}
use Rattle.script2.specs.Run.{line_of, second}
use Rattle.turns.specs.Run.{block_count, record_at}
use Rattle.turns.proofs.BlockLaws.{ran_buffer, ran_none, ran_on, ran_value, record_part}
use Rattle.script2.specs.declared.operation.Operation.TheVariants.{Fill}
use Rattle.script2.proofs.FillLaws.{any_buffer, few_places, few_sent}
use Rattle.script2.proofs.block.run_block.Goals.{in-Reset, in-Write, in-Read, in-Ticks, in-Nodes, in-Events, in-Send}
use Rattle.script2.proofs.block.run_block.Goals as goal

-- the record of a turn
part_of : (input : List ℕ) (i : ℕ) {o p : Option Operation} {e : ℕ} → p ≡ operation_of (take (e - 16 * i) (drop (16 * i) input)) → e ≡ min (16 * i + 16) (length input) → p ≡ o → o ≡ operation_of (record_at second input i)
part_of input i decoded to is =
    sym is ∙ decoded ∙ ap operation_of (ap (λ (n : ℕ). take (n - 16 * i) (drop (16 * i) input)) to ∙ record_part 16 input (16 * i))

-- what a buffer send leaves: its step, room for words as it was, and the words that it sent
record Filled (chip : Chip2) (t : Told) (value : ℕ) (room : List ℕ) (o : Operation) : Type 0 where
  step : t ≡ step_of (Some o) chip
  long : length room ≡ 1000
  few : value ≤ 1000
  shown : length (take value room) ≡ value
  words : take value room ≡ sent_words (Some o) chip

-- a buffer send asks for at most as many places as there are, and its words are the first ones of those places
module _ (chip : Chip2) (old filled : List ℕ) (places value : ℕ) (t : Told) (few : places ≤ 1000) (room : length old ≡ 1000) (step : t ≡ send_into (length (take places old)) chip) (v : t.value ≡ value) (out : filled ≡ sent_buffer chip (take places old)) (kept : length filled ≡ length (take places old)) where
  lent : length (take places old) ≡ places
  lent = length-take-le places old (omega arith)

  sent : t ≡ send_into places chip
  sent = step ∙ ap (λ (n : ℕ). send_into n chip) lent

  value_places : value ≤ places
  value_places = omega (arith, v, ap (λ (s : Told). s.value) sent, few_sent chip places)

  same : length (filled ++ drop places old) ≡ 1000
  same = omega (arith, length-append filled (drop places old), length-drop places old, kept, lent)

  shown : length (take value (filled ++ drop places old)) ≡ value
  shown = length-take-le value (filled ++ drop places old) (omega (arith, same, value_places))

  its_words : take value (filled ++ drop places old) ≡ sent_words (Some (Fill places)) chip
  unfolding sent_words
  its_words =
      take-append-le value filled (drop places old) (omega (arith, kept, lent, value_places))
      ∙ ap₂ take (sym v ∙ ap (λ (s : Told). s.value) sent) out
      ∙ any_buffer chip (take places old) places lent

  -- what one leaves: its step, the room for words as it was, and how many words it sent and which
  filling : Filled chip t value (filled ++ drop places old) (Fill places)
  unfolding step_of
  filling = record { step = sent; long = same; few = omega (arith, value_places, few); shown = shown; words = its_words }

pub loop-i-init : goal.loop-i-init
loop-i-init c = (refl, ran_none second c.args.input.now c.args.out.now c.args.chip)

-- an operation that sends no words into the buffer: its answer's step, and no words
record Stepped (o : Operation) (chip : Chip2) (t : Told) : Type 0 where
  step : t ≡ step_of (Some o) chip
  none : sent_words (Some o) chip ≡ []

-- what `kept` stores and leaves
abbrev kept_of : Chip2 → ℕ × ℕ → Told
kept_of chip told = record { chip = chip; number = told.0; value = told.1 }

plain : {o p : Operation} {chip next kept : Chip2} {left had : ℕ × ℕ} {t : Told} → p ≡ o → t ≡ step_of (Some o) chip → sent_words (Some o) chip ≡ [] → kept_of kept had ≡ t → next ≡ kept → left ≡ had → Stepped p chip (kept_of next left)
plain {o} {p} {chip} is step none k n l =
    record {
      step = ap₂ kept_of n l ∙ k ∙ step ∙ ap (λ (x : Operation). step_of (Some x) chip) (sym is);
      none = ap (λ (x : Operation). sent_words (Some x) chip) is ∙ none;
    }

pub loop-i-preserved-in_default : goal.loop-i-preserved-in_default
unfolding step_of sent_words
loop-i-preserved-in_default c =
    let v = c.loop-i in
    let p = c.put_plain-at.ensures in
    let asked : None ≡ operation_of (record_at second c.args.input.now v.i) = part_of c.args.input.now v.i c.decode.ensures c.min-end.ensures c.in_default.is in
    (v.invariant.0, ran_on second v.invariant.1 (omega arith) (ap (λ (o : Option Operation). (step_of o v.state).chip) asked) (ap (λ (o : Option Operation). line_of o v.state) asked) p.value (omega (arith, p.upper_bound)) p.out_after)

pub slice_bounds-send_into-end : goal.slice_bounds-send_into-end
slice_bounds-send_into-end c = omega (arith, few_places _ (sym c.decode.ensures ∙ c.in-Some.is ∙ ap Some c.in-Fill.is), c.loop-i.invariant.0)

pub slice_bounds-send_into-end-in-Fill : goal.slice_bounds-send_into-end-in-Fill
slice_bounds-send_into-end-in-Fill c = sym (length-take-le c.in-Fill.places c.loop-i.words (omega (arith, few_places _ (sym c.decode.ensures ∙ c.in-Some.is ∙ ap Some c.in-Fill.is), c.loop-i.invariant.0)))

pub slice_bounds-put_sent-end-in-Fill : goal.slice_bounds-put_sent-end-in-Fill
slice_bounds-put_sent-end-in-Fill c =
    let few = few_places _ (sym c.decode.ensures ∙ c.in-Some.is ∙ ap Some c.in-Fill.is) in
    let a = c.send_into in
    let k = c.kept-number in
    let f = filling c.loop-i.state c.loop-i.words a.new.out c.in-Fill.places k.result.1 (told a.result) few c.loop-i.invariant.0 a.ensures.result_value (sym (ap (λ (t : Told). t.value) k.ensures)) a.ensures.out_after a.auto.out in
    sym f.shown

pub slice_bounds-put_sent-end : goal.slice_bounds-put_sent-end
slice_bounds-put_sent-end c =
    let few = few_places _ (sym c.decode.ensures ∙ c.in-Some.is ∙ ap Some c.in-Fill.is) in
    let a = c.send_into in
    let k = c.kept-number in
    let f = filling c.loop-i.state c.loop-i.words a.new.out c.in-Fill.places k.result.1 (told a.result) few c.loop-i.invariant.0 a.ensures.result_value (sym (ap (λ (t : Told). t.value) k.ensures)) a.ensures.out_after a.auto.out in
    omega (arith, f.few, f.long)

-- after a buffer send the words of its line are those that were sent
pub loop-i-preserved-in-Fill : goal.loop-i-preserved-in-Fill
loop-i-preserved-in-Fill c =
    let few = few_places _ (sym c.decode.ensures ∙ c.in-Some.is ∙ ap Some c.in-Fill.is) in
    let a = c.send_into in
    let k = c.kept-number in
    let f = filling c.loop-i.state c.loop-i.words a.new.out c.in-Fill.places k.result.1 (told a.result) few c.loop-i.invariant.0 a.ensures.result_value (sym (ap (λ (t : Told). t.value) k.ensures)) a.ensures.out_after a.auto.out in
    let v = c.loop-i in
    let o = Some (Fill c.in-Fill.places) in
    let p = c.put_sent-at.ensures in
    let asked : o ≡ operation_of (record_at second c.args.input.now v.i) = part_of c.args.input.now v.i c.decode.ensures c.min-end.ensures (c.in-Some.is ∙ ap Some c.in-Fill.is) in
    let step : kept_of k.new.chip k.result ≡ step_of o v.state = k.ensures ∙ f.step in
    (f.long, ran_on second v.invariant.1 (omega arith) (ap (λ (t : Told). t.chip) step ∙ ap (λ (x : Option Operation). (step_of x v.state).chip) asked) (ap₂ (λ (t : Told) (ws : List ℕ). words_line t.number t.value ws) step f.words ∙ ap (λ (x : Option Operation). line_of x v.state) asked) p.value (omega (arith, p.upper_bound, f.few, f.shown)) p.out_after)

pub loop-i-preserved : goal.loop-i-preserved
unfolding step_of sent_words
loop-i-preserved c =
    let v = c.loop-i in
    let m = c.match-operation in
    let o = c.in-Some.operation in
    let p = c.put_plain-at-in-loop-i.ensures in
    let asked : Some o ≡ operation_of (record_at second c.args.input.now v.i) = part_of c.args.input.now v.i c.decode.ensures c.min-end.ensures c.in-Some.is in
    let s : Stepped o v.state (kept_of m.state m.number) =
    elim m.branch [
      | in-Reset w ↦ plain w.in-Reset.is w.hardware_reset.ensures refl w.kept.ensures w.state-is w.number-is
      | in-Write w ↦ plain w.in-Write.is w.write.ensures refl w.kept-in-Write.ensures w.state-is w.number-is
      | in-Read w ↦ plain w.in-Read.is w.read.ensures refl w.kept-in-Read.ensures w.state-is w.number-is
      | in-Ticks w ↦ plain w.in-Ticks.is w.timestamp_ticks.ensures refl w.kept-in-Ticks.ensures w.state-is w.number-is
      | in-Nodes w ↦ plain w.in-Nodes.is w.node_ticks.ensures refl w.kept-in-Nodes.ensures w.state-is w.number-is
      | in-Events w ↦ plain w.in-Events.is w.external_events.ensures refl w.kept-in-Events.ensures w.state-is w.number-is
      | in-Send w ↦ plain w.in-Send.is (w.send_by.ensures ∙ ap (λ (t : List ℕ). send_by t v.state) c.parities-table.ensures ∙ send_by_lem v.state) refl w.kept-in-Send.ensures w.state-is w.number-is
    ] in
    (v.invariant.0, ran_on second v.invariant.1 (omega arith) (ap (λ (t : Told). t.chip) s.step ∙ ap (λ (x : Option Operation). (step_of x v.state).chip) asked) (ap₂ (λ (t : Told) (ws : List ℕ). words_line t.number t.value ws) s.step (sym s.none) ∙ ap (λ (x : Option Operation). line_of x v.state) asked) p.value (omega (arith, p.upper_bound)) p.out_after)

pub returns : goal.returns
returns c =
    let v = c.loop-i in
    let all : v.i ≡ block_count second c.args.input.now (length c.args.out.now) = omega arith in
    let n : c.min-count.result ≡ v.i = omega arith in
    record {
      value = ap (λ (k : ℕ). record { chip = v.state; records = k; written = v.at }) n ∙ ran_value second v.invariant.1 all;
      out_after = ran_buffer second v.invariant.1 all;
    }
