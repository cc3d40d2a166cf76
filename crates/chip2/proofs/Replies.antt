-- Each reply number is given exactly in its row's case: by computation for each address up to 127 but for the triggers' writes and the
-- counters' reads, and for those by the definitions' own tests. Assumes nothing, but `waiting_never_8` that write wait is set.
use Prim.Native.Nat.{ℕ, ◌%◌, ◌≤◌, ◌<◌}
use native.Mathlib.Omega.{arith}
use mathlib.Core.Path.{◌≡◌, refl, sym, ap, ap₂, ◌∙◌}
use mathlib.Core.Bool.{Bool, true, false, cond, not, ◌&&◌, ◌||◌, and-false}
use mathlib.Core.List.{List, [], ◌∷◌}
use lib.Dec.{leb, ltb, eqb}
use lib.ListN.{get_or}
use borrow.Author.Tests.{lt-ltb, lt-leb, ne_eqb, ltb-true, ltb-false}
use Rattle.queue.specs.Queue.{busy}
use Rattle.control.specs.Fate.{fate}
use Rattle.control.specs.declared.reply.Reply.TheVariants.{Lines, NoWord, Wait, Busy, Outside}
use Rattle.control.proofs.ReplyLaws as answers
use Rattle.chip.specs.Chip.{lacks_room, line_of, one_line}
use Rattle.chip.specs.Rows.{one_active, read_only, triggering}
use Rattle.chip.proofs.AddressLaws.{or_rest, same, same_eq, up_to_at}
use Rattle.chip.proofs.LineLaws.{one_line_lem}
use Rattle.chip.proofs.Replies.{few_rows, marks, marks_reset, read_rows, table, write_rows}
use Rattle.chip2.specs.Chip2.{data_of, done, external_events, inside, node_ticks, read, read_at, read_counter, replied, send, send_into, timestamp_ticks, trigger, trigger_by, write, write_at}
use Rattle.chip2.specs.Operation.{Operation, op_reset, op_write, op_read, op_ticks, op_nodes, op_events, op_send, op_fill, step}
use Rattle.chip2.specs.Place.{place_of, register_of}
use Rattle.chip2.specs.Rows.{counter_at, lacking, mapped, passes, row0, row1, row2, row3, row4, row5, row6, row7, row8, row10, row11, row15, trigger_case, vacant, write_only}
use Rattle.chip2.specs.Told.{Told, told}
use Rattle.control.specs.declared.answer.Answer.{Answer}
use Rattle.chip2.specs.declared.chip2.Chip2.{Chip2}
use Rattle.chip2.specs.declared.place.Place.{Place}
use Rattle.chip2.specs.declared.place.Place.TheVariants.{Trigger}
use Rattle.chip2.proofs.AddressLaws.{place_beyond, place_counter, place_trigger}
use Rattle.chip2.proofs.ChipLaws.{by_bounds}
use Rattle.chip2.proofs.RoomLaws.{rows_busy, rows_room}

-- ---- the rows by their tests

-- all rows at once
abbrev rows : Operation → Chip2 → List Bool
rows op c =
    table (row15 op c) (row1 op c) (row2 op c) (row3 op c) (row4 op c) (row5 op c) (row6 op c) (row7 op c) (row8 op c) (row10 op c) (row11 op c)

-- what the rows ask of an address
abbrev tests : ℕ → List Bool
tests a = ltb 127 a ∷ vacant a ∷ read_only a ∷ write_only a ∷ triggering a ∷ counter_at a ∷ []

-- an address above 127
tests_beyond : (a : ℕ) → 127 < a → tests a ≡ true ∷ false ∷ false ∷ false ∷ false ∷ false ∷ []
tests_beyond a h =
    let other : (n : ℕ) → n ≤ 127 → eqb a n ≡ false = λ n p. ne_eqb a n (λ q. omega arith) in
    let last : leb a 127 ≡ false = lt-leb a 127 h in
    λ i. lt-ltb 127 a h i ∷ (last i && not (mapped a)) ∷ other 2 (omega arith) i ∷ (other 0 (omega arith) i || (last i && leb 96 a)) ∷ (last i && leb 96 a) ∷ (lt-leb a 79 (omega arith) i && leb 64 a) ∷ []

-- what is the same for every trigger, and for every counter
tests_trigger : (a : ℕ) → a < 128 → triggering a ≡ true → tests a ≡ false ∷ false ∷ false ∷ true ∷ true ∷ false ∷ []
tests_trigger a h e =
    same_eq _ _ (or_rest (not (triggering a)) _ (up_to_at 128 (λ b. not (triggering b) || same (tests b) (false ∷ false ∷ false ∷ true ∷ true ∷ false ∷ [])) refl a h) (ap not e))

tests_counter : (a : ℕ) → a < 128 → counter_at a ≡ true → tests a ≡ false ∷ false ∷ false ∷ false ∷ false ∷ true ∷ []
tests_counter a h e =
    same_eq _ _ (or_rest (not (counter_at a)) _ (up_to_at 128 (λ b. not (counter_at b) || same (tests b) (false ∷ false ∷ false ∷ false ∷ false ∷ true ∷ [])) refl a h) (ap not e))

-- ---- each operation

-- "lacks room", as the definitions have it
abbrev short : Chip2 → ℕ → Bool
short c a = lacks_room (leb 112 a) c.queue

module _ (a bits lines : ℕ) (c : Chip2) where
  written_trigger : (r o s f l w : Bool) → marks (cond o (trigger_by (fate s f l w) r (line_of lines) bits c) (replied Lines c)).number ≡ write_rows true (false ∷ false ∷ false ∷ true ∷ true ∷ false ∷ []) o s f l w
  unfolding trigger_by
  written_trigger r false s f l w = refl
  written_trigger r true false f l w = refl
  written_trigger r true true false l w = refl
  written_trigger r true true true false w = refl
  written_trigger r true true true true true = refl
  written_trigger r true true true true false = refl

  written : marks (write_at (place_of a) bits lines c).number ≡ write_rows true (tests a) (one_line lines) c.control.sampling (passes c a) (short c a) c.control.writewait
  unfolding write_at trigger place_of register_of
  written = go (ltb 127 a) refl (triggering a) refl
    where
      by : List Bool → List Bool
      by t = write_rows true t (one_line lines) c.control.sampling (passes c a) (short c a) c.control.writewait

      kind : (r : Bool) → marks (write_at (Trigger r (a % 16)) bits lines c).number ≡ write_rows true (false ∷ false ∷ false ∷ true ∷ true ∷ false ∷ []) (one_line lines) c.control.sampling (passes c a) (lacks_room r c.queue) c.control.writewait
      kind r = written_trigger r (one_line lines) c.control.sampling (passes c a) (lacks_room r c.queue) c.control.writewait

      go : (h : Bool) → ltb 127 a ≡ h → (t : Bool) → triggering a ≡ t → marks (write_at (place_of a) bits lines c).number ≡ by (tests a)
      go true p t q =
          ap (λ (x : Place). marks (write_at x bits lines c).number) (place_beyond a (ltb-true 127 a p))
          ∙ sym (ap by (tests_beyond a (ltb-true 127 a p)))
      go false p true q =
          ap (λ (x : Place). marks (write_at x bits lines c).number) (place_trigger a q) ∙ kind (leb 112 a)
          ∙ sym (ap by (tests_trigger a (omega (arith, ltb-false 127 a p)) q))
      go false p false q =
          same_eq _ _ (or_rest (triggering a) _ (up_to_at 128 (λ b. triggering b || same (marks (write_at (place_of b) bits lines c).number) (write_rows true (tests b) (one_line lines) c.control.sampling (passes c b) (short c b) c.control.writewait)) refl a (omega (arith, ltb-false 127 a p))) q)

module _ (a : ℕ) (c : Chip2) where
  counted : (b w : Bool) (x y z : Chip2) (v : ℕ) → marks (cond b (cond w (replied Wait x) (replied Busy y)) (done v z)).number ≡ read_rows true (false ∷ false ∷ false ∷ false ∷ false ∷ true ∷ []) b w
  counted true true x y z v = refl
  counted true false x y z v = refl
  counted false w x y z v = refl

  seen : marks (read_at (place_of a) c).number ≡ read_rows true (tests a) (busy c.queue) c.control.readwait
  unfolding read_at read_counter place_of register_of
  seen = go (ltb 127 a) refl (counter_at a) refl
    where
      by : List Bool → List Bool
      by t = read_rows true t (busy c.queue) c.control.readwait

      go : (h : Bool) → ltb 127 a ≡ h → (t : Bool) → counter_at a ≡ t → marks (read_at (place_of a) c).number ≡ by (tests a)
      go true p t q =
          ap (λ (x : Place). marks (read_at x c).number) (place_beyond a (ltb-true 127 a p)) ∙ sym (ap by (tests_beyond a (ltb-true 127 a p)))
      go false p true q =
          ap (λ (x : Place). marks (read_at x c).number) (place_counter a q)
          ∙ counted (busy c.queue) c.control.readwait _ _ _ _
          ∙ sym (ap by (tests_counter a (omega (arith, ltb-false 127 a p)) q))
      go false p false q =
          same_eq _ _ (or_rest (counter_at a) _ (up_to_at 128 (λ b. counter_at b || same (marks (read_at (place_of b) c).number) (read_rows true (tests b) (busy c.queue) c.control.readwait)) refl a (omega (arith, ltb-false 127 a p))) q)

-- 15 is tried first
marks_guarded : (b : Bool) (c : Chip2) (x : Told) (f : Bool → List Bool) → marks x.number ≡ f true → marks 15 ≡ f false → marks (cond b x (replied Outside c)).number ≡ f b
marks_guarded b c x f p q = by_bounds (λ t y. marks y.number ≡ f t) b c x p q

-- where a row can only be 15 or, for a single send, 5
marks_done : (i : Bool) (c d : Chip2) (v : ℕ) → marks (cond i (done v d) (replied Outside c)).number ≡ few_rows (not i) i false
marks_done true c d v = refl
marks_done false c d v = refl

marks_sent : (i n : Bool) (c d : Chip2) (v : ℕ) → marks (cond i (cond n (replied NoWord c) (done v d)) (replied Outside c)).number ≡ few_rows (not i) i n
marks_sent true true c d v = refl
marks_sent true false c d v = refl
marks_sent false n c d v = refl

-- every operation
all_rows : (op : Operation) (c : Chip2) → marks (step op c).number ≡ rows op c
unfolding write read timestamp_ticks node_ticks external_events send send_into
all_rows op_reset c = marks_reset (inside c)
all_rows (op_write a bits lines) c =
    marks_guarded (inside c) c (write_at (place_of a) (data_of bits c) lines c)
    (λ i. write_rows i (tests a) (one_line lines) c.control.sampling (passes c a) (short c a) c.control.writewait)
    (written a (data_of bits c) lines c) refl
    ∙ ap₂ (λ (o l : Bool). write_rows (inside c) (tests a) o c.control.sampling (passes c a) l c.control.writewait) (one_line_lem lines) (rows_room c a)
all_rows (op_read a) c =
    marks_guarded (inside c) c (read_at (place_of a) c) (λ i. read_rows i (tests a) (busy c.queue) c.control.readwait) (seen a c) refl
    ∙ ap (λ (b : Bool). read_rows (inside c) (tests a) b c.control.readwait) (rows_busy c)
all_rows (op_ticks k levels) c = marks_done (inside c) c _ 0
all_rows (op_nodes k levels) c = marks_done (inside c) c _ 0
all_rows (op_events mask) c = marks_done (inside c) c _ 0
all_rows op_send c = marks_sent (inside c) (eqb c.queue.held 0) c _ _
all_rows (op_fill room) c = marks_done (inside c) c _ _

-- ---- the rows

-- no operation is a trigger that a test lets through where the test lets none through
trigger_never : (f : ℕ → Bool) → ((a : ℕ) → f a ≡ false) → (op : Operation) → trigger_case f op ≡ false
trigger_never f none op_reset = refl
trigger_never f none (op_write a bits lines) =
    simp (none a, and-false (one_active lines), and-false (triggering a))
trigger_never f none (op_read a) = refl
trigger_never f none (op_ticks k levels) = refl
trigger_never f none (op_nodes k levels) = refl
trigger_never f none (op_events mask) = refl
trigger_never f none op_send = refl
trigger_never f none (op_fill room) = refl

module _ (op : Operation) (c : Chip2) where
  row_at : (k : ℕ) → get_or (marks (step op c).number) k false ≡ get_or (rows op c) k false
  row_at k = ap (λ (l : List Bool). get_or l k false) (all_rows op c)

  pub reply_15 : eqb (step op c).number 15 ≡ row15 op c
  reply_15 = row_at 0

  pub reply_1 : eqb (step op c).number 1 ≡ row1 op c
  reply_1 = row_at 1

  pub reply_2 : eqb (step op c).number 2 ≡ row2 op c
  reply_2 = row_at 2

  pub reply_3 : eqb (step op c).number 3 ≡ row3 op c
  reply_3 = row_at 3

  pub reply_4 : eqb (step op c).number 4 ≡ row4 op c
  reply_4 = row_at 4

  pub reply_5 : eqb (step op c).number 5 ≡ row5 op c
  reply_5 = row_at 5

  pub reply_6 : eqb (step op c).number 6 ≡ row6 op c
  reply_6 = row_at 6

  pub reply_7 : eqb (step op c).number 7 ≡ row7 op c
  reply_7 = row_at 7

  pub reply_8 : eqb (step op c).number 8 ≡ row8 op c
  reply_8 = row_at 8

  -- so where write wait is set nothing is answered 8
  pub waiting_never_8 : c.control.writewait ≡ true → eqb (step op c).number 8 ≡ false
  waiting_never_8 w =
      reply_8
      ∙ ap (λ (b : Bool). inside c && b) (trigger_never _ none op)
      ∙ and-false (inside c)
    where
      none : (a : ℕ) → (c.control.sampling && (passes c a && (lacking c a && not c.control.writewait))) ≡ false
      none a = simp (w, and-false (lacking c a), and-false (passes c a), and-false c.control.sampling)

  pub reply_10 : eqb (step op c).number 10 ≡ row10 op c
  reply_10 = row_at 9

  pub reply_11 : eqb (step op c).number 11 ≡ row11 op c
  reply_11 = row_at 10

  pub reply_0 : eqb (step op c).number 0 ≡ row0 op c
  reply_0 = row_at 11

-- ---- "Any two replies allowed by a promise are shown equal"

-- an operation's promise, `told r` equal to a definition, leaves one answer, since replies of one number are one reply; a lent buffer's is
-- an equation with the whole buffer
pub one_answer : (a b : Answer Chip2) → told a ≡ told b → a ≡ b
one_answer a b e = answers.one_answer a b e
