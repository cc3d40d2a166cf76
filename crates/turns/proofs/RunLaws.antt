-- A block with room for its records gives their whole text, and an input cut at the end of a record gives the chip and the text of the
-- whole: so it doesn't matter in which reads an input comes (`reads_chip_lem`, `reads_text_lem`). For every format; assumes nothing.
use Prim.Native.Nat.{ℕ, zero, suc, ◌+◌, ◌-◌, ◌*◌, ◌/◌, ◌≤◌, ◌<◌}
use native.Mathlib.Nat.{add-suc, add-zero}
use native.Mathlib.Omega.{arith}
use mathlib.Core.Path.{◌≡◌, refl, sym, ap, ap₂, ◌∙◌}
use mathlib.Core.Bool.{Bool, true, false}
use mathlib.Core.List.{List, [], ◌∷◌, ◌++◌, append_assoc, append-nil}
use lib.ListN.{drop, length, take, length-append, length-drop, take-append-drop}
use Rattle.std.proofs.Math.Seq.{drop-nil, take-nil}
use Rattle.std.proofs.lemmas.List.{length-take}
use lib.Seq.{drop-append-add, drop-append-le, length-take-le, take-append-add, take-append-le, take-length}
use Rattle.std.proofs.Math.Nat.{add_comm, add-mul-div_left, div-eq_of_lt, div-mul-le_self, le-div_iff_mul-le, le_trans, min-eq_left, mul_comm, mul-add, mul-div-le, mul-le-mul_left, mul-suc}
use Rattle.std.proofs.lemmas.Nat.{div-mul-add}
use Rattle.turns.specs.Form.{Form}
use Rattle.turns.specs.Run.{block_buffer, block_count, block_of, chip_after, due, input_chip, input_text, joined, part, reads_chip, reads_text, record_at, record_count, text_after, whole, whole_size}

module _ {C : Type 0} (f : Form C) (positive : 0 < f.size) where
  -- no more bytes are no more records
  fewer : {n m : ℕ} → n ≤ m → record_count f n ≤ record_count f m
  fewer {n} {m} h = (le-div_iff_mul-le positive).1 (le_trans (div-mul-le_self (n + (f.size - 1)) f.size) (omega arith))

  module _ (first rest : List ℕ) (n : ℕ) (whole : length first ≡ f.size * n) (c : C) where
    early : (k : ℕ) → suc k ≤ n → record_at f (first ++ rest) k ≡ record_at f first k
    early k h =
        let room : f.size * k + f.size ≤ length first = rw (← mul-suc f.size k) (omega (arith, mul-le-mul_left f.size h)) in
        ap (take f.size) (drop-append-le (f.size * k) first rest (omega arith))
        ∙ take-append-le f.size (drop (f.size * k) first) rest (omega (arith, length-drop (f.size * k) first))

    late : (k : ℕ) → record_at f (first ++ rest) (n + k) ≡ record_at f rest k
    late k =
        let place : f.size * (n + k) ≡ length first + f.size * k = mul-add f.size n k ∙ ap (λ (m : ℕ). m + f.size * k) (sym whole) in
        ap (take f.size) (ap (λ (i : ℕ). drop i (first ++ rest)) place ∙ drop-append-add first rest (f.size * k))

    chip_early : (k : ℕ) → k ≤ n → chip_after f k (first ++ rest) c ≡ chip_after f k first c
    unfolding chip_after
    chip_early zero h = refl
    chip_early (suc k) h = ap₂ f.next (early k h) (chip_early k (omega arith))

    text_early : (k : ℕ) → k ≤ n → text_after f k (first ++ rest) c ≡ text_after f k first c
    unfolding text_after
    text_early zero h = refl
    text_early (suc k) h = ap₂ ◌++◌ (text_early k (omega arith)) (ap₂ f.line (early k h) (chip_early k (omega arith)))

    chip_late : (k : ℕ) → chip_after f (n + k) (first ++ rest) c ≡ chip_after f k rest (chip_after f n first c)
    unfolding chip_after
    chip_late zero = ap (λ (m : ℕ). chip_after f m (first ++ rest) c) (add-zero n) ∙ chip_early n (omega arith)
    chip_late (suc k) =
        ap (λ (m : ℕ). chip_after f m (first ++ rest) c) (add-suc n k) ∙ ap₂ f.next (late k) (chip_late k)

    text_late : (k : ℕ) → text_after f (n + k) (first ++ rest) c ≡ text_after f n first c ++ text_after f k rest (chip_after f n first c)
    unfolding text_after
    text_late zero =
        ap (λ (m : ℕ). text_after f m (first ++ rest) c) (add-zero n)
        ∙ text_early n (omega arith)
        ∙ sym (append-nil (text_after f n first c))
    text_late (suc k) =
        ap (λ (m : ℕ). text_after f m (first ++ rest) c) (add-suc n k)
        ∙ ap₂ ◌++◌ (text_late k) (ap₂ f.line (late k) (chip_late k))
        ∙ append_assoc (text_after f n first c) (text_after f k rest (chip_after f n first c)) (f.line (record_at f rest k) (chip_after f k rest (chip_after f n first c)))

    counted : record_count f (length (first ++ rest)) ≡ n + record_count f (length rest)
    counted =
        let sum : length (first ++ rest) + (f.size - 1) ≡ length rest + (f.size - 1) + f.size * n = omega (arith, length-append first rest) in
        ap (λ (m : ℕ). m / f.size) sum ∙ add-mul-div_left (length rest + (f.size - 1)) n positive ∙ add_comm (record_count f (length rest)) n

    records : record_count f (length first) ≡ n
    records =
        ap (λ (m : ℕ). (m + (f.size - 1)) / f.size) (whole ∙ mul_comm f.size n) ∙ div-mul-add n f.size (f.size - 1) (omega arith)

    -- the chip after an input is the chip after its rest, from where the first part left it
    pub cut_chip : input_chip f (first ++ rest) c ≡ input_chip f rest (input_chip f first c)
    unfolding input_chip
    cut_chip =
        ap (λ (m : ℕ). chip_after f m (first ++ rest) c) counted
        ∙ chip_late (record_count f (length rest))
        ∙ ap (λ (m : ℕ). chip_after f (record_count f (length rest)) rest (chip_after f m first c)) (sym records)

    -- and its text is the first part's, then the rest's
    pub cut_text : input_text f (first ++ rest) c ≡ input_text f first c ++ input_text f rest (input_chip f first c)
    unfolding input_chip input_text
    cut_text =
        ap (λ (m : ℕ). text_after f m (first ++ rest) c) counted
        ∙ text_late (record_count f (length rest))
        ∙ ap (λ (m : ℕ). text_after f m first c ++ text_after f (record_count f (length rest)) rest (chip_after f m first c)) (sym records)

  -- a block with room for its records gives their whole text
  module _ (roomy : 0 < f.room) (input out : List ℕ) (c : C) (room : f.room * record_count f (length input) ≤ length out) where
    all : block_count f input (length out) ≡ record_count f (length input)
    all = min-eq_left ((le-div_iff_mul-le roomy).1 (rw mul_comm room))

    pub block_whole : block_of f input (length out) c ≡ record { chip = input_chip f input c; records = record_count f (length input); written = length (input_text f input c) }
    unfolding block_of input_chip input_text
    block_whole =
        ap (λ (n : ℕ). record { chip = chip_after f n input c; records = n; written = length (text_after f n input c) }) all

    pub buffer_whole : block_buffer f input out c ≡ input_text f input c ++ drop (length (input_text f input c)) out
    unfolding block_buffer input_text
    buffer_whole = ap (λ (n : ℕ). text_after f n input c ++ drop (length (text_after f n input c)) out) all

  -- what has come is its whole records and a part
  whole_part : (bytes : List ℕ) → whole f bytes ++ part f bytes ≡ bytes
  unfolding whole part
  whole_part bytes = take-append-drop (whole_size f (length bytes)) bytes

  whole_length : (bytes : List ℕ) → length (whole f bytes) ≡ f.size * (length bytes / f.size)
  unfolding whole
  whole_length bytes = length-take-le (whole_size f (length bytes)) bytes (mul-div-le (length bytes) f.size)

  -- one read more: with what came before, and with the part of it that waited
  module _ (seen came : List ℕ) where
    split : seen ++ came ≡ whole f seen ++ (part f seen ++ came)
    split = ap (λ (l : List ℕ). l ++ came) (sym (whole_part seen)) ∙ append_assoc (whole f seen) (part f seen) came

    sizes : whole_size f (length (seen ++ came)) ≡ length (whole f seen) + whole_size f (length (part f seen ++ came))
    sizes =
        let q = length seen / f.size in
        let rest = length (part f seen ++ came) in
        let long : length (seen ++ came) ≡ rest + f.size * q = omega (arith, ap length split, length-append (whole f seen) (part f seen ++ came), whole_length seen) in
        ap (λ (m : ℕ). f.size * (m / f.size)) long
        ∙ ap (λ (m : ℕ). f.size * m) (add-mul-div_left rest q positive)
        ∙ mul-add f.size (rest / f.size) q
        ∙ add_comm (f.size * (rest / f.size)) (f.size * q)
        ∙ ap (λ (m : ℕ). m + f.size * (rest / f.size)) (sym (whole_length seen))

    due_more : (ended : Bool) → due f ended (seen ++ came) ≡ whole f seen ++ due f ended (part f seen ++ came)
    unfolding due
    due_more true =
        take-length (seen ++ came) ∙ split ∙ ap (λ (l : List ℕ). whole f seen ++ l) (sym (take-length (part f seen ++ came)))
    due_more false =
        ap₂ take sizes split ∙ take-append-add (whole f seen) (part f seen ++ came) (whole_size f (length (part f seen ++ came)))

    pub part_more : part f (seen ++ came) ≡ part f (part f seen ++ came)
    unfolding part
    part_more =
        ap₂ drop sizes split ∙ drop-append-add (whole f seen) (part f seen ++ came) (whole_size f (length (part f seen ++ came)))

    module _ (ended : Bool) (c : C) where
      pub read_chip : input_chip f (due f ended (seen ++ came)) c ≡ input_chip f (due f ended (part f seen ++ came)) (input_chip f (whole f seen) c)
      read_chip =
          ap (λ (l : List ℕ). input_chip f l c) (due_more ended)
          ∙ cut_chip (whole f seen) (due f ended (part f seen ++ came)) (length seen / f.size) (whole_length seen) c

      pub read_text : input_text f (due f ended (seen ++ came)) c ≡ input_text f (whole f seen) c ++ input_text f (due f ended (part f seen ++ came)) (input_chip f (whole f seen) c)
      read_text =
          ap (λ (l : List ℕ). input_text f l c) (due_more ended)
          ∙ cut_text (whole f seen) (due f ended (part f seen ++ came)) (length seen / f.size) (whole_length seen) c

  -- before anything has come nothing was answered
  nothing : record_count f 0 ≡ 0
  nothing = div-eq_of_lt (omega arith)

  pub no_chip : (c : C) → input_chip f [] c ≡ c
  unfolding input_chip chip_after
  no_chip c = ap (λ (n : ℕ). chip_after f n [] c) nothing

  pub no_text : (c : C) → input_text f [] c ≡ []
  unfolding input_text text_after
  no_text c = ap (λ (n : ℕ). text_after f n [] c) nothing

  -- every way to cut an input into reads gives the chip and the text of the whole input
  reads_chip_from : (reads : List (List ℕ)) (seen : List ℕ) (c : C) → reads_chip f reads (part f seen) (input_chip f (whole f seen) c) ≡ input_chip f (seen ++ joined reads) c
  unfolding reads_chip joined due whole
  reads_chip_from [] seen c =
      sym (ap (λ (l : List ℕ). input_chip f l c) (append-nil seen ∙ sym (whole_part seen)) ∙ cut_chip (whole f seen) (part f seen) (length seen / f.size) (whole_length seen) c)
  reads_chip_from (came ∷ reads) seen c =
      ap₂ (reads_chip f reads) (sym (part_more seen came)) (sym (read_chip seen came false c))
      ∙ reads_chip_from reads (seen ++ came) c
      ∙ ap (λ (l : List ℕ). input_chip f l c) (append_assoc seen came (joined reads))

  reads_text_from : (reads : List (List ℕ)) (seen : List ℕ) (c : C) → input_text f (whole f seen) c ++ reads_text f reads (part f seen) (input_chip f (whole f seen) c) ≡ input_text f (seen ++ joined reads) c
  unfolding reads_text joined due whole
  reads_text_from [] seen c =
      sym (ap (λ (l : List ℕ). input_text f l c) (append-nil seen ∙ sym (whole_part seen)) ∙ cut_text (whole f seen) (part f seen) (length seen / f.size) (whole_length seen) c)
  reads_text_from (came ∷ reads) seen c =
      let d = input_chip f (whole f seen) c in
      let bytes = part f seen ++ came in
      sym (append_assoc (input_text f (whole f seen) c) (input_text f (whole f bytes) d) (reads_text f reads (part f bytes) (input_chip f (whole f bytes) d)))
      ∙ ap₂ ◌++◌ (sym (read_text seen came false c)) (ap₂ (reads_text f reads) (sym (part_more seen came)) (sym (read_chip seen came false c)))
      ∙ reads_text_from reads (seen ++ came) c
      ∙ ap (λ (l : List ℕ). input_text f l c) (append_assoc seen came (joined reads))

  whole_nil : whole f [] ≡ []
  unfolding whole
  whole_nil = take-nil (whole_size f 0)

  part_nil : part f [] ≡ []
  unfolding part
  part_nil = drop-nil (whole_size f 0)

  pub reads_chip_lem : (reads : List (List ℕ)) (c : C) → reads_chip f reads [] c ≡ input_chip f (joined reads) c
  reads_chip_lem reads c =
      ap₂ (reads_chip f reads) (sym part_nil) (sym (no_chip c) ∙ ap (λ (l : List ℕ). input_chip f l c) (sym whole_nil)) ∙ reads_chip_from reads [] c

  pub reads_text_lem : (reads : List (List ℕ)) (c : C) → reads_text f reads [] c ≡ input_text f (joined reads) c
  reads_text_lem reads c =
      let none : input_text f (whole f []) c ≡ [] = ap (λ (l : List ℕ). input_text f l c) whole_nil ∙ no_text c in
      ap₂ (reads_text f reads) (sym part_nil) (sym (no_chip c) ∙ ap (λ (l : List ℕ). input_chip f l c) (sym whole_nil))
      ∙ ap (λ (l : List ℕ). l ++ reads_text f reads (part f []) (input_chip f (whole f []) c)) (sym none)
      ∙ reads_text_from reads [] c

  -- room for the lines of an input is room for those of a front of it
  pub count_take : {room : ℕ} (n : ℕ) (input : List ℕ) → f.room * record_count f (length input) ≤ room → f.room * record_count f (length (take n input)) ≤ room
  count_take n input h =
      let longer : length (take n input) ≤ length input = omega (arith, length-take {A = ℕ}) in
      le_trans (mul-le-mul_left f.room (fewer longer)) h
