-- Laws of a block: what stands from a record's place on is that record, and one record more puts its line behind the text. For every format;
-- assumes nothing.
use Prim.Native.Nat.{ℕ, ◌+◌, ◌-◌, ◌*◌, ◌≤◌, min}
use native.Mathlib.Numerals.{add-one}
use native.Mathlib.Omega.{arith}
use mathlib.Core.Path.{◌≡◌, refl, sym, ap, ap₂, ◌∙◌}
use mathlib.Core.Bool.{Bool, true, false}
use mathlib.Core.List.{List, ◌++◌}
use lib.Dec.{leb}
use lib.ListN.{length, drop, take, length-append, length-drop}
use lib.Seq.{sets, sets-eq, length-sets, take_all, take-append_seam, drop-append-add, drop-drop}
use borrow.Author.Tests.{leb-true, leb-false}
use Rattle.std.proofs.Math.Nat.{mul-add, mul-one}
use Rattle.turns.specs.Form.{Form}
use Rattle.turns.specs.Run.{block_buffer, block_count, block_of, chip_after, record_at, text_after}

-- what stands from a place on, to the end of the input at most, is the record there
pub record_part : (size : ℕ) (input : List ℕ) (start : ℕ) → take (min (start + size) (length input) - start) (drop start input) ≡ take size (drop start input)
record_part size input start = go (leb (start + size) (length input)) refl
  where
    go : (b : Bool) → leb (start + size) (length input) ≡ b → take (min (start + size) (length input) - start) (drop start input) ≡ take size (drop start input)
    go true e =
        let h = leb-true (start + size) (length input) e in
        let all : min (start + size) (length input) - start ≡ size = omega arith in
        ap (λ (k : ℕ). take k (drop start input)) all
    go false e =
        let h = leb-false (start + size) (length input) e in
        let left = length-drop start input in
        take_all (min (start + size) (length input) - start) (drop start input) (omega arith)
        ∙ sym (take_all size (drop start input) (omega arith))

-- a text at the front of a buffer, and a line behind it
front_length : (text out : List ℕ) → length text ≤ length out → length (text ++ drop (length text) out) ≡ length out
front_length text out h = omega (arith, length-append text (drop (length text) out), length-drop (length text) out)

put_behind : (text line out : List ℕ) → length text + length line ≤ length out → sets (text ++ drop (length text) out) (length text) line ≡ text ++ line ++ drop (length (text ++ line)) out
put_behind text line out h =
    let rest = drop (length text) out in
    let long = front_length text out (omega arith) in
    sets-eq line (text ++ rest) (length text) (omega arith)
    ∙ ap₂ (λ (a b : List ℕ). a ++ line ++ b) (take-append_seam text rest) (drop-append-add text rest (length line) ∙ drop-drop (length line) (length text) out)
    ∙ ap (λ (k : ℕ). text ++ line ++ drop k out) (sym (length-append text line))

module _ {C : Type 0} (f : Form C) where
  -- what holds after i records: the chip, where the text ends, and the buffer
  pub record Ran (input before : List ℕ) (chip : C) (i : ℕ) (state : C) (at : ℕ) (out : List ℕ) : Type 0 where
    pub long : length out ≡ length before
    pub within : at ≤ f.room * i
    pub next : state ≡ chip_after f i input chip
    pub end : at ≡ length (text_after f i input chip)
    pub text : out ≡ text_after f i input chip ++ drop (length (text_after f i input chip)) before

  pub ran_none : (input before : List ℕ) (chip : C) → Ran input before chip 0 chip 0 before
  unfolding chip_after text_after
  ran_none input before chip = record { long = refl; within = omega arith; next = refl; end = refl; text = refl }

  module _ {input before : List ℕ} {chip : C} {i : ℕ} {state : C} {at : ℕ} {out : List ℕ} (ran : Ran input before chip i state at out) where
    -- one record more
    pub ran_on : f.room * (i + 1) ≤ length before → {next : C} {line : List ℕ} → next ≡ f.next (record_at f input i) state → line ≡ f.line (record_at f input i) state → {end : ℕ} {after : List ℕ} → end ≡ at + length line → end ≤ at + f.room → after ≡ sets out at line → Ran input before chip (i + 1) next end after
    unfolding chip_after text_after
    ran_on room {next} {line} n l {end} {after} e b p =
        let text = text_after f i input chip in
        let step : f.room * (i + 1) ≡ f.room * i + f.room = mul-add f.room i 1 ∙ ap (λ (k : ℕ). f.room * i + k) (mul-one f.room) in
        let fits : length text + length line ≤ length before = omega (arith, ran.end, ran.within) in
        let more : text ++ line ≡ text_after f (i + 1) input chip = rw add-one (ap (λ (s : List ℕ). text ++ s) (l ∙ ap (f.line (record_at f input i)) ran.next)) in
        record {
          long = ap length p ∙ length-sets out at line ∙ ran.long;
          within = omega (arith, ran.within);
          next = rw add-one (n ∙ ap (f.next (record_at f input i)) ran.next);
          end = e ∙ ap (λ (k : ℕ). k + length line) ran.end ∙ sym (length-append text line) ∙ ap length more;
          text = p ∙ ap₂ (λ (s : List ℕ) (k : ℕ). sets s k line) ran.text ran.end ∙ put_behind text line before fits ∙ ap (λ (t : List ℕ). t ++ drop (length t) before) more;
        }

    -- all of them
    pub ran_value : i ≡ block_count f input (length before) → record { chip = state; records = i; written = at } ≡ block_of f input (length before) chip
    unfolding block_of
    ran_value e =
        let n = ran.next ∙ ap (λ (k : ℕ). chip_after f k input chip) e in
        let w = ran.end ∙ ap (λ (k : ℕ). length (text_after f k input chip)) e in
        λ j. record { chip = n j; records = e j; written = w j }

    pub ran_buffer : i ≡ block_count f input (length before) → out ≡ block_buffer f input before chip
    unfolding block_buffer
    ran_buffer e = ran.text ∙ ap (λ (k : ℕ). text_after f k input chip ++ drop (length (text_after f k input chip)) before) e
