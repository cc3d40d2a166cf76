-- Laws of a turn: what is due and what waits of the first bytes of a buffer, and that a turn keeps what holds after every turn, since an
-- input that comes in reads is answered as the whole (`read_chip`, `read_text`). For every format; assumes nothing.
use Prim.Native.Nat.{ℕ, ◌+◌, ◌-◌, ◌*◌, ◌/◌, ◌≤◌, ◌<◌}
use native.Mathlib.Omega.{arith}
use mathlib.Core.Path.{◌≡◌, refl, sym, ap, ap₂, ◌∙◌}
use mathlib.Core.Bool.{Bool, true, false}
use mathlib.Core.List.{List, [], ◌++◌}
use lib.ListN.{drop, length, take, take-append-drop}
use lib.Seq.{drop_at, drop-length, length-take-le, take-add, take-take}
use Rattle.std.proofs.Math.Nat.{div-eq_of_lt, mul-div-le, mul-zero}
use Rattle.std.proofs.Math.Seq.{take-nil}
use Rattle.std.proofs.Common.{Result, Ok, Err, OnErr}
use Rattle.std.proofs.Math.Dec.{eqb}
use Rattle.std.proofs.lemmas.Bool.{eqb-true}
use Rattle.turns.specs.Form.{Form}
use Rattle.turns.specs.Run.{due, due_size, input_chip, input_text, part, whole, whole_size}
use Rattle.turns.specs.Turn.{bytes_of, Served, Stopped, Turned}
use Rattle.turns.specs.declared.serve.Turn.{Turn}
use Rattle.turns.proofs.RunLaws.{no_chip, no_text, part_more, read_chip, read_text}

-- what has come behind the held bytes is nothing where no more than those is there
pub nothing_came : (held after : ℕ) (m : List ℕ) → after ≤ length m → after ≡ held → drop held (take after m) ≡ []
nothing_came held after m h e =
    ap (λ (n : ℕ). drop n (take after m)) (sym e ∙ sym (length-take-le after m h)) ∙ drop-length (take after m)

pub on_err : {T E P : Type 0} (r : Result T E) → P → OnErr r P
on_err (Ok x) p = tt
on_err (Err e) p = p

module _ {C : Type 0} (f : Form C) where
  whole_le : (size : ℕ) → whole_size f size ≤ size
  whole_le size = mul-div-le size f.size

  pub due_le : (ended : Bool) (size : ℕ) → due_size f ended size ≤ size
  due_le true size = omega arith
  due_le false size = whole_le size

  module _ (size : ℕ) (l : List ℕ) (h : size ≤ length l) where
    pub due_take : (ended : Bool) → take (due_size f ended size) l ≡ due f ended (take size l)
    unfolding due
    due_take ended =
        sym (take-take (due_size f ended size) size l (due_le ended size))
        ∙ ap (λ (n : ℕ). take (due_size f ended n) (take size l)) (sym (length-take-le size l h))

    part_take : part f (take size l) ≡ take (size - whole_size f size) (drop (whole_size f size) l)
    unfolding part
    part_take =
        let w = whole_size f size in
        let below = whole_le size in
        let sum : size ≡ w + (size - w) = omega arith in
        ap₂ (λ (n m : ℕ). drop (whole_size f n) (take m l)) (length-take-le size l h) sum
        ∙ ap (drop w) (take-add w (size - w) l)
        ∙ drop_at (take w l) (take (size - w) (drop w l)) w (length-take-le w l (omega arith))

    -- what was moved to the front, and not touched by the read, is the part that waited
    pub bytes_turn : (held after : ℕ) (kept m : List ℕ) → held ≡ size - whole_size f size → take held kept ≡ take held (drop (whole_size f size) l) → held ≤ after → take held m ≡ take held kept → take after m ≡ part f (take size l) ++ drop held (take after m)
    bytes_turn held after kept m e moved longer same =
        sym (take-append-drop held (take after m))
        ∙ ap (λ (front : List ℕ). front ++ drop held (take after m))
        (take-take held after m longer ∙ same ∙ moved ∙ ap (λ (n : ℕ). take n (drop (whole_size f size) l)) e ∙ sym part_take)

  -- a turn, from what its steps left: the part that waited was moved to the front, and the read touched only what stands behind it
  module _ {before : Turn C} {held : ℕ} {input₀ input text : List ℕ} (kept : List ℕ) (h : before.size ≤ length input₀) (e : held ≡ before.size - whole_size f before.size) (moved : take held kept ≡ take held (drop (whole_size f before.size) input₀)) (same : take held input ≡ take held kept) where
    pub turned : {size written : ℕ} {chip : C} → held ≤ size → size ≤ length input → chip ≡ input_chip f (due f (eqb size held) (take size input)) before.chip → take written text ≡ input_text f (due f (eqb size held) (take size input)) before.chip → written ≤ length text → Turned f before (record { chip = chip; size = size; written = length (take written text); ended = eqb size held }) input₀ input text
    turned {size} {written} longer fits chip answers shown =
        record {
          came = drop held (take size input);
          fits = fits;
          bytes = bytes_turn before.size input₀ h held size kept input e moved longer same;
          last = λ end. nothing_came held size input fits (eqb-true size held end);
          chip = chip;
          answers = ap (λ (n : ℕ). take n text) (length-take-le written text shown) ∙ answers;
        }

    -- where the read failed
    pub stopped : 0 < f.size → held < f.size → held ≤ length input → Stopped f before input₀ input text
    unfolding due
    stopped positive less fits =
        let none : due f false (take held input) ≡ [] = ap (λ (n : ℕ). take n (take held input)) (ap (λ (n : ℕ). f.size * (n / f.size)) (length-take-le held input fits) ∙ ap (λ (n : ℕ). f.size * n) (div-eq_of_lt less) ∙ mul-zero f.size) in
        record {
          after = record { chip = before.chip; size = held; written = 0; ended = false };
          turned = record {
            came = [];
            fits = fits;
            bytes = bytes_turn before.size input₀ h held held kept input e moved (omega arith) same ∙ ap (λ (l : List ℕ). part f (take before.size input₀) ++ l) (nothing_came held held input fits refl);
            last = λ ended. refl;
            chip = sym (ap (λ (l : List ℕ). input_chip f l before.chip) none ∙ no_chip f positive before.chip);
            answers = sym (ap (λ (l : List ℕ). input_text f l before.chip) none ∙ no_text f positive before.chip);
          };
        }

  -- before the first turn nothing has come
  module _ (positive : 0 < f.size) where
    pub served_start : (fresh : C) (turn : Turn C) (input text : List ℕ) → turn.size ≡ 0 → turn.written ≡ 0 → turn.ended ≡ false → turn.chip ≡ fresh → Served f fresh turn input text
    unfolding due whole
    served_start fresh turn input text size written ended chip =
        let none : (e : Bool) → due f e [] ≡ [] = λ e. take-nil (due_size f e 0) in
        let empty : input_text f [] fresh ≡ [] = no_text f positive fresh in
        record {
          earlier = [];
          came = [];
          fits = omega arith;
          waiting = ap (λ (n : ℕ). part f (take n input)) size;
          chip = chip ∙ sym (ap (λ (l : List ℕ). input_chip f l fresh) (none turn.ended) ∙ no_chip f positive fresh);
          answers = ap (λ (l : List ℕ). input_text f l fresh) (none turn.ended) ∙ empty ∙ sym (ap₂ ◌++◌ (ap (λ (l : List ℕ). input_text f l fresh) (take-nil (whole_size f 0)) ∙ empty) (ap (λ (n : ℕ). take n text) written));
        }

    whole_due : (bytes : List ℕ) → due f false bytes ≡ whole f bytes
    unfolding due whole
    whole_due bytes = refl

    pub served_turn : {fresh : C} {turn next : Turn C} {input₀ input text₀ text : List ℕ} → Served f fresh turn input₀ text₀ → turn.ended ≡ false → Turned f turn next input₀ input text → Served f fresh next input text
    served_turn {fresh} {turn} {next} {input₀} {input} {text₀} {text} s ended t =
        let seen = s.earlier ++ s.came in
        let bytes : bytes_of next input ≡ part f seen ++ t.came = t.bytes ∙ ap (λ (l : List ℕ). l ++ t.came) s.waiting in
        let chip : turn.chip ≡ input_chip f (whole f seen) fresh = s.chip ∙ ap (λ (e : Bool). input_chip f (due f e seen) fresh) ended ∙ ap (λ (l : List ℕ). input_chip f l fresh) (whole_due seen) in
        record {
          earlier = seen;
          came = t.came;
          fits = t.fits;
          waiting = ap (part f) bytes ∙ sym (part_more f positive seen t.came);
          chip = t.chip ∙ ap₂ (λ (l : List ℕ) (c : C). input_chip f (due f next.ended l) c) bytes chip ∙ sym (read_chip f positive seen t.came next.ended fresh);
          answers = read_text f positive seen t.came next.ended fresh ∙ ap (λ (l : List ℕ). input_text f (whole f seen) fresh ++ l) (sym (t.answers ∙ ap₂ (λ (l : List ℕ) (c : C). input_text f (due f next.ended l) c) bytes chip));
        }
