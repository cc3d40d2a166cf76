-- Laws of words in decimal and of a line with words. Assumes nothing.
use Prim.Native.Nat.{ℕ, zero, suc, ◌+◌, ◌-◌, ◌/◌, ◌%◌, ◌^◌, ◌≤◌, ◌<◌}
use native.Mathlib.Nat.{pow-suc, add_comm, zero-lt-suc, mod-lt}
use native.Mathlib.Numerals.{add-one}
use native.Mathlib.Omega.{arith}
use mathlib.Core.Path.{◌≡◌, refl, sym, ap, ap₂, ◌∙◌}
use mathlib.Core.Bool.{Bool, true, false, cond}
use mathlib.Core.List.{List, [], ◌∷◌, ◌++◌, append_assoc, append-nil}
use lib.Dec.{ltb}
use lib.ListN.{get_or, length, set, take, length-append}
use lib.Seq.{sets, set-set, take-suc}
use borrow.Author.Tests.{lt-ltb, ltb-false, ltb-true}
use Rattle.words.proofs.PutLaws.{sets_append}
use Rattle.io.specs.Digits.{last_digits}
use Rattle.script.specs.Line.{answer_line, decimal, width_of}
use Rattle.script.proofs.LineLaws.{decimal_bound, width_more, width_one}
use Rattle.script2.specs.Line.{spaced, words_line}

-- a search that is long enough finds the same width when it is longer
width_enough : (f x : ℕ) → x < 10 ^ suc f → width_of (suc f) x ≡ width_of f x
width_enough zero x h = width_one 1 x h ∙ sym (width_one 0 x h)
width_enough (suc f) x h = go (ltb x 10) refl (width_enough f (x / 10) (omega (arith, pow-suc 10 (suc f))))
  where
    go : (b : Bool) → ltb x 10 ≡ b → width_of (suc f) (x / 10) ≡ width_of f (x / 10) → width_of (suc (suc f)) x ≡ width_of (suc f) x
    go true e r =
        let small = ltb-true x 10 e in
        width_one (suc (suc f)) x small ∙ sym (width_one (suc f) x small)
    go false e r =
        let large = ltb-false x 10 e in
        width_more (suc f) x large ∙ ap suc r ∙ sym (width_more f x large)

-- one digit more behind
decimal_more : (n : ℕ) → 10 ≤ n → n < 2 ^ 64 → decimal n ≡ decimal (n / 10) ++ ((n % 10 + 48) ∷ [])
unfolding decimal
decimal_more n l h =
    ap (λ (k : ℕ). last_digits 10 k n) (width_more 18 n l ∙ ap suc (sym (width_enough 18 (n / 10) (omega arith))))
    ∙ ap (λ (d : ℕ). last_digits 10 (width_of 19 (n / 10)) (n / 10) ++ (d ∷ []))
    (ap (λ (b : Bool). cond b (48 + n % 10) (87 + n % 10)) (lt-ltb (n % 10) 10 (mod-lt n (zero-lt-suc 9))) ∙ add_comm 48 (n % 10))

-- a word above three digits: the number without its last two, and these
module _ (n : ℕ) (l : List ℕ) (at : ℕ) (large : 1000 ≤ n) (small : n < 2 ^ 16) {end : ℕ} {out : List ℕ} (e : end ≡ at + length (decimal (n / 100))) (o : out ≡ sets l at (decimal (n / 100))) where
  abbrev two : List ℕ
  two = (n / 10 % 10 + 48) ∷ (n % 10 + 48) ∷ []

  split : decimal n ≡ decimal (n / 100) ++ two
  split =
      let tenth : n / 10 / 10 ≡ n / 100 = omega arith in
      decimal_more n (omega arith) (omega arith)
      ∙ ap (λ (d : List ℕ). d ++ ((n % 10 + 48) ∷ [])) (decimal_more (n / 10) (omega arith) (omega arith) ∙ ap (λ (m : ℕ). decimal m ++ ((n / 10 % 10 + 48) ∷ [])) tenth)
      ∙ append_assoc (decimal (n / 100)) ((n / 10 % 10 + 48) ∷ []) ((n % 10 + 48) ∷ [])

  pub word_end : end + 2 ≡ at + length (decimal n)
  word_end = omega (arith, ap length split, length-append (decimal (n / 100)) two)

  pub word_text : set (set out end (n / 10 % 10 + 48)) (end + 1) (n % 10 + 48) ≡ sets l at (decimal n)
  word_text =
      ap (λ (k : ℕ). set (set out end (n / 10 % 10 + 48)) k (n % 10 + 48)) (add-one end)
      ∙ ap₂ (λ (m : List ℕ) (k : ℕ). sets m k two) o e
      ∙ sym (sets_append l (decimal (n / 100)) two at)
      ∙ ap (sets l at) (sym split)

-- one word more
spaced_more : (ws : List ℕ) (w : ℕ) → spaced (ws ++ (w ∷ [])) ≡ spaced ws ++ (32 ∷ decimal w)
unfolding spaced
spaced_more [] w = ap (λ (t : List ℕ). 32 ∷ t) (append-nil (decimal w))
spaced_more (x ∷ ws) w = ap (λ (t : List ℕ). 32 ∷ decimal x ++ t) (spaced_more ws w) ∙ sym (append_assoc (32 ∷ decimal x) (spaced ws) (32 ∷ decimal w))

module _ (words out₀ : List ℕ) (at i : ℕ) (here : i < length words) {end : ℕ} {out : List ℕ} (e : end ≡ at + length (spaced (take i words))) (o : out ≡ sets out₀ at (spaced (take i words))) where
  abbrev word : List ℕ
  word = 32 ∷ decimal (get_or words i 0)

  spaced_next : spaced (take (i + 1) words) ≡ spaced (take i words) ++ word
  spaced_next = rw add-one (ap spaced (take-suc words i 0 here) ∙ spaced_more (take i words) (get_or words i 0))

  pub words_end : {next : ℕ} → next ≡ end + 1 + length (decimal (get_or words i 0)) → next ≡ at + length (spaced (take (i + 1) words))
  words_end n = omega (arith, ap length spaced_next, length-append (spaced (take i words)) word)

  pub words_text : sets (set out end 32) (end + 1) (decimal (get_or words i 0)) ≡ sets out₀ at (spaced (take (i + 1) words))
  words_text =
      ap (λ (k : ℕ). sets (set out end 32) k (decimal (get_or words i 0))) (add-one end)
      ∙ ap₂ (λ (m : List ℕ) (k : ℕ). sets m k word) o e
      ∙ sym (sets_append out₀ (spaced (take i words)) word at)
      ∙ ap (sets out₀ at) (sym spaced_next)

-- with no words it is document 01's line
pub plain_line : (number value : ℕ) → answer_line number value ≡ words_line number value []
unfolding answer_line spaced words_line
plain_line number value = refl

-- a run over the last place of the run before
over : (l first tail : List ℕ) (x at : ℕ) → 1 ≤ length tail → sets (sets l at (first ++ (x ∷ []))) (at + length first) tail ≡ sets l at (first ++ tail)
over l first [] x at h = absurd (omega arith)
over l first (y ∷ tail) x at h =
    let m = sets l at first in
    let k = at + length first in
    ap (λ (o : List ℕ). sets (set o k y) (suc k) tail) (sets_append l first (x ∷ []) at)
    ∙ ap (λ (o : List ℕ). sets o (suc k) tail) (set-set m k x y)
    ∙ sym (sets_append l first (y ∷ tail) at)

-- a line is its reply and value, and then its words and the newline
module _ (number value : ℕ) where
  abbrev front : List ℕ
  front = decimal number ++ (32 ∷ decimal value)

  abbrev pub behind : List ℕ → List ℕ
  behind words = spaced words ++ (10 ∷ [])

  fronted : (words : List ℕ) → words_line number value words ≡ front ++ behind words
  unfolding words_line
  fronted words = sym (append_assoc (decimal number) (32 ∷ decimal value) (behind words))

  line_length : (words : List ℕ) → length (words_line number value words) ≡ length front + length (behind words)
  line_length words = ap length (fronted words) ∙ length-append front (behind words)

  none : length (behind []) ≡ 1
  unfolding spaced
  none = refl

  pub plain_some : 1 ≤ length (words_line number value [])
  plain_some = omega (arith, line_length [], none)

  pub plain_bound : length (words_line number value []) ≤ 42
  plain_bound = omega (arith, line_length [], none, length-append (decimal number) (32 ∷ decimal value), decimal_bound number, decimal_bound value)

  module _ (words l : List ℕ) (at : ℕ) {end : ℕ} (e : end ≡ at + length (words_line number value [])) where
    pub sent_end : {next : ℕ} → next ≡ end - 1 + length (behind words) → next ≡ at + length (words_line number value words)
    sent_end n = omega (arith, line_length [], none, line_length words)

    pub sent_text : {out : List ℕ} → out ≡ sets l at (words_line number value []) → sets out (end - 1) (behind words) ≡ sets l at (words_line number value words)
    unfolding spaced
    sent_text o =
        let place : end - 1 ≡ at + length front = omega (arith, line_length [], none) in
        ap₂ (λ (m : List ℕ) (k : ℕ). sets m k (behind words)) (o ∙ ap (sets l at) (fronted [])) place
        ∙ over l front (behind words) 10 at (omega (arith, length-append (spaced words) (10 ∷ [])))
        ∙ ap (sets l at) (sym (fronted words))
