-- Runs of numbers that are put into a buffer one behind the other, in either order; runs of words, and the end mark on the last. Assumes
-- nothing.
use Prim.Native.Nat.{ℕ, zero, suc, ◌+◌, ◌<◌, ◌≤◌}
use native.Mathlib.Nat.{add-zero, zero-add, add-suc, suc-add, lt_irrefl}
use native.Mathlib.Omega.{arith}
use mathlib.Core.Path.{◌≡◌, refl, sym, ap, ap₂, ◌∙◌, subst}
use mathlib.Core.Bool.{false}
use mathlib.Core.List.{List, [], ◌∷◌, ◌++◌, map}
use lib.ListN.{length, get_or, drop, set, length-map, get_or-append}
use lib.Seq.{sets, sets-eq, set_comm}
use Rattle.words.specs.Word.{word_of, words_of}
use Rattle.words.proofs.WordLaws.{parity_bit}

-- the words of some bytes, none marked
abbrev pub plain : List ℕ → List ℕ
plain = map (word_of false)

-- a store before a run may as well come first
pub set_sets : (l vs : List ℕ) (i j v : ℕ) → j < i → set (sets l i vs) j v ≡ sets (set l j v) i vs
set_sets l [] i j v h = refl
set_sets l (a ∷ vs) i j v h =
    set_sets (set l i a) vs (suc i) j v (omega arith)
    ∙ ap (λ (m : List ℕ). sets m (suc i) vs) (set_comm l i j a v (λ q. lt_irrefl j (subst (λ (k : ℕ). j < k) q h)))

-- two runs, the second behind the first
pub sets_append : (l a b : List ℕ) (i : ℕ) → sets l i (a ++ b) ≡ sets (sets l i a) (i + length a) b
sets_append l [] b i = ap (λ (k : ℕ). sets l k b) (sym (add-zero i))
sets_append l (x ∷ a) b i =
    sets_append (set l i x) a b (suc i)
    ∙ ap (λ (k : ℕ). sets (sets (set l i x) (suc i) a) k b) (suc-add i (length a) ∙ sym (add-suc i (length a)))

-- and put in the other order
pub sets_before : (l a b : List ℕ) (i k : ℕ) → i + length a ≡ k → sets (sets l k b) i a ≡ sets l i (a ++ b)
sets_before l [] b i k e = ap (λ (j : ℕ). sets l j b) (sym e ∙ add-zero i)
sets_before l (x ∷ a) b i k e =
    ap (λ (m : List ℕ). sets m (suc i) a) (set_sets l b k i x (omega arith))
    ∙ sets_before (set l i x) a b (suc i) k (omega arith)

-- unmarked words, of which the last then gets its mark, are a sample's words
mark_last : (b : ℕ) (bs rest : List ℕ) → set (plain (b ∷ bs) ++ rest) (length bs) (get_or (plain (b ∷ bs) ++ rest) (length bs) 0 + 512) ≡ words_of (b ∷ bs) ++ rest
unfolding words_of word_of
mark_last b [] rest = ap (λ (w : ℕ). w ∷ rest) (omega arith)
mark_last b (c ∷ bs) rest = ap (λ (ws : List ℕ). word_of false b ∷ ws) (mark_last c bs rest)

-- at the start of a buffer that has room for them
put_start : (vs out : List ℕ) (n : ℕ) → length vs ≡ n → n ≤ length out → sets out 0 vs ≡ vs ++ drop n out
put_start vs out n e h = sets-eq vs out 0 (omega arith) ∙ ap (λ (k : ℕ). vs ++ drop k out) (zero-add (length vs) ∙ e)

-- an unmarked word leaves room for the mark
plain_small : (bs : List ℕ) → ((i : ℕ) → get_or bs i 0 < 256) → (i : ℕ) → get_or (plain bs) i 0 < 512
unfolding word_of
plain_small [] h i = omega arith
plain_small (b ∷ bs) h zero = omega (arith, parity_bit b, h zero)
plain_small (b ∷ bs) h (suc i) = plain_small bs (λ j. h (suc j)) i

pub put_small : (bs out : List ℕ) (n i : ℕ) → ((j : ℕ) → get_or bs j 0 < 256) → length bs ≡ n → i < n → n ≤ length out → get_or (sets out 0 (plain bs)) i 0 < 512
put_small bs out n i b e h k =
    let long : length (plain bs) ≡ n = length-map bs (word_of false) ∙ e in
    rw (put_start (plain bs) out n long k, get_or-append (plain bs) (drop n out) 0 i (omega arith)) (plain_small bs b i)

-- with it they are a sample's words
pub mark_put : (bs out : List ℕ) (n last : ℕ) → length bs ≡ n → n ≡ suc last → n ≤ length out → set (sets out 0 (plain bs)) last (get_or (sets out 0 (plain bs)) last 0 + 512) ≡ words_of bs ++ drop n out
mark_put [] out n last e s h = absurd (lt_irrefl 0 (omega arith))
mark_put (b ∷ bs) out n last e s h =
    let put = put_start (plain (b ∷ bs)) out n (length-map (b ∷ bs) (word_of false) ∙ e) h in
    let end : last ≡ length bs = omega arith in
    ap₂ (λ (l : List ℕ) (k : ℕ). set l k (get_or l k 0 + 512)) put end ∙ mark_last b bs (drop n out)
