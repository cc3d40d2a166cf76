-- Laws of a saved set: where each byte stands, how many there are, and that a set within its widths is read back from its bytes, whatever stands behind
-- them. Assumes nothing.
use Prim.Native.Nat.{ℕ, suc, ◌+◌, ◌^◌, ◌≤◌, ◌<◌}
use native.Mathlib.Nat.{mod-eq_of_lt}
use native.Mathlib.Omega.{arith}
use mathlib.Core.Path.{◌≡◌, refl, sym, ap, ap₂, ◌∙◌}
use mathlib.Core.Bool.{Bool, true, false}
use mathlib.Core.List.{List, [], ◌∷◌, ◌++◌, map, append_assoc, map-append}
use lib.Dec.{ltb}
use lib.ListN.{get_or-eq_default, drop, get_or, length, length-append, take}
use lib.Seq.{drop_at, drop-drop, take_at}
use borrow.Author.Tests.{ltb-false, ltb-true}
use Rattle.words.specs.Bytes.{byte_at, low_bytes, number}
use Rattle.words.specs.Word.{byte_of}
use Rattle.words.proofs.ByteLaws.{byte_past, low_at, low_below, low_length, number_low}
use Rattle.samples.specs.Layout.{counter_bytes, counter_widths}
use Rattle.samples.specs.Read.{gather}
use Rattle.samples.specs.Write.{within}
use Rattle.samples.proofs.Gather.{gather_spread}
use Rattle.samples.proofs.RoundTrip.{within_length}
use Rattle.samples.proofs.Spread.{at_add, at_before, below_append, spread_below, spread_length}
use Rattle.saved.specs.Saved.{saved_bytes, set_of}
use Rattle.saved.specs.declared.saved.Saved.{Saved}

-- bytes are their own low bytes
pub bytes_own : (bs : List ℕ) → ((i : ℕ) → get_or bs i 0 < 256) → map byte_of bs ≡ bs
bytes_own [] h = refl
bytes_own (b ∷ bs) h = ap₂ (λ (x : ℕ) (l : List ℕ). x ∷ l) (mod-eq_of_lt (h 0)) (bytes_own bs (λ i. h (suc i)))

-- ---- where each byte stands

module _ (s : Saved) (long : length s.values ≡ 16) where
  counters_length : length (counter_bytes s.values) ≡ 64
  unfolding counter_bytes
  counters_length = spread_length counter_widths s.values long

  pub saved_length : length (saved_bytes s) ≡ 88
  unfolding saved_bytes
  saved_length =
      let f = s.fields in
      length-append (counter_bytes s.values) _
      ∙ ap₂ (λ (a b : ℕ). a + b) counters_length
      (length-append (low_bytes 8 f.enable) _
      ∙ ap₂ (λ (a b : ℕ). a + b) (low_length 8 f.enable)
      (length-append (low_bytes 8 f.mode) _ ∙ ap₂ (λ (a b : ℕ). a + b) (low_length 8 f.mode) (low_length 8 f.select)))

  -- "bytes 0 to 63 the counters"
  pub at_counters : (i : ℕ) → i < 64 → get_or (saved_bytes s) i 0 ≡ get_or (counter_bytes s.values) i 0
  unfolding saved_bytes
  at_counters i h = at_before (counter_bytes s.values) _ 64 i counters_length h

  -- "64 to 71 Enable, 72 to 79 Mode, 80 to 87 Clock Select"
  pub at_enable : (i : ℕ) → i < 8 → get_or (saved_bytes s) (64 + i) 0 ≡ byte_at s.fields.enable i
  unfolding saved_bytes
  at_enable i h =
      at_add (counter_bytes s.values) _ 64 i counters_length
      ∙ at_before (low_bytes 8 s.fields.enable) _ 8 i (low_length 8 s.fields.enable) h
      ∙ low_at 8 s.fields.enable i h

  pub at_mode : (i : ℕ) → i < 8 → get_or (saved_bytes s) (72 + i) 0 ≡ byte_at s.fields.mode i
  unfolding saved_bytes
  at_mode i h =
      let place : 72 + i ≡ 64 + (8 + i) = omega arith in
      ap (λ (k : ℕ). get_or (saved_bytes s) k 0) place
      ∙ at_add (counter_bytes s.values) _ 64 (8 + i) counters_length
      ∙ at_add (low_bytes 8 s.fields.enable) _ 8 i (low_length 8 s.fields.enable)
      ∙ at_before (low_bytes 8 s.fields.mode) _ 8 i (low_length 8 s.fields.mode) h
      ∙ low_at 8 s.fields.mode i h

  pub at_select : (i : ℕ) → i < 8 → get_or (saved_bytes s) (80 + i) 0 ≡ byte_at s.fields.select i
  unfolding saved_bytes
  at_select i h =
      let place : 80 + i ≡ 64 + (8 + (8 + i)) = omega arith in
      ap (λ (k : ℕ). get_or (saved_bytes s) k 0) place
      ∙ at_add (counter_bytes s.values) _ 64 (8 + (8 + i)) counters_length
      ∙ at_add (low_bytes 8 s.fields.enable) _ 8 (8 + i) (low_length 8 s.fields.enable)
      ∙ at_add (low_bytes 8 s.fields.mode) _ 8 i (low_length 8 s.fields.mode)
      ∙ low_at 8 s.fields.select i h

  -- none is behind them; a register of eight bytes has no ninth
  pub at_end : s.fields.select < 2 ^ 64 → (i : ℕ) → get_or (saved_bytes s) (80 + i) 0 ≡ byte_at s.fields.select i
  at_end h i = go (ltb i 8) refl
    where
      go : (t : Bool) → ltb i 8 ≡ t → get_or (saved_bytes s) (80 + i) 0 ≡ byte_at s.fields.select i
      go true e = at_select i (ltb-true i 8 e)
      go false e =
          let past : 8 ≤ i = ltb-false i 8 e in
          get_or-eq_default (saved_bytes s) 0 (omega (arith, saved_length, past)) ∙ sym (byte_past 8 s.fields.select i h past)

-- ---- read back

-- the number of the first eight bytes
eight : (x : ℕ) (rest : List ℕ) → x < 2 ^ 64 → number (take 8 (low_bytes 8 x ++ rest)) ≡ x
eight x rest h = ap number (take_at (low_bytes 8 x) rest 8 (low_length 8 x)) ∙ number_low 8 x ∙ mod-eq_of_lt h

behind : (x : ℕ) (rest : List ℕ) → drop 8 (low_bytes 8 x ++ rest) ≡ rest
behind x rest = drop_at (low_bytes 8 x) rest 8 (low_length 8 x)

-- what the types give a set: "counters 0 to 15", 32 bits each, and three registers of 64
abbrev pub Fits : Saved → Type 0
Fits s =
    record {
      values : within counter_widths s.values ≡ true;
      enable : s.fields.enable < 2 ^ 64;
      mode : s.fields.mode < 2 ^ 64;
      select : s.fields.select < 2 ^ 64;
    }

-- "Giving back a saved set makes the counters and their three control registers hold what was saved": the bytes give the set back
pub set_saved : (s : Saved) (rest : List ℕ) → Fits s → set_of (saved_bytes s ++ rest) ≡ s
unfolding set_of saved_bytes counter_bytes
set_saved s rest h =
    let f = s.fields in
    let long : length s.values ≡ 16 = within_length counter_widths s.values h.values in
    let C = counter_bytes s.values in
    let E = low_bytes 8 f.enable in
    let M = low_bytes 8 f.mode in
    let S = low_bytes 8 f.select in
    let R = map byte_of rest in
    let all = C ++ (E ++ (M ++ (S ++ R))) in
    let own : map byte_of (saved_bytes s ++ rest) ≡ all =
    map-append byte_of (saved_bytes s) rest
    ∙ ap (λ (l : List ℕ). l ++ R) (bytes_own (saved_bytes s) (below_append C (E ++ (M ++ S)) (spread_below counter_widths s.values) (below_append E (M ++ S) (low_below 8 f.enable) (below_append M S (low_below 8 f.mode) (low_below 8 f.select)))))
    ∙ append_assoc C (E ++ (M ++ S)) R
    ∙ ap (λ (l : List ℕ). C ++ l) (append_assoc E (M ++ S) R ∙ ap (λ (l : List ℕ). E ++ l) (append_assoc M S R)) in
    let at64 : drop 64 all ≡ E ++ (M ++ (S ++ R)) = drop_at C (E ++ (M ++ (S ++ R))) 64 (counters_length s long) in
    let at72 : drop 72 all ≡ M ++ (S ++ R) = sym (drop-drop 8 64 all) ∙ ap (drop 8) at64 ∙ behind f.enable (M ++ (S ++ R)) in
    let at80 : drop 80 all ≡ S ++ R = sym (drop-drop 8 72 all) ∙ ap (drop 8) at72 ∙ behind f.mode (S ++ R) in
    let enable : number (take 8 (drop 64 (map byte_of (saved_bytes s ++ rest)))) ≡ f.enable =
    ap (λ (l : List ℕ). number (take 8 (drop 64 l))) own ∙ ap (λ (l : List ℕ). number (take 8 l)) at64 ∙ eight f.enable _ h.enable in
    let mode : number (take 8 (drop 72 (map byte_of (saved_bytes s ++ rest)))) ≡ f.mode =
    ap (λ (l : List ℕ). number (take 8 (drop 72 l))) own ∙ ap (λ (l : List ℕ). number (take 8 l)) at72 ∙ eight f.mode _ h.mode in
    let select : number (take 8 (drop 80 (map byte_of (saved_bytes s ++ rest)))) ≡ f.select =
    ap (λ (l : List ℕ). number (take 8 (drop 80 l))) own ∙ ap (λ (l : List ℕ). number (take 8 l)) at80 ∙ eight f.select _ h.select in
    let values : gather counter_widths (map byte_of (saved_bytes s ++ rest)) ≡ s.values =
    ap (gather counter_widths) own ∙ gather_spread counter_widths s.values (E ++ (M ++ (S ++ R))) h.values in
    λ i. record { fields = record { enable = enable i; mode = mode i; select = select i }; values = values i }
