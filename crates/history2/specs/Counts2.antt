-- Document 02, Wish 9: "a counter is its last written number plus events since, modulo 2^32 or 2^64 for a pair". The sixteen counters of the MultiKron II as
-- a list of operations tells of them: unbounded numbers, and the codes of document 001, Tables B5 to B7, as numbers. Quotations are of Wish 9 where nothing else
-- is named; "DECISIONS" is docs/DECISIONS.md, "The MultiKron II".
use Rattle.std.specs.Prelude.{ℕ, suc, ◌+◌, ◌-◌, ◌*◌, ◌/◌, ◌%◌, ◌^◌, ◌≡◌, Bool, true, false, cond, ◌&&◌, ◌||◌, List, [], ◌∷◌, eqb, leb, get_or}
use Rattle.history.specs.Ledger.{each_from, is_set}

-- ---- what is kept

-- document 001: "16 4-bit fields, one for each of the 16 Resource Counters": a counter's fields of Enable, Mode and Clock Select, as they are held
pub record Control2 : Type 0 where
  pub enable : ℕ
  pub mode : ℕ
  pub select : ℕ

-- "its last written number plus events since": both
pub record Tally : Type 0 where
  pub written : ℕ
  pub events : ℕ

-- "odd and even counters can pair to 64 bits": an even counter and the odd one above it, each by itself, or the two as one number
pub data Count : Type 0 where
  apart : Tally → Tally → Count
  joined : Tally → Count

abbrev pub is_joined : Count → Bool
is_joined (apart a b) = false
is_joined (joined t) = true

-- the tables' "** default setting": disabled, external and single, Timestamp clock; and a number just written
abbrev pub no_control : Control2
no_control = record { enable = 1; mode = 4; select = 4 }

abbrev pub anew : ℕ → Tally
anew n = record { written = n; events = 0 }

abbrev pub no_count : Count
no_count = apart (anew 0) (anew 0)

-- ---- what the counters hold

abbrev pub total_in : Tally → ℕ
total_in t = t.written + t.events

-- "modulo 2^32 or 2^64 for a pair"; DECISIONS: "The even one is the low half"
abbrev pub low_of : Count → ℕ
low_of (apart a b) = total_in a % 2 ^ 32
low_of (joined t) = total_in t % 2 ^ 32

abbrev pub high_of : Count → ℕ
high_of (apart a b) = total_in b % 2 ^ 32
high_of (joined t) = total_in t / 2 ^ 32 % 2 ^ 32

-- both halves as one number
abbrev pub both_of : Count → ℕ
both_of c = low_of c + 2 ^ 32 * high_of c

-- Wish 9's sentence, of the numbers that an even counter and the odd one above it hold
abbrev pub Holding : Count → ℕ → ℕ → Type 0
Holding (apart a b) even odd = (even ≡ (a.written + a.events) % 2 ^ 32) × (odd ≡ (b.written + b.events) % 2 ^ 32)
Holding (joined t) even odd = even + 2 ^ 32 * odd ≡ (t.written + t.events) % 2 ^ 64

-- counters 0, 1, 2 and so on
unfoldable pub flat : List Count → List ℕ
flat [] = []
flat (c ∷ cs) = low_of c ∷ high_of c ∷ flat cs

-- ---- writings

-- a number written to one half: "a write .. that reaches one half of a pair only" counts "as writing what both halves then hold"
abbrev pub put_low : ℕ → Count → Count
put_low x (apart a b) = apart (anew x) b
put_low x (joined t) = joined (anew (x + 2 ^ 32 * high_of (joined t)))

abbrev pub put_high : ℕ → Count → Count
put_high x (apart a b) = apart a (anew x)
put_high x (joined t) = joined (anew (low_of (joined t) + 2 ^ 32 * x))

-- a number written to each counter that a test names, the even one before the odd one; count j has counters 2j and 2j + 1
abbrev pub put_where : (ℕ → Bool) → ℕ → ℕ → Count → Count
put_where f x j c =
    let low = cond (f (2 * j)) (put_low x c) c in
    cond (f (suc (2 * j))) (put_high x low) low

-- "a change of pairing" counts "as writing what both halves then hold"; what is paired stays so, and what isn't
abbrev pub paired : Bool → Count → Count
paired true (apart a b) = joined (anew (both_of (apart a b)))
paired true (joined t) = joined t
paired false (apart a b) = apart a b
paired false (joined t) = apart (anew (low_of (joined t))) (anew (high_of (joined t)))

-- ---- fields

-- DECISIONS: "field i in bits 4i to 4i + 3"
abbrev pub field_in : ℕ → ℕ → ℕ
field_in bits i = bits / 16 ^ i % 16

-- "a zero field changing nothing"; DECISIONS: "a field whose low two bits are 00 changes nothing" (Enable), "a field whose low three bits are 000" (Mode, Clock
-- Select); "any other is held as written"
abbrev pub holding : ℕ → ℕ → ℕ → ℕ
holding low old new = cond (eqb (new % low) 0) old new

abbrev pub enabling : ℕ → ℕ → Control2 → Control2
enabling bits i k = record { enable = holding 4 k.enable (field_in bits i); mode = k.mode; select = k.select }

abbrev pub moding : ℕ → ℕ → Control2 → Control2
moding bits i k = record { enable = k.enable; mode = holding 8 k.mode (field_in bits i); select = k.select }

abbrev pub selecting : ℕ → ℕ → Control2 → Control2
selecting bits i k = record { enable = k.enable; mode = k.mode; select = holding 8 k.select (field_in bits i) }

-- a register whose field i is what g says of counter i
unfoldable pub packed : (Control2 → ℕ) → List Control2 → ℕ
packed g [] = 0
packed g (k ∷ ks) = g k % 16 + 16 * packed g ks

-- DECISIONS: "11 enabled and the counter set to 0"; "bit 3 of an even counter's Mode field pairs it with the odd one above it"
abbrev pub restarts : ℕ → ℕ → Bool
restarts bits i = eqb (field_in bits i % 4) 3

abbrev pub pairs : List Control2 → ℕ → Bool
pairs ks j = leb 8 (get_or ks (2 * j) no_control).mode

-- ---- events

-- Table B7, by Enable's low two bits; DECISIONS: "low bits 01 disabled, 10 enabled, 11 enabled and the counter set to 0 as it is written"
abbrev pub is_on : Control2 → Bool
is_on k = leb 2 (k.enable % 4)

-- Table B5, by Mode's low three bits: 0 nothing, 1 clock, 2 software, 3 clock while the line is high, 4 external; DECISIONS: "1, 5 clock · 2, 6 software · 3, 7
-- clock while its external line is high · 4 external"
abbrev pub modes : List ℕ
modes = 0 ∷ 1 ∷ 2 ∷ 3 ∷ 4 ∷ 1 ∷ 2 ∷ 3 ∷ []

abbrev pub mode_of : Control2 → ℕ
mode_of k = get_or modes (k.mode % 8) 0

-- Table B6, by Clock Select's: 0 nothing, 1 node, 2 a tenth, 3 a hundredth, 4 Timestamp; DECISIONS: "1, 5 node · 2, 6 a tenth of node · 3, 7 a hundredth · 4
-- Timestamp"
abbrev pub clocks : List ℕ
clocks = 0 ∷ 1 ∷ 2 ∷ 3 ∷ 4 ∷ 1 ∷ 2 ∷ 3 ∷ []

abbrev pub clock_of : Control2 → ℕ
clock_of k = get_or clocks (k.select % 8) 0

-- the ticks of each clock, in that order: of k Timestamp ticks, and of k node ticks after n. DECISIONS: "A tenth falls on every tenth node tick since the last
-- reset, a hundredth likewise"
abbrev pub stamp_ticks : ℕ → List ℕ
stamp_ticks k = 0 ∷ 0 ∷ 0 ∷ 0 ∷ k ∷ []

abbrev pub node_ticks : ℕ → ℕ → List ℕ
node_ticks n k = 0 ∷ k ∷ ((n + k) / 10 - n / 10) ∷ ((n + k) / 100 - n / 100) ∷ 0 ∷ []

-- DECISIONS: "An event counts if the counter is enabled and its fields select it": how many are due to counter i by its fields, of ticks with the external lines
-- that are high, of external events, and of a software event for counter n
abbrev pub due_ticks : List ℕ → ℕ → ℕ → Control2 → ℕ
due_ticks ticks levels i k =
    cond (is_on k && (eqb (mode_of k) 1 || (eqb (mode_of k) 3 && is_set levels i))) (get_or ticks (clock_of k) 0) 0

abbrev pub due_external : ℕ → ℕ → Control2 → ℕ
due_external mask i k = cond (is_on k && (eqb (mode_of k) 4 && is_set mask i)) 1 0

abbrev pub due_software : ℕ → ℕ → Control2 → ℕ
due_software n i k = cond (eqb i n && (is_on k && eqb (mode_of k) 2)) 1 0

abbrev pub more : ℕ → Tally → Tally
more n t = record { written = t.written; events = t.events + n }

-- n events due by the even counter's fields and m by the odd one's; DECISIONS: "A pair counts what the even one's fields and enabling say ..; the odd one's fields
-- and events count nothing while paired"
abbrev pub grown_by : ℕ → ℕ → Count → Count
grown_by n m (apart a b) = apart (more n a) (more m b)
grown_by n m (joined t) = joined (more n t)

-- what is due to counter i by the fields held, and all counters after it
abbrev pub due_to : (ℕ → Control2 → ℕ) → List Control2 → ℕ → ℕ
due_to due ks i = due i (get_or ks i no_control)

abbrev pub counted : (ℕ → Control2 → ℕ) → List Control2 → List Count → List Count
counted due ks cs = each_from 0 (λ j c. grown_by (due_to due ks (2 * j)) (due_to due ks (suc (2 * j))) c) cs
