-- Laws of the clocks: the ticks of some and then more are those of all of them, and of none none, whichever clock a code selects. Assumes,
-- where said, a phase below 100.
use Rattle.std.proofs.Common.{◌≡◌, ℕ, ◌+◌, ◌/◌, ◌%◌, ◌<◌, sym, refl, ap, ◌∙◌, add_assoc, arith}
use Rattle.std.proofs.lemmas.Bool.Decides.{nat_tests}
use Rattle.counters.proofs.TickLaws.{events_sum}
use Rattle.counters2.specs.Clocks.{node_clocks, phase_after, selected, stamp_clocks}
use Rattle.counters2.specs.Counts.{own_ticks, select_of}
use Rattle.counters2.specs.declared.clocks.Clocks.{Clocks}
use Rattle.counters2.specs.declared.fields.Fields.{Fields}

-- the ticks of both
abbrev pub together : Clocks → Clocks → Clocks
together a b = record { node = a.node + b.node; tenth = a.tenth + b.tenth; hundredth = a.hundredth + b.hundredth; stamp = a.stamp + b.stamp }

selected_sum : (code : ℕ) (a b : Clocks) → selected code a + selected code b ≡ selected code (together a b)
selected_sum code a b = grind (arith, nat_tests)

pub own_sum : (f : Fields) (lines : ℕ) (a b : Clocks) (i : ℕ) → own_ticks f lines a i + own_ticks f lines b i ≡ own_ticks f lines (together a b) i
own_sum f lines a b i = let e = selected_sum (select_of f i) a b in grind (arith, nat_tests)

-- no tick of any clock
pub own_none : (f : Fields) (lines : ℕ) (c : Clocks) → c.node ≡ 0 → c.tenth ≡ 0 → c.hundredth ≡ 0 → c.stamp ≡ 0 → (i : ℕ) → own_ticks f lines c i ≡ 0
own_none f lines c n t h s i = grind (arith, nat_tests)

-- ---- the node's clock

-- a hundred node ticks are ten tenths, so the tenth's phase is the node's modulo 10
tenth_phase : (p j : ℕ) → (p + j) % 100 % 10 ≡ (p % 10 + j) % 10
tenth_phase p j = omega arith

pub node_sum : (p j k : ℕ) → together (node_clocks p j) (node_clocks (phase_after j p) k) ≡ node_clocks p (j + k)
node_sum p j k =
    let tenth : (p % 10 + j) / 10 + ((p + j) % 100 % 10 + k) / 10 ≡ (p % 10 + (j + k)) / 10 =
    ap (λ (n : ℕ). (p % 10 + j) / 10 + (n + k) / 10) (tenth_phase p j)
    ∙ sym (events_sum 10 (p % 10 + j) k (omega arith))
    ∙ ap (λ (n : ℕ). n / 10) (add_assoc (p % 10) j k) in
    let hundredth : (p + j) / 100 + ((p + j) % 100 + k) / 100 ≡ (p + (j + k)) / 100 =
    sym (events_sum 100 (p + j) k (omega arith)) ∙ ap (λ (n : ℕ). n / 100) (add_assoc p j k) in
    λ i. record { node = j + k; tenth = tenth i; hundredth = hundredth i; stamp = 0 }

pub phase_sum : (p j k : ℕ) → phase_after k (phase_after j p) ≡ phase_after (j + k) p
phase_sum p j k = omega arith

pub phase_below : (p k : ℕ) → phase_after k p < 100
phase_below p k = omega arith

pub phase_none : (p : ℕ) → p < 100 → phase_after 0 p ≡ p
phase_none p h = omega arith

pub node_none : (f : Fields) (lines p : ℕ) → p < 100 → (i : ℕ) → own_ticks f lines (node_clocks p 0) i ≡ 0
node_none f lines p h i = own_none f lines (node_clocks p 0) refl (omega arith) (omega arith) refl i

-- ---- the Timestamp's

pub stamp_sum : (j k : ℕ) → together (stamp_clocks j) (stamp_clocks k) ≡ stamp_clocks (j + k)
stamp_sum j k = refl

pub stamp_none : (f : Fields) (lines : ℕ) (i : ℕ) → own_ticks f lines (stamp_clocks 0) i ≡ 0
stamp_none f lines i = own_none f lines (stamp_clocks 0) refl refl refl refl i
