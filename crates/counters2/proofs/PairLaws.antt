-- A pair counts as one number modulo 2^64, by the even counter's own events alone, and a counter in no pair by its own modulo 2^32. By the
-- carry. Assumes numbers of 32 bits, as the type gives them.
use Rattle.std.proofs.Common.{◌≡◌, ℕ, suc, ◌+◌, ◌*◌, ◌/◌, ◌%◌, ◌^◌, ◌<◌, Bool, true, false, cond, length, get_or, ap, ◌∙◌, ap₂, arith}
use Rattle.counters.specs.Bank.{grown}
use Rattle.counters.specs.declared.bank.Bank.{Bank}
use Rattle.counters2.specs.Counts.{carried, counted, upper}
use Rattle.counters2.specs.Pairs.{pair_at}
use Rattle.counters2.proofs.GrowLaws.{counted_at, lower_plain}

module _ (mode : ℕ) (own : ℕ → ℕ) (b : Bank) (i : ℕ) where
  -- a counter in no pair, or a pair's lower half
  pub single_counts : i < length b.values → upper mode i ≡ false → get_or (counted mode own b).values i 0 ≡ (get_or b.values i 0 + own i) % 2 ^ 32
  single_counts h e =
      counted_at mode own b i h ∙ ap (λ (t : Bool). grown (get_or b.values i 0) (cond t (carried own b.values i) (own i))) e

  -- a pair
  pub pair_counts : suc i < length b.values → upper mode (suc i) ≡ true → get_or b.values i 0 < 2 ^ 32 → get_or b.values (suc i) 0 < 2 ^ 32 → pair_at (counted mode own b).values i ≡ (pair_at b.values i + own i) % 2 ^ 64
  pair_counts h e low high =
      let x : ℕ = get_or b.values i 0 in
      let y : ℕ = get_or b.values (suc i) 0 in
      ap₂ (λ (m n : ℕ). m + 2 ^ 32 * n)
      (single_counts (omega arith) (lower_plain mode i e))
      (counted_at mode own b (suc i) h ∙ ap (λ (t : Bool). grown y (cond t (carried own b.values (suc i)) (own (suc i)))) e)
      ∙ both x y (own i)
    where
      both : (x y n : ℕ) → (x + n) % 2 ^ 32 + 2 ^ 32 * ((y + (x + n) / 2 ^ 32) % 2 ^ 32) ≡ (x + 2 ^ 32 * y + n) % 2 ^ 64
      both x y n = omega arith
