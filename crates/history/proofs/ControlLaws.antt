-- Settings, error counters and marks, of the chip and of the ledger: what is done to the one is what is done to the other, for both editions. Assumes nothing.
use Prim.Native.Nat.{ℕ, zero, suc, ◌+◌, ◌*◌, ◌/◌, ◌%◌, ◌^◌, ◌<◌}
use native.Mathlib.Nat.{div-div-eq-div-mul, div-one, mod-lt, pow-suc}
use native.Mathlib.Omega.{arith}
use mathlib.Core.Path.{◌≡◌, refl, sym, ap, ap₂, ◌∙◌}
use mathlib.Core.Bool.{Bool, true, false, cond, ◌||◌}
use lib.Dec.{eqb}
use lib.Pow.{pow_pos}
use Rattle.counters.specs.Bank.{bit}
use Rattle.control.specs.Control.{csr_of, one, overran, pair, waited, with_errors}
use Rattle.control.specs.Control.{configured as Control·configured}
use Rattle.control.specs.declared.control.Control.{Control}
use Rattle.history.specs.Ledger.{Errors, Settings, configured, lost_one, turned, waited_one}
use Rattle.history.proofs.CountLaws.{wrapped, wrapped_grown}

abbrev pub control_by : Settings → Errors → Control
control_by s e =
    record {
      wait = wrapped e.waits;
      overrun = wrapped e.lost;
      filter = s.filter;
      sampling = s.sampling;
      writewait = s.writewait;
      readwait = s.readwait;
      flagfull = e.flagfull;
      flagbusy = e.flagbusy;
      lost = e.mark;
    }

-- ---- errors

-- one wait more
pub waited_control : (s : Settings) (e : Errors) → waited (control_by s e) ≡ control_by s (waited_one e)
waited_control s e = ap (λ (n : ℕ). with_errors n (wrapped e.lost) (control_by s e)) (sym (wrapped_grown e.waits 1))

-- one trigger lost, for the same reasons
pub lost_control : (s : Settings) (e : Errors) (full full' blocked blocked' : Bool) → full ≡ full' → blocked ≡ blocked' → overran full blocked (control_by s e) ≡ control_by s (lost_one full' blocked' e)
lost_control s e full full' blocked blocked' f b =
    λ i.
    record {
      wait = wrapped e.waits;
      overrun = sym (wrapped_grown e.lost 1) i;
      filter = s.filter;
      sampling = s.sampling;
      writewait = s.writewait;
      readwait = s.readwait;
      flagfull = e.flagfull || f i;
      flagbusy = e.flagbusy || b i;
      lost = true;
    }

-- ---- settings

-- a pair of bits, wherever it stands, and the number that it is
pub pair_turned : (even bits : ℕ) (b : Bool) → pair (bit bits even) (bit bits (suc even)) b ≡ turned (bits / 2 ^ even % 4) b
pair_turned even bits b =
    ap₂ (λ (x y : ℕ). pair (eqb x 1) (eqb y 1) b) (low (bits / 2 ^ even)) (ap (λ (n : ℕ). n % 2) above ∙ high (bits / 2 ^ even))
    ∙ go (bits / 2 ^ even % 4) (mod-lt (bits / 2 ^ even) (pow_pos 2))
  where
    low : (n : ℕ) → n % 2 ≡ n % 4 % 2
    low n = omega arith

    above : bits / 2 ^ suc even ≡ bits / 2 ^ even / 2
    above = ap (λ (d : ℕ). bits / d) (pow-suc 2 even) ∙ sym (div-div-eq-div-mul bits (2 ^ even) 2)

    high : (n : ℕ) → n / 2 % 2 ≡ n % 4 / 2
    high n = omega arith

    go : (m : ℕ) → m < 4 → pair (eqb (m % 2) 1) (eqb (m / 2) 1) b ≡ turned m b
    go zero h = refl
    go (suc zero) h = refl
    go (suc (suc zero)) h = refl
    go (suc (suc (suc zero))) h = refl
    go (suc (suc (suc (suc m)))) h = absurd (omega arith)

-- the lowest pair stands at the number itself
pub lowest_turned : (bits : ℕ) (b : Bool) → turned (bits / 2 ^ 0 % 4) b ≡ turned (bits % 4) b
lowest_turned bits b = ap (λ (n : ℕ). turned (n % 4) b) (div-one bits)

-- a write of the CSR
pub configured_control : (bits : ℕ) (s : Settings) (e : Errors) → Control·configured bits (control_by s e) ≡ control_by (configured bits s) e
configured_control bits s e =
    λ i.
    control_by (record {
      sampling = (pair_turned 0 bits s.sampling ∙ lowest_turned bits s.sampling) i;
      writewait = pair_turned 2 bits s.writewait i;
      readwait = pair_turned 4 bits s.readwait i;
      filter = s.filter;
    }) e

-- the CSR's bits as numbers
pub csr_same : (full shadows : Bool) (s : Settings) (e : Errors) → csr_of full shadows (control_by s e) ≡ (cond s.sampling 1 0 + cond s.writewait 4 0 + cond s.readwait 16 0) + (cond full 64 0 + cond shadows 128 0) + (cond e.flagfull 256 0 + cond e.flagbusy 512 0)
csr_same full shadows s e =
    λ i. (bit_0 s.sampling i + flag 4 s.writewait i + flag 16 s.readwait i) + (flag 64 full i + flag 128 shadows i) + (flag 256 e.flagfull i + flag 512 e.flagbusy i)
  where
    bit_0 : (b : Bool) → one b ≡ cond b 1 0
    bit_0 true = refl
    bit_0 false = refl

    flag : (n : ℕ) (b : Bool) → n * one b ≡ cond b n 0
    flag n true = omega arith
    flag n false = omega arith
