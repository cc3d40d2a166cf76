-- Laws of a sample's header: it has five bits, and bit 3 is a Resource sample's. By the cases of its two flags. Assumes a line below 8.
use Rattle.std.proofs.Common.{◌≡◌, ℕ, ◌/◌, ◌%◌, ◌<◌, Bool, true, false, arith, eq-eqb, ne_eqb}
use Rattle.counters.specs.Bank.{bit}
use Rattle.control.specs.Control.{header_of}

module _ (line : ℕ) (small : line < 8) where
  pub header_small : (r l : Bool) → header_of line r l < 32
  header_small true true = omega arith
  header_small true false = omega arith
  header_small false true = omega arith
  header_small false false = omega arith

  pub header_kind : (r l : Bool) → bit (header_of line r l) 3 ≡ r
  header_kind true true = eq-eqb (header_of line true true / 8 % 2) 1 (omega arith)
  header_kind true false = eq-eqb (header_of line true false / 8 % 2) 1 (omega arith)
  header_kind false true = ne_eqb (header_of line false true / 8 % 2) 1 (λ e. omega arith)
  header_kind false false = ne_eqb (header_of line false false / 8 % 2) 1 (λ e. omega arith)
