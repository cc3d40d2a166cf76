-- The CSR as it is read has ten bits: each of its seven bits adds at most its own number. Assumes nothing.
use Rattle.std.proofs.Common.{◌<◌, ◌≤◌, Bool, true, false, arith}
use Rattle.control.specs.Control.{csr_of, one}
use Rattle.control.specs.declared.control.Control.{Control}

pub one_most : (b : Bool) → one b ≤ 1
one_most true = omega arith
one_most false = omega arith

pub csr_below : (full busy : Bool) (c : Control) → csr_of full busy c < 1024
csr_below full busy c =
    omega (arith, one_most c.sampling, one_most c.writewait, one_most c.readwait, one_most full, one_most busy, one_most c.flagfull, one_most c.flagbusy)
