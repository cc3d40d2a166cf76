-- Document 02, Wish 7, by a number: what the CSR reads after a reset. By computation. Assumes nothing.
use Rattle.std.proofs.Common.{◌≡◌, false, refl}
use Rattle.control.specs.Control.{csr_of, fresh_control}

-- "write wait shall be set; sampling and read wait stay off": bit 2 alone, with a queue neither full nor busy
pub fresh_csr : csr_of false false fresh_control ≡ 4
fresh_csr = refl
