-- `words::byte::byte_at` meets its contract: a shift by eight bits a place is a division by 256 a place, and a number of 64 bits
-- has no ninth byte. Assumes nothing.
use borrow.Author.Rules.{rules}
use mathlib.Core.Path.{sym}
use Rattle.words.proofs.ByteLaws.{bytes_bits, byte_past}
use Rattle.words.proofs.byte.byte_at.Goals as goal

pub returns-then-place-lt8 : goal.returns-then-place-lt8
returns-then-place-lt8 c = rw (bytes_bits c.args.place)

pub returns-else-place-lt8 : goal.returns-else-place-lt8
returns-else-place-lt8 c = sym (byte_past 8 c.args.number c.args.place (search rules) (search rules))
