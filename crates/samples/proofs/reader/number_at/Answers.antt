-- `samples::reader::number_at` meets its contract: the closure gives the bytes from the start on. Assumes nothing.
use borrow.Author.Rules.{rules}
use Prim.Native.Nat.{◌+◌}
use native.Mathlib.Omega.{arith}
use mathlib.Core.Path.{◌≡◌, ◌∙◌}
use mathlib.Core.List.{map}
use lib.ListN.{drop, get_or}
use Rattle.words.specs.Word.{byte_of}
use Rattle.words.proofs.NumberLaws.{number_is}
use Rattle.samples.proofs.ReadLaws.{byte_there}
use Rattle.samples.proofs.reader.number_at.Goals as goal

pub returns : goal.returns
returns c =
    number_is (drop c.args.start (map byte_of c.args.part.now)) (omega arith) c.number_by.ensures (λ k v h e.
    let here : v ≡ byte_of (get_or c.args.part.now (c.args.start + k) 0) = search rules in
    here ∙ byte_there c.args.start k c.args.part.now)
