-- `saved::saved::number_at` meets its contract: its bytes are those from `start` on, and zeros past the end. Assumes nothing.
use Rattle.std.proofs.Common.{sym, ◌∙◌, rules}
use Rattle.std.proofs.lemmas.List.{get_or-drop}
use mathlib.Core.List.{map}
use lib.ListN.{drop}
use Rattle.words.specs.Word.{byte_of}
use Rattle.words.proofs.NumberLaws.{number_is}
use Rattle.samples.proofs.ReadLaws.{number_read}
use Rattle.saved.proofs.saved.number_at.Goals as goal

pub returns : goal.returns
returns c =
    let a = c.args in
    let value =
    number_is (drop a.start (map byte_of a.bytes.now)) c.requires.1 c.number_by.ensures
    (λ k v h p. search rules ∙ sym (get_or-drop a.start (map byte_of a.bytes.now) k 0)) in
    record { value = value; upper_bound = number_read a.size a.start a.bytes.now _ value }
