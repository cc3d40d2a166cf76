-- `script2::line::put_words`: the words so far stand there, each in at most six places.
use Prim.Native.Nat.{◌+◌, ◌*◌, ◌≤◌}
use mathlib.Core.Path.{◌≡◌}
use lib.ListN.{length, take}
use lib.Seq.{sets}
use Rattle.script2.specs.Line.{spaced}
use Rattle.script2.proofs.line.put_words.Given as goal

abbrev pub invariant-loop-word : goal.invariant-loop-word
invariant-loop-word l =
    (l.end ≤ l.at + 6 * l.word-index) × (length l.out ≡ length l.initial.out) × (l.end ≡ l.at + length (spaced (take l.word-index l.words))) × (l.out ≡ sets l.initial.out l.at (spaced (take l.word-index l.words)))
