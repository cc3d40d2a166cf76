-- Document 02, Wish 3, "look it up": sending one word, with the parity bits of a lent table. Beside `send` of `Chip2`, whose shape it has.
use Rattle.std.specs.Prelude.{ℕ, cond, List}
use Rattle.samples.specs.Layout.{widths}
use Rattle.samples.specs.declared.edition.Edition.TheVariants.{Second}
use Rattle.queue.specs.Queue.{advanced}
use Rattle.queue.specs.Table.{next_word_by}
use Rattle.control.specs.declared.reply.Reply.TheVariants.{NoWord}
use Rattle.chip.specs.Chip.{none_held}
use Rattle.chip2.specs.Chip2.{done, guarded, replied, with_queue}
use Rattle.chip2.specs.Told.{Told}
use Rattle.chip2.specs.declared.chip2.Chip2.{Chip2}

-- "5 no word to send", else the next word
abbrev pub send_now_by : List ℕ → Chip2 → Told
send_now_by table c =
    cond (none_held c.queue.held) (replied NoWord c)
    (done (next_word_by table (widths Second) c.bank.shadows c.queue) (with_queue (advanced (widths Second) c.queue) c))

unfoldable pub send_by : List ℕ → Chip2 → Told
send_by table c = guarded c (send_now_by table c)
