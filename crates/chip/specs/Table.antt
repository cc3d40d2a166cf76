-- Document 02, Wish 3, "look it up": sending one word, with the parity bits of a lent table. Beside `send` of `Chip`, whose shape it has.
use Rattle.std.specs.Prelude.{ℕ, cond, List}
use Rattle.samples.specs.Layout.{widths}
use Rattle.samples.specs.declared.edition.Edition.TheVariants.{First}
use Rattle.queue.specs.Queue.{advanced}
use Rattle.queue.specs.Table.{next_word_by}
use Rattle.control.specs.declared.reply.Reply.TheVariants.{NoWord}
use Rattle.chip.specs.Chip.{done, guarded, none_held, replied, with_queue}
use Rattle.chip.specs.Told.{Told}
use Rattle.chip.specs.declared.chip.Chip.{Chip}

-- "5 no word to send", else the next word
abbrev pub send_now_by : List ℕ → Chip → Told
send_now_by table c =
    cond (none_held c.queue.held) (replied NoWord c)
    (done (next_word_by table (widths First) c.bank.shadows c.queue) (with_queue (advanced (widths First) c.queue) c))

unfoldable pub send_by : List ℕ → Chip → Told
send_by table c = guarded c (send_now_by table c)
