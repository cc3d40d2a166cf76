-- Document 02, Wish 3, "look it up": the next word and sending one word, with the parity bits of a lent table.
use Rattle.std.specs.Prelude.{ℕ, cond, List, eqb, get_or}
use Rattle.words.specs.Table.{words_by}
use Rattle.samples.specs.Layout.{Widths, sample_bytes}
use Rattle.queue.specs.Queue.{advanced, first_held, held_sample}
use Rattle.queue.specs.declared.queue.Queue.{Queue}
use Rattle.queue.specs.declared.queue.Sent.{Sent}

-- the next word of the first sample
abbrev pub next_word_by : List ℕ → Widths → List ℕ → Queue → ℕ
next_word_by table w shadows q = get_or (words_by table (sample_bytes w (held_sample shadows (first_held q)))) q.sent 0

-- "Send one word": with nothing held the queue stays, and the word is 0
abbrev pub send_one_by : List ℕ → Widths → List ℕ → Queue → Sent
send_one_by table w shadows q =
    cond (eqb q.held 0) (record { queue = q; word = 0 }) (record { queue = advanced w q; word = next_word_by table w shadows q })
