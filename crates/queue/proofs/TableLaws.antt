-- Laws of sending by a lent table: by the table of parity bits it is sending, and by any other the word differs in bit 8 alone. Assumes
-- nothing.
use Prim.Native.Nat.{ℕ, ◌/◌, ◌%◌}
use mathlib.Core.Path.{◌≡◌, ap}
use mathlib.Core.Bool.{false, cond}
use mathlib.Core.List.{List}
use lib.Dec.{eqb}
use lib.ListN.{get_or}
use Rattle.words.specs.Table.{parity_table}
use Rattle.words.proofs.TableLaws.{words_by_lem, words_by_low, words_by_top}
use Rattle.samples.specs.Layout.{Widths, sample_bytes, sample_words}
use Rattle.samples.specs.declared.sample.Sample.{Sample}
use Rattle.samples.proofs.SampleLaws.{bytes_below}
use Rattle.queue.specs.Queue.{advanced, first_held, held_sample, next_word, send_one}
use Rattle.queue.specs.Table.{next_word_by, send_one_by}
use Rattle.queue.specs.declared.queue.Queue.{Queue}

-- one word where something is held
pub send_next_by : (table : List ℕ) (w : Widths) (shadows : List ℕ) (q : Queue) → eqb q.held 0 ≡ false → send_one_by table w shadows q ≡ record { queue = advanced w q; word = next_word_by table w shadows q }
send_next_by table w shadows q e = rw e

module _ (w : Widths) (shadows : List ℕ) (q : Queue) where
  abbrev first : Sample
  first = held_sample shadows (first_held q)

  -- by the table of parity bits
  pub next_word_by_lem : next_word_by parity_table w shadows q ≡ next_word w shadows q
  unfolding sample_words
  next_word_by_lem = ap (λ (ws : List ℕ). get_or ws q.sent 0) (words_by_lem (sample_bytes w first) (bytes_below w first))

  pub send_one_by_lem : send_one_by parity_table w shadows q ≡ send_one w shadows q
  send_one_by_lem = ap (λ (x : ℕ). cond (eqb q.held 0) (record { queue = q; word = 0 }) (record { queue = advanced w q; word = x })) next_word_by_lem

  -- by any table
  pub next_word_low : (table : List ℕ) → next_word_by table w shadows q % 256 ≡ next_word w shadows q % 256
  unfolding sample_words
  next_word_low table = words_by_low table (sample_bytes w first) q.sent

  pub next_word_top : (table : List ℕ) → next_word_by table w shadows q / 512 ≡ next_word w shadows q / 512
  unfolding sample_words
  next_word_top table = words_by_top table (sample_bytes w first) (bytes_below w first) q.sent
