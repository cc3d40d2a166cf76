-- The marked examples hold: one test that is computed over the whole table, and a law that turns it into each row's claim.
-- Assumes nothing.
use Prim.Native.Nat.{ℕ, zero, suc, ◌<◌}
use native.Mathlib.Nat.{le_of_suc-le-suc, not-suc-le-zero}
use mathlib.Core.Path.{◌≡◌, refl}
use mathlib.Core.Bool.{true}
use mathlib.Core.List.{List, [], ◌∷◌}
use lib.ListN.{get_or, length}
use Rattle.words.proofs.WordLaws.{both_left, both_right}
use Rattle.marked.specs.Examples.{examples}
use lib.Count.{ones_in, count_trailing_zeros}
use Rattle.words.specs.Bytes.{low_bytes, number}
use Rattle.words.specs.Word.{odd_ones, parity_of, word_of, words_of}
use Rattle.samples.specs.Layout.{counter_bytes, field_bytes, sample_bytes, sample_words, spread}
use Rattle.samples.specs.Read.{fault_at, gather, read_part, sample_of, scan}
use Rattle.queue.specs.Queue.{any_resource}
use Rattle.counters.specs.Bank.{each}
use Rattle.chip.specs.Chip.{external_events, node_ticks, read, read_at, read_counter, send, timestamp_ticks, trigger, trigger_by, write, write_at}
use Rattle.chip.specs.Place.{place_of, register_of}
use Rattle.marked.specs.Table.{Row, all_hold, holds, reader_says, runs, same_numbers}

-- a table that passes passes at each row
each_holds : (rs : List Row) (d : Row) → all_hold rs ≡ true → (i : ℕ) → i < length rs → holds (get_or rs i d) ≡ true
unfolding all_hold
each_holds [] d e i h = absurd (not-suc-le-zero h)
each_holds (r ∷ rs) d e zero h = both_left (holds r) (all_hold rs) e
each_holds (r ∷ rs) d e (suc i) h = each_holds rs d (both_right (holds r) (all_hold rs) e) i (le_of_suc-le-suc h)

pub marked_examples : (i : ℕ) → i < length examples → holds (get_or examples i (reader_says [] 20)) ≡ true
unfolding examples all_hold holds runs same_numbers write read write_at read_at place_of register_of trigger trigger_by send node_ticks timestamp_ticks external_events read_counter any_resource each ones_in count_trailing_zeros sample_words sample_bytes field_bytes counter_bytes spread low_bytes words_of word_of parity_of read_part scan fault_at odd_ones sample_of gather number
marked_examples i h = each_holds examples (reader_says [] 20) computed i h
  where
    computed : all_hold examples ≡ true
    computed = refl
