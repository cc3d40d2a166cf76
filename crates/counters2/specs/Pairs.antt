-- Document 02, Wish 9: "a counter is its last written number plus events since, modulo 2^32 or 2^64 for a pair". What the two halves of a pair are
-- as one number: the even counter is the low half (house).
use Rattle.std.specs.Prelude.{ℕ, suc, ◌+◌, ◌*◌, ◌^◌, List, slice_index}

abbrev pub pair_at : List ℕ → ℕ → ℕ
pair_at vs i = slice_index vs i + 2 ^ 32 * slice_index vs (suc i)
