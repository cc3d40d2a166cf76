-- Document 02, Wish 10: "save the counters and their three control registers into a lent buffer (88 bytes: counters 0 to 15, Enable, Mode, Clock Select as
-- held, low byte first; the rest untouched)", and what saved bytes give back.
use Rattle.std.specs.Prelude.{ℕ, cond, List, map, ◌++◌, leb, drop, length, take}
use Rattle.words.specs.Bytes.{low_bytes, number}
use Rattle.words.specs.Word.{byte_of}
use Rattle.samples.specs.Layout.{counter_bytes, counter_widths}
use Rattle.samples.specs.Read.{gather}
use Rattle.saved.specs.declared.saved.Saved.{Saved}

-- "bytes 0 to 63 the counters, 64 to 71 Enable, 72 to 79 Mode, 80 to 87 Clock Select, as held, low byte first" (docs/DECISIONS.md)
unfoldable pub saved_bytes : Saved → List ℕ
saved_bytes s =
    counter_bytes s.values
    ++ (low_bytes 8 s.fields.enable ++ (low_bytes 8 s.fields.mode ++ low_bytes 8 s.fields.select))

-- "13 buffer shorter than the set", "buffer unchanged"; else "the rest untouched"
unfoldable pub saved_into : Saved → List ℕ → List ℕ
saved_into s out = cond (leb 88 (length out)) (saved_bytes s ++ drop 88 out) out

-- the number of some bytes from a place on; a byte is below 256, and of a larger number its low byte counts
abbrev pub number_from : ℕ → ℕ → List ℕ → ℕ
number_from size start bytes = number (take size (drop start (map byte_of bytes)))

-- the set that bytes give, where all 88 are there
unfoldable pub set_of : List ℕ → Saved
set_of bytes =
    record {
      fields = record { enable = number_from 8 64 bytes; mode = number_from 8 72 bytes; select = number_from 8 80 bytes };
      values = gather counter_widths (map byte_of bytes);
    }
