-- Document 01, "Triggers and the queue", "Address map" and "Counters": the lengths and widths that a record's types give its lists.
use Rattle.std.specs.Prelude.{◌≡◌, true, length, replicate}
use Rattle.samples.specs.Layout.{counter_widths}
use Rattle.samples.specs.Write.{within}
use Rattle.chip.specs.declared.chip.Chip.{Chip}

-- "The queue holds 8 samples"; "Source Address 0..7, 32 bits"; "Sixteen, 32 bits", and a shadow each
abbrev pub Shaped : Chip → Type 0
Shaped c =
    record {
      places : length c.queue.places ≡ 8;
      sources : within (replicate 8 4) c.sources ≡ true;
      values : within counter_widths c.bank.values ≡ true;
      shadows : within counter_widths c.bank.shadows ≡ true;
    }
