-- Document 01, "Triggers and the queue", "Address map" and "Counters", for the MultiKron II with document 001, "Resource Counter Control
-- Registers" and "High Order 32 Bit Register": the lengths and widths that a record's types give its lists and its numbers.
use Rattle.std.specs.Prelude.{◌^◌, ◌<◌, ◌≡◌, true, length, replicate}
use Rattle.control.specs.declared.control.Control.{Control}
use Rattle.samples.specs.Layout.{counter_widths}
use Rattle.samples.specs.Write.{within}
use Rattle.chip2.specs.declared.chip2.Chip2.{Chip2}

-- "Filter, 16 bits"; "Wait and Overrun Counters", 32 bits: a read of one of them goes into the High Order register
abbrev pub Fits : Control → Type 0
Fits k = record { filter : k.filter < 2 ^ 16; wait : k.wait < 2 ^ 32; overrun : k.overrun < 2 ^ 32 }

-- "The queue holds 8 samples"; "Source Address 0..7, 32 bits"; "Sixteen, 32 bits", and a shadow each; Enable, Mode and Clock Select, 64 bits each;
-- High Order, 32 bits
abbrev pub Shaped : Chip2 → Type 0
Shaped c =
    record {
      places : length c.queue.places ≡ 8;
      sources : within (replicate 8 4) c.sources ≡ true;
      values : within counter_widths c.bank.values ≡ true;
      shadows : within counter_widths c.bank.shadows ≡ true;
      control : Fits c.control;
      enable : c.fields.enable < 2 ^ 64;
      mode : c.fields.mode < 2 ^ 64;
      select : c.fields.select < 2 ^ 64;
      high : c.high < 2 ^ 32;
    }
