-- Document 001, Tables B5, B6 and B7, by number: what a counter counts, by the low three bits of its Mode field, which clock, by those of its Clock
-- Select field, and what an Enable field does, by its low two bits.
use Rattle.std.specs.Prelude.{ℕ, Bool, cond, ◌||◌, ◌==◌}
use Rattle.counters2.specs.declared.counts.Source.{Source}
use Rattle.counters2.specs.declared.counts.Source.TheVariants.{Nothing, Clock, Software, ClockWhileHigh, External}

-- Table B5: "x001 CLK", "x101 (same as CLK)"
abbrev pub by_clock : ℕ → Bool
by_clock mode = mode == 1 || mode == 5

-- "x010 Software", "x110 (same as Software)"
abbrev pub by_software : ℕ → Bool
by_software mode = mode == 2 || mode == 6

-- "x011 External Enable (Count internal Clks only when the External signal is active high)", "x111 (same as External Enable)"
abbrev pub while_high : ℕ → Bool
while_high mode = mode == 3 || mode == 7

-- "x100 External Signal (Count external signals, low to high)"
abbrev pub by_external : ℕ → Bool
by_external mode = mode == 4

-- the four as one answer; of one number no two of them hold
abbrev pub source_of : ℕ → Source
source_of mode =
    cond (by_clock mode) Clock (cond (by_software mode) Software (cond (while_high mode) ClockWhileHigh (cond (by_external mode) External Nothing)))

-- Table B6: "x001 NodeClk", "x101 (same as NodeClk)"; "x010 NodeClk/10", "x110 (same ..)"; "x011 NodeClk/100", "x111 (same ..)"; "x100 TSclk"
abbrev pub on_node : ℕ → Bool
on_node select = select == 1 || select == 5

abbrev pub on_tenth : ℕ → Bool
on_tenth select = select == 2 || select == 6

abbrev pub on_hundredth : ℕ → Bool
on_hundredth select = select == 3 || select == 7

abbrev pub on_stamp : ℕ → Bool
on_stamp select = select == 4

-- Table B7: "xx10 Enable counter", "xx11 Reset & Enable counter"
abbrev pub enabled : ℕ → Bool
enabled enable = enable == 2 || enable == 3

abbrev pub restarts : ℕ → Bool
restarts enable = enable == 3
