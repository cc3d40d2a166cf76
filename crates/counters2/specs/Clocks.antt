-- Document 001, "Resource Counters" and Table B6: node clock, a tenth and a hundredth of it, and the Timestamp's. "A tenth falls on every tenth
-- node tick since the last reset, a hundredth likewise" (house).
use Rattle.std.specs.Prelude.{ℕ, ◌+◌, ◌/◌, ◌%◌, cond}
use Rattle.counters2.specs.Codes.{on_hundredth, on_node, on_stamp, on_tenth}
use Rattle.counters2.specs.declared.clocks.Clocks.{Clocks}

-- k node ticks, where the phase counts those since the last reset modulo 100, and the phase after them
abbrev pub node_clocks : ℕ → ℕ → Clocks
node_clocks phase k = record { node = k; tenth = (phase % 10 + k) / 10; hundredth = (phase + k) / 100; stamp = 0 }

abbrev pub phase_after : ℕ → ℕ → ℕ
phase_after k phase = (phase + k) % 100

-- k Timestamp ticks
abbrev pub stamp_clocks : ℕ → Clocks
stamp_clocks k = record { node = 0; tenth = 0; hundredth = 0; stamp = k }

-- the ticks of the clock that a code of Table B6 selects; 0 is no clock
abbrev pub selected : ℕ → Clocks → ℕ
selected code c =
    cond (on_node code) c.node (cond (on_tenth code) c.tenth (cond (on_hundredth code) c.hundredth (cond (on_stamp code) c.stamp 0)))
