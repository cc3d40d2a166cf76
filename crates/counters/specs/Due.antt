-- Document 01, "Counters", "External events" of "The chip's operations", and "Address map" 8, 11, 12 and 32 to 47: which counters an
-- event is due to. Document 02, Wish 2: "The slow clock has two speeds".
use Rattle.std.specs.Prelude.{ℕ, ◌+◌, ◌-◌, ◌*◌, ◌/◌, ◌%◌, ◌^◌, Bool, cond, not, ◌&&◌, ◌==◌, bit_and, bit_or}
use Rattle.counters.specs.Bank.{bit, counting}
use Rattle.counters.specs.declared.bank.Bank.{Bank}
use Rattle.counters.specs.declared.switches.Switches.{Switches}
use Rattle.counters.specs.declared.switches.Kind.{Kind}
use Rattle.counters.specs.declared.switches.Kind.TheVariants.{Slow, External, Software, Node}

-- "every part becomes zero", but for the slow clock's choice: yes is the hundredth
abbrev pub zero_switches : Bool → Switches
zero_switches hundredth = record { enabled = 0; low = 0; high = 0; phase = 0; hundredth = hundredth }

-- "00 slow clock, 01 external, 10 software, 11 node clock": high bit, low bit
abbrev pub selects : Kind → Bool → Bool → Bool
selects Slow high low = not high && not low
selects External high low = not high && low
selects Software high low = high && not low
selects Node high low = high && low

-- the same by number, high bit first: the field of each kind, and the field that two numbers have at bits h and l
abbrev pub field_of : Kind → ℕ
field_of Slow = 0
field_of External = 1
field_of Software = 2
field_of Node = 3

abbrev pub field_at : ℕ → ℕ → ℕ → ℕ → ℕ
field_at high h low l = 2 * (high / 2 ^ h % 2) + low / 2 ^ l % 2

-- "An event counts if the counter is enabled and its field selects that kind"
abbrev pub due : Kind → Switches → ℕ → Bool
due k s i = bit s.enabled i && selects k (bit s.high i) (bit s.low i)

-- the same for all sixteen at once, as a number whose bit i is for counter i
abbrev pub due_mask : Kind → Switches → ℕ
due_mask Slow s = bit_and s.enabled (bit_and (2 ^ 16 - 1 - s.high) (2 ^ 16 - 1 - s.low))
due_mask External s = bit_and s.enabled (bit_and (2 ^ 16 - 1 - s.high) s.low)
due_mask Software s = bit_and s.enabled (bit_and s.high (2 ^ 16 - 1 - s.low))
due_mask Node s = bit_and s.enabled (bit_and s.high s.low)

-- k events of a kind that ticks for all counters
abbrev pub ticked : Kind → ℕ → Switches → Bank → Bank
ticked kind k s b = counting (due kind s) k b

-- "External events: a 16-bit mask, one event for each set bit"
abbrev pub signalled : ℕ → Switches → Bank → Bank
signalled mask s b = counting (λ i. bit mask i && due External s i) 1 b

-- "software event for counter 0..15"
abbrev pub fired : ℕ → Switches → Bank → Bank
fired i s b = counting (λ j. (j == i) && due Software s j) 1 b

-- "enable the counters of the set bits"; "only bits 0 to 15 act"
abbrev pub enabling : ℕ → Switches → Switches
enabling bits s = record { enabled = bit_or s.enabled (bits % 2 ^ 16); low = s.low; high = s.high; phase = s.phase; hundredth = s.hundredth }

-- "disable the counters of the set bits"
abbrev pub disabling : ℕ → Switches → Switches
disabling bits s = record { enabled = bit_and s.enabled (2 ^ 16 - 1 - bits % 2 ^ 16); low = s.low; high = s.high; phase = s.phase; hundredth = s.hundredth }

-- "MUX SEL keeps bits 0 to 15 and 32 to 47; the others read zero"
abbrev pub selecting : ℕ → Switches → Switches
selecting bits s = record { enabled = s.enabled; low = bits % 2 ^ 16; high = bits / 2 ^ 32 % 2 ^ 16; phase = s.phase; hundredth = s.hundredth }

abbrev pub selection : Switches → ℕ
selection s = s.low + 2 ^ 32 * s.high

-- "one tenth or one hundredth of the Timestamp clock": the ticks to a slow event
abbrev pub divisor_of : Bool → ℕ
divisor_of hundredth = cond hundredth 100 10

-- "A slow event falls on every tenth Timestamp tick since the last reset", or on every hundredth: the events in k ticks, and the phase after
-- them
abbrev pub slow_events : ℕ → Switches → ℕ
slow_events k s = (s.phase + k) / divisor_of s.hundredth

abbrev pub ticking : ℕ → Switches → Switches
ticking k s =
    record { enabled = s.enabled; low = s.low; high = s.high; phase = (s.phase + k) % divisor_of s.hundredth; hundredth = s.hundredth }
