-- Document 001, "Resource Counters" and Tables B5 to B7, with Wish 9 of document 02: what each event does to the sixteen counters. Counters wrap
-- (document 01).
use Rattle.std.specs.Prelude.{ℕ, zero, suc, ◌+◌, ◌/◌, ◌%◌, ◌^◌, Bool, false, cond, ◌&&◌, ◌||◌, List, ◌==◌, nat_le, slice_index, slice_set}
use Rattle.counters.specs.Bank.{bit, each, grown}
use Rattle.counters.specs.declared.bank.Bank.{Bank}
use Rattle.counters2.specs.Clocks.{selected}
use Rattle.counters2.specs.Codes.{by_clock, by_external, by_software, enabled, restarts, while_high}
use Rattle.counters2.specs.Fields.{field_at}
use Rattle.counters2.specs.declared.clocks.Clocks.{Clocks}
use Rattle.counters2.specs.declared.fields.Fields.{Fields}

-- the codes of counter i: Enable's low two bits, Mode's and Clock Select's low three
abbrev pub enable_of : Fields → ℕ → ℕ
enable_of f i = field_at f.enable i % 4

abbrev pub mode_of : Fields → ℕ → ℕ
mode_of f i = field_at f.mode i % 8

abbrev pub select_of : Fields → ℕ → ℕ
select_of f i = field_at f.select i % 8

-- ---- "An event counts if the counter is enabled and its fields select it": how many count for counter i by its own fields

-- of these ticks, with the lines that are high during all of them; line i is counter i's
abbrev pub own_ticks : Fields → ℕ → Clocks → ℕ → ℕ
own_ticks f lines c i =
    cond (enabled (enable_of f i) && (by_clock (mode_of f i) || (while_high (mode_of f i) && bit lines i))) (selected (select_of f i) c) 0

-- of external events, one for each set bit
abbrev pub own_signals : Fields → ℕ → ℕ → ℕ
own_signals f mask i = cond (enabled (enable_of f i) && (by_external (mode_of f i) && bit mask i)) 1 0

-- of a software event for counter n
abbrev pub own_software : Fields → ℕ → ℕ → ℕ
own_software f n i = cond (i == n && (enabled (enable_of f i) && by_software (mode_of f i))) 1 0

-- ---- pairs: "bit 3 of an even counter's Mode field pairs it with the odd one above it"; "The even one is the low half (house)"

-- whether counter i is a pair's upper half
abbrev pub upper : ℕ → ℕ → Bool
upper mode zero = false
upper mode (suc i) = i % 2 == 0 && nat_le 8 (field_at mode i)

-- how often the counter before counter i wraps
abbrev pub carried : (ℕ → ℕ) → List ℕ → ℕ → ℕ
carried own vs zero = 0
carried own vs (suc i) = (slice_index vs i + own i) / 2 ^ 32

-- what reaches counter i: its own events or, where it is a pair's upper half, the lower half's wraps alone
abbrev pub reaching : ℕ → (ℕ → ℕ) → List ℕ → ℕ → ℕ
reaching mode own vs i = cond (upper mode i) (carried own vs i) (own i)

abbrev pub counted : ℕ → (ℕ → ℕ) → Bank → Bank
counted mode own b = record { values = each (λ i v. grown v (reaching mode own b.values i)) 0 b.values; shadows = b.shadows }

-- ---- the counters after each kind of event, and after a write that reaches them

abbrev pub ticked : Fields → ℕ → Clocks → Bank → Bank
ticked f lines c b = counted f.mode (own_ticks f lines c) b

abbrev pub signalled : Fields → ℕ → Bank → Bank
signalled f mask b = counted f.mode (own_signals f mask) b

abbrev pub fired : Fields → ℕ → Bank → Bank
fired f n b = counted f.mode (own_software f n) b

-- a write of Enable: "xx11 Reset & Enable counter"
abbrev pub restarted : ℕ → Bank → Bank
restarted bits b = record { values = each (λ i v. cond (restarts (field_at bits i % 4)) 0 v) 0 b.values; shadows = b.shadows }

-- "Writing to the address of a Resource Counter .. will place the data written into that Resource Counter, the shadow registers are not affected"
abbrev pub loaded : ℕ → ℕ → Bank → Bank
loaded i number b = record { values = slice_set b.values i number; shadows = b.shadows }
