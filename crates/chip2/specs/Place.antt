-- Document 001, Table B4, as Wish 9 of document 02 has it: what stands at an address of the MultiKron II in normal mode.
use Rattle.std.specs.Prelude.{ℕ, ◌-◌, Bool, true, false, cond, ltb, eqb}
use Rattle.chip.specs.Place.{between}
use Rattle.chip2.specs.declared.place.Place.{Place}
use Rattle.chip2.specs.declared.place.Place.TheVariants.{Beyond, Nowhere, Reset, Csr, Timestamp, Filter, Waits, Overruns, HighOrder, Enable, Mode, Select, Source, Counter, Shadow, Trigger}

-- the rows of the table up to 12; from 13 to 31 there are test-mode addresses alone ("a test-mode address gives 2")
unfoldable pub register_of : ℕ → Place
register_of a =
    cond (eqb a 0) Reset
    (cond (eqb a 1) Csr
    (cond (eqb a 2) Timestamp
    (cond (eqb a 4) Filter
    (cond (eqb a 5) Waits
    (cond (eqb a 6) Overruns
    (cond (eqb a 7) HighOrder
    (cond (eqb a 8) Enable
    (cond (eqb a 10) Mode
    (cond (eqb a 12) Select Nowhere)))))))))

-- "32-39 Source Addr Reg i (0..7)", "64-79 Resource Counter j (0..15)", "80-95 Increment Resource Counter j", read "without copy", "96-111 ..
-- Trace Sample", "112-127 .. Resource Sample", the last two with their level, which counts from the first of them
unfoldable pub place_of : ℕ → Place
place_of a =
    cond (ltb a 32) (register_of a)
    (cond (between 32 39 a) (Source (a - 32))
    (cond (between 64 79 a) (Counter (a - 64))
    (cond (between 80 95 a) (Shadow (a - 80))
    (cond (between 96 111 a) (Trigger false (a - 96))
    (cond (between 112 127 a) (Trigger true (a - 112))
    (cond (ltb 127 a) Beyond Nowhere))))))

-- whether a write there is a software reset
abbrev pub resets : Place → Bool
resets Beyond = false
resets Nowhere = false
resets Reset = true
resets Csr = false
resets Timestamp = false
resets Filter = false
resets Waits = false
resets Overruns = false
resets HighOrder = false
resets Enable = false
resets Mode = false
resets Select = false
resets (Source i) = false
resets (Counter i) = false
resets (Shadow i) = false
resets (Trigger resource level) = false
