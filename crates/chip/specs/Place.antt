-- Document 01, "Address map (document 003, Table A-1)": what stands at an address.
use Rattle.std.specs.Prelude.{ℕ, ◌-◌, Bool, true, false, cond, ◌&&◌, leb, ltb, eqb}
use Rattle.chip.specs.declared.place.Place.{Place}
use Rattle.chip.specs.declared.place.Place.TheVariants.{Beyond, Nowhere, Reset, Csr, Timestamp, Filter, Waits, Overruns, Mux, Clear, Enable, Disable, Source, Counter, Trigger}

-- the rows of the table up to 12; 3, 7, 9 and 13 to 15 are "All other addresses"
unfoldable pub register_of : ℕ → Place
register_of a =
    cond (eqb a 0) Reset
    (cond (eqb a 1) Csr
    (cond (eqb a 2) Timestamp
    (cond (eqb a 4) Filter
    (cond (eqb a 5) Waits
    (cond (eqb a 6) Overruns
    (cond (eqb a 8) Mux
    (cond (eqb a 10) Clear
    (cond (eqb a 11) Enable
    (cond (eqb a 12) Disable Nowhere)))))))))

-- the addresses from one up to another
abbrev pub between : ℕ → ℕ → ℕ → Bool
between first last a = leb a last && leb first a

-- "16..23 Source Address 0..7", "32..47 .. counter 0..15", "96..111 Trace trigger", "112..127 Resource trigger", the last two with their
-- level, which counts from the first of them; 1 is for an "address above 127", 2 for "All other addresses to 127"
unfoldable pub place_of : ℕ → Place
place_of a =
    cond (ltb a 16) (register_of a)
    (cond (between 16 23 a) (Source (a - 16))
    (cond (between 32 47 a) (Counter (a - 32))
    (cond (between 96 111 a) (Trigger false (a - 96))
    (cond (between 112 127 a) (Trigger true (a - 112))
    (cond (ltb 127 a) Beyond Nowhere)))))
