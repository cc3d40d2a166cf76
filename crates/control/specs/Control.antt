-- Document 01, "CSR", "Triggers and the queue" and addresses 4, 5 and 6: settings, error counters, flags and the lost mark; and, by
-- "Sample and words", the header that tells of it.
use Rattle.std.specs.Prelude.{ℕ, ◌+◌, ◌*◌, ◌%◌, ◌^◌, Bool, true, false, cond, ◌||◌}
use Rattle.counters.specs.Bank.{bit, grown}
use Rattle.control.specs.declared.control.Control.{Control}

-- "every part becomes zero"; "After a reset the three settings are 0". Document 02, Wish 7, makes of both: "After either reset, write wait
-- shall be set; sampling and read wait stay off"
abbrev pub fresh_control : Control
fresh_control =
    record { wait = 0; overrun = 0; filter = 0; sampling = false; writewait = true; readwait = false; flagfull = false; flagbusy = false; lost = false }

-- a control with other settings, other error counters, or other marks
abbrev pub with_settings : ℕ → Bool → Bool → Bool → Control → Control
with_settings filter sampling writewait readwait c =
    record { wait = c.wait; overrun = c.overrun; filter = filter; sampling = sampling; writewait = writewait; readwait = readwait; flagfull = c.flagfull; flagbusy = c.flagbusy; lost = c.lost }

abbrev pub with_errors : ℕ → ℕ → Control → Control
with_errors wait overrun c =
    record { wait = wait; overrun = overrun; filter = c.filter; sampling = c.sampling; writewait = c.writewait; readwait = c.readwait; flagfull = c.flagfull; flagbusy = c.flagbusy; lost = c.lost }

abbrev pub with_marks : Bool → Bool → Bool → Control → Control
with_marks flagfull flagbusy lost c =
    record { wait = c.wait; overrun = c.overrun; filter = c.filter; sampling = c.sampling; writewait = c.writewait; readwait = c.readwait; flagfull = flagfull; flagbusy = flagbusy; lost = lost }

-- the even bit sets, the odd bit clears; "Where both bits of a pair are 1, the odd one wins"
abbrev pub pair : Bool → Bool → Bool → Bool
pair even odd before = cond odd false (cond even true before)

-- "bit 0 turns sampling on, in bit 1 off; bit 2 sets write wait, bit 3 discard; bit 4 sets read wait, bit 5 cancels it"
abbrev pub configured : ℕ → Control → Control
configured d c =
    with_settings c.filter
    (pair (bit d 0) (bit d 1) c.sampling)
    (pair (bit d 2) (bit d 3) c.writewait)
    (pair (bit d 4) (bit d 5) c.readwait)
    c

-- "Filter, 16 bits"
abbrev pub filtering : ℕ → Control → Control
filtering d c = with_settings (d % 2 ^ 16) c.sampling c.writewait c.readwait c

-- reply 10: "Wait Counter + 1"; "Wait and Overrun Counters wrap at 2^32"
abbrev pub waited : Control → Control
waited c = with_errors (grown c.wait 1) c.overrun c

-- "clear Wait"
abbrev pub waits_cleared : Control → Control
waits_cleared c = with_errors 0 c.overrun c

-- reply 8: "adds one to the Overrun Counter, sets flag 8 if 8 are held and flag 9 if it is a Resource trigger and shadows are busy
-- .., and sets the lost mark"
abbrev pub overran : Bool → Bool → Control → Control
overran full busy c =
    with_marks (c.flagfull || full) (c.flagbusy || busy) true (with_errors c.wait (grown c.overrun 1) c)

-- "Writing address 6 also clears flags 8 and 9, not the lost mark"
abbrev pub overruns_cleared : Control → Control
overruns_cleared c = with_marks false false c.lost (with_errors c.wait 0 c)

-- a taken sample: "Then the lost mark is cleared"
abbrev pub taken : Control → Control
taken c = with_marks c.flagfull c.flagbusy false c

-- a flag as the number of its bit
abbrev pub one : Bool → ℕ
one true = 1
one false = 0

-- "Reading gives the three settings in bits 0, 2 and 4; bit 6 FIFO full (8 samples held); bit 7 shadows busy; bits 8 and 9 the
-- overrun flags; all others zero"
abbrev pub csr_of : Bool → Bool → Control → ℕ
csr_of full busy c =
    (one c.sampling + 4 * one c.writewait + 16 * one c.readwait) + (64 * one full + 128 * one busy)
    + (256 * one c.flagfull + 512 * one c.flagbusy)

-- "bits 0..2 the active line's number, bit 3 set for a Resource sample, bit 4 the lost mark before this trigger"
abbrev pub header_of : ℕ → Bool → Bool → ℕ
header_of line resource lost = line + 8 * one resource + 16 * one lost
