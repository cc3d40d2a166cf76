-- Document 01, "The chip's operations", for the MultiKron II: document 001 and Wish 9 of document 02 beside it. The record, and what each
-- operation answers and leaves. Each part below names its paragraph.
use Rattle.std.specs.Prelude.{ℕ, ◌+◌, ◌-◌, ◌*◌, ◌/◌, ◌%◌, ◌^◌, Bool, false, cond, not, ◌&&◌, List, ltb, get_or, set, replicate}
use Rattle.counters.specs.Bank.{bit, copied, zero_bank}
use Rattle.counters.specs.declared.bank.Bank.{Bank}
use Rattle.counters2.specs.Clocks.{node_clocks, phase_after, stamp_clocks}
use Rattle.counters2.specs.Counts.{fired, loaded, restarted, signalled, ticked}
use Rattle.counters2.specs.Fields.{clocking, enabling, fresh_fields, moding}
use Rattle.counters2.specs.declared.fields.Fields.{Fields}
use Rattle.samples.specs.Layout.{widths}
use Rattle.samples.specs.declared.edition.Edition.TheVariants.{Second}
use Rattle.queue.specs.Queue.{advanced, busy, empty_queue, full, inside_queue, next_word, pushed, send_buffer, send_many}
use Rattle.queue.specs.declared.queue.Held.{Held}
use Rattle.queue.specs.declared.queue.Queue.{Queue}
use Rattle.control.specs.Control.{configured, csr_of, filtering, fresh_control, header_of, one, overran, pair, taken, overruns_cleared, waits_cleared, waited}
use Rattle.control.specs.Fate.{fate}
use Rattle.control.specs.declared.fate.Fate.{Fate}
use Rattle.control.specs.declared.fate.Fate.TheVariants.{Off as is_off, Filtered as is_filtered, Lost as is_lost, Wait as is_told, Taken as is_taken}
use Rattle.control.specs.Reply.{row_of}
use Rattle.control.specs.declared.control.Control.{Control}
use Rattle.control.specs.declared.reply.Reply.{Reply}
use Rattle.control.specs.declared.reply.Reply.TheVariants.{Done, TooHigh, Nothing, Forbidden, Lines, NoWord, Off, Filtered, Lost, Wait, Busy, Outside}
use Rattle.chip.specs.Chip.{blocked, lacks_room, line_of, none_held, one_line}
use Rattle.chip2.specs.Place.{place_of}
use Rattle.chip2.specs.Told.{Told, told_row}
use Rattle.chip2.specs.declared.chip2.Chip2.{Chip2}
use Rattle.chip2.specs.declared.place.Place.{Place}
use Rattle.chip2.specs.declared.place.Place.TheVariants.{Beyond, Nowhere, Reset, Csr, Timestamp, Filter, Waits, Overruns, HighOrder, Enable, Mode, Select, Source, Counter, Shadow, Trigger}

-- ---- "Each operation is given the whole record": a chip with another part

abbrev pub with_stamp : ℕ → Chip2 → Chip2
with_stamp x c = record { stamp = x; queue = c.queue; fields = c.fields; bank = c.bank; sources = c.sources; control = c.control; high = c.high; narrow = c.narrow; phase = c.phase }

abbrev pub with_queue : Queue → Chip2 → Chip2
with_queue x c = record { stamp = c.stamp; queue = x; fields = c.fields; bank = c.bank; sources = c.sources; control = c.control; high = c.high; narrow = c.narrow; phase = c.phase }

abbrev pub with_fields : Fields → Chip2 → Chip2
with_fields x c = record { stamp = c.stamp; queue = c.queue; fields = x; bank = c.bank; sources = c.sources; control = c.control; high = c.high; narrow = c.narrow; phase = c.phase }

abbrev pub with_bank : Bank → Chip2 → Chip2
with_bank x c = record { stamp = c.stamp; queue = c.queue; fields = c.fields; bank = x; sources = c.sources; control = c.control; high = c.high; narrow = c.narrow; phase = c.phase }

abbrev pub with_sources : List ℕ → Chip2 → Chip2
with_sources x c = record { stamp = c.stamp; queue = c.queue; fields = c.fields; bank = c.bank; sources = x; control = c.control; high = c.high; narrow = c.narrow; phase = c.phase }

abbrev pub with_control : Control → Chip2 → Chip2
with_control x c = record { stamp = c.stamp; queue = c.queue; fields = c.fields; bank = c.bank; sources = c.sources; control = x; high = c.high; narrow = c.narrow; phase = c.phase }

abbrev pub with_high : ℕ → Chip2 → Chip2
with_high x c = record { stamp = c.stamp; queue = c.queue; fields = c.fields; bank = c.bank; sources = c.sources; control = c.control; high = x; narrow = c.narrow; phase = c.phase }

abbrev pub with_narrow : Bool → Chip2 → Chip2
with_narrow x c = record { stamp = c.stamp; queue = c.queue; fields = c.fields; bank = c.bank; sources = c.sources; control = c.control; high = c.high; narrow = x; phase = c.phase }

abbrev pub with_phase : ℕ → Chip2 → Chip2
with_phase x c = record { stamp = c.stamp; queue = c.queue; fields = c.fields; bank = c.bank; sources = c.sources; control = c.control; high = c.high; narrow = c.narrow; phase = x }

-- ---- resets, by "The chip's operations" and "Software reset" of document 01, the tables' defaults of document 001 and document 02, Wish 7

-- "every part becomes zero", but for write wait (Wish 7) and the tables' "** default setting"; 64-bit mode (house)
abbrev pub fresh : Chip2
fresh =
    record {
      stamp = 0;
      queue = empty_queue;
      fields = fresh_fields;
      bank = zero_bank;
      sources = replicate 8 0;
      control = fresh_control;
      high = 0;
      narrow = false;
      phase = 0;
    }

-- Table B4, 0: "Reset chip, Timestamp unchanged"
abbrev pub soft_reset : Chip2 → Chip2
soft_reset c = with_stamp c.stamp fresh

-- ---- answers, by "Reply numbers"

-- "done": the next record with a value; and a record with another reply
abbrev pub done : ℕ → Chip2 → Told
done value c = told_row (row_of Done value) c

abbrev pub replied : Reply → Chip2 → Told
replied r c = told_row (row_of r 0) c

-- the bounds of reply 15: "queue counts, .. phase, field widths"
abbrev pub inside : Chip2 → Bool
inside c = inside_queue (widths Second) c.queue && (ltb c.phase 100 && ltb c.stamp (2 ^ 56))

-- 15 is tried first, at "any operation but hardware reset"
abbrev pub guarded : Chip2 → Told → Told
guarded c a = cond (inside c) a (replied Outside c)

-- ---- the processor's data path, by "High Order 32 Bit Register"

-- "in 32 bit mode .. input data bits 32-63 will be taken from this High Order 32 bit register on processor writes"
abbrev pub data_of : ℕ → Chip2 → ℕ
data_of bits c = cond c.narrow (bits % 2 ^ 32 + 2 ^ 32 * c.high) bits

-- "Output data bits 32-63 are always (whether or not in 32 bit mode) placed in that register, as well as on the corresponding output pins"
abbrev pub given : ℕ → Chip2 → Told
given value c = done value (with_high (value / 2 ^ 32) c)

-- "any unused bit positions return a logical 1": a number of so many bits as it is read
abbrev pub ones_above : ℕ → ℕ → ℕ
ones_above bits v = v + (2 ^ 64 - 2 ^ bits)

-- Table B1: as document 01's CSR, and bit 14 in 32-bit mode, bit 15 in 64-bit mode; 10 and 12 read 0 (house)
abbrev pub status_of : Chip2 → ℕ
status_of c = csr_of (full c.queue) (busy c.queue) c.control + 2 ^ 14 * one c.narrow + 2 ^ 15 * one (not c.narrow)

-- ---- triggers, by "Triggers and the queue" and, of the sample, "Sample and words"

-- "user data 64 bits, Source Address 32, Timestamp 56"
abbrev pub sample_now : Bool → ℕ → ℕ → Chip2 → Held
sample_now resource line bits c =
    record {
      user = bits % 2 ^ 64;
      stamp = c.stamp;
      source = get_or c.sources line 0;
      header = header_of line resource c.control.lost;
    }

-- "a Resource trigger also copies all counters to the shadows. Then the lost mark is cleared"
abbrev pub take_sample : Bool → ℕ → ℕ → Chip2 → Chip2
take_sample resource line bits c =
    with_queue (pushed (sample_now resource line bits c) c.queue) (with_bank (cond resource (copied c.bank) c.bank) (with_control (taken c.control) c))

-- the table's rows 6, 7, 8 ("overrun rules"), 10 ("Wait Counter + 1") and 0 ("sample taken")
unfoldable pub trigger_by : Fate → Bool → ℕ → ℕ → Chip2 → Told
trigger_by is_off resource line bits c = replied Off c
trigger_by is_filtered resource line bits c = replied Filtered c
trigger_by is_lost resource line bits c =
    replied Lost (with_control (overran (full c.queue) (blocked resource c.queue) c.control) c)
trigger_by is_told resource line bits c = replied Wait (with_control (waited c.control) c)
trigger_by is_taken resource line bits c = done 0 (take_sample resource line bits c)

-- by sampling, the level's bit of the Filter, room and write wait
abbrev pub fate_of : Bool → ℕ → Chip2 → Fate
fate_of resource level c =
    fate c.control.sampling (bit c.control.filter level) (lacks_room resource c.queue) c.control.writewait

-- "4 trigger without exactly one active processor line", before 6, 7, 8 or 10
unfoldable pub trigger : Bool → ℕ → ℕ → ℕ → Chip2 → Told
trigger resource level bits lines c =
    cond (one_line lines) (trigger_by (fate_of resource level c) resource (line_of lines) bits c) (replied Lines c)

-- ---- writes and reads, by Table B4, its columns "Write" and "Read"

-- CSR: document 01's three pairs of bits, and "32 bit mode enabled 14", "disabled 15"
abbrev pub configured_all : ℕ → Chip2 → Chip2
configured_all bits c = with_narrow (pair (bit bits 14) (bit bits 15) c.narrow) (with_control (configured bits c.control) c)

-- Enable: the fields, and "xx11 Reset & Enable counter"
abbrev pub enabled_all : ℕ → Chip2 → Chip2
enabled_all bits c = with_fields (enabling bits c.fields) (with_bank (restarted bits c.bank) c)

unfoldable pub write_at : Place → ℕ → ℕ → Chip2 → Told
write_at Beyond bits lines c = replied TooHigh c
write_at Nowhere bits lines c = replied Nothing c
write_at Reset bits lines c = done 0 (soft_reset c)
write_at Csr bits lines c = done 0 (configured_all bits c)
write_at Timestamp bits lines c = replied Forbidden c
write_at Filter bits lines c = done 0 (with_control (filtering bits c.control) c)
write_at Waits bits lines c = done 0 (with_control (waits_cleared c.control) c)
write_at Overruns bits lines c = done 0 (with_control (overruns_cleared c.control) c)
write_at HighOrder bits lines c = done 0 (with_high (bits % 2 ^ 32) c)
write_at Enable bits lines c = done 0 (enabled_all bits c)
write_at Mode bits lines c = done 0 (with_fields (moding bits c.fields) c)
write_at Select bits lines c = done 0 (with_fields (clocking bits c.fields) c)
write_at (Source i) bits lines c = done 0 (with_sources (set c.sources i (bits % 2 ^ 32)) c)
write_at (Counter i) bits lines c = done 0 (with_bank (loaded i (bits % 2 ^ 32) c.bank) c)
write_at (Shadow i) bits lines c = done 0 (with_bank (fired c.fields i c.bank) c)
write_at (Trigger resource level) bits lines c = trigger resource level bits lines c

-- "Reading-with-copy": document 01's counter read, "With the shadows busy: reply 10 if read wait is set, otherwise 11"
unfoldable pub read_counter : ℕ → Chip2 → Told
read_counter i c =
    cond (busy c.queue)
    (cond c.control.readwait
    (replied Wait (with_control (waited c.control) c))
    (replied Busy c))
    (given (ones_above 32 (get_or c.bank.values i 0)) (with_bank (copied c.bank) c))

-- a read of 7 leaves the register (house); "A read-without-copy will not be blocked even when the shadow registers are busy"
unfoldable pub read_at : Place → Chip2 → Told
read_at Beyond c = replied TooHigh c
read_at Nowhere c = replied Nothing c
read_at Reset c = replied Forbidden c
read_at Csr c = given (status_of c) c
read_at Timestamp c = given (ones_above 56 c.stamp) c
read_at Filter c = given (ones_above 16 c.control.filter) c
read_at Waits c = given (ones_above 32 c.control.wait) c
read_at Overruns c = given (ones_above 32 c.control.overrun) c
read_at HighOrder c = done (ones_above 32 c.high) c
read_at Enable c = given c.fields.enable c
read_at Mode c = given c.fields.mode c
read_at Select c = given c.fields.select c
read_at (Source i) c = given (ones_above 32 (get_or c.sources i 0)) c
read_at (Counter i) c = read_counter i c
read_at (Shadow i) c = given (ones_above 32 (get_or c.bank.shadows i 0)) c
read_at (Trigger resource level) c = replied Forbidden c

-- ---- the operations, by "The chip's operations"

-- "Hardware reset": no bounds are asked of the record
abbrev pub hard_reset : Chip2 → Told
hard_reset c = done 0 fresh

-- "Write: address, 64-bit data, 8 processor lines. Read: address"
unfoldable pub write : ℕ → ℕ → ℕ → Chip2 → Told
write address bits lines c = guarded c (write_at (place_of address) (data_of bits c) lines c)

unfoldable pub read : ℕ → Chip2 → Told
read address c = guarded c (read_at (place_of address) c)

-- ticks have their count and the external lines that are high during all of them; "Timestamp wraps at 2^56"
abbrev pub after_ticks : ℕ → ℕ → Chip2 → Chip2
after_ticks k levels c = with_stamp ((c.stamp + k) % 2 ^ 56) (with_bank (ticked c.fields levels (stamp_clocks k) c.bank) c)

unfoldable pub timestamp_ticks : ℕ → ℕ → Chip2 → Told
timestamp_ticks k levels c = guarded c (done 0 (after_ticks k levels c))

abbrev pub after_nodes : ℕ → ℕ → Chip2 → Chip2
after_nodes k levels c = with_phase (phase_after k c.phase) (with_bank (ticked c.fields levels (node_clocks c.phase k) c.bank) c)

unfoldable pub node_ticks : ℕ → ℕ → Chip2 → Told
node_ticks k levels c = guarded c (done 0 (after_nodes k levels c))

-- "External events: a 16-bit mask, one event for each set bit"
unfoldable pub external_events : ℕ → Chip2 → Told
external_events mask c = guarded c (done 0 (with_bank (signalled c.fields mask c.bank) c))

-- "5 no word to send", else the next word
abbrev pub send_now : Chip2 → Told
send_now c =
    cond (none_held c.queue.held) (replied NoWord c)
    (done (next_word (widths Second) c.bank.shadows c.queue) (with_queue (advanced (widths Second) c.queue) c))

unfoldable pub send : Chip2 → Told
send c = guarded c (send_now c)

-- "A buffer send with nothing left returns 0 words with reply 0"
unfoldable pub send_into : ℕ → Chip2 → Told
send_into room c =
    let s = send_many (widths Second) room c.bank.shadows c.queue in
    guarded c (done s.count (with_queue s.queue c))

-- "With 15 a lent buffer is untouched"
unfoldable pub sent_buffer : Chip2 → List ℕ → List ℕ
sent_buffer c out = cond (inside c) (send_buffer (widths Second) c.bank.shadows c.queue out) out
