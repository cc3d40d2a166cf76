-- Document 01, "The chip's operations": the record, and what each operation answers and leaves. Each part below names its paragraph.
use Rattle.std.specs.Prelude.{ℕ, ◌+◌, ◌%◌, ◌^◌, Bool, false, cond, ◌&&◌, ◌||◌, List, ltb, eqb, get_or, set, replicate}
use Rattle.std.specs.Int.Count.{ones_in, count_trailing_zeros}
use Rattle.counters.specs.Bank.{bit, cleared, copied, zero_bank}
use Rattle.counters.specs.Due.{disabling, divisor_of, enabling, fired, selecting, selection, signalled, slow_events, ticked, ticking, zero_switches}
use Rattle.counters.specs.declared.bank.Bank.{Bank}
use Rattle.counters.specs.declared.switches.Switches.{Switches}
use Rattle.counters.specs.declared.switches.Kind.TheVariants.{Slow, Node}
use Rattle.samples.specs.Layout.{widths}
use Rattle.samples.specs.declared.edition.Edition.TheVariants.{First}
use Rattle.queue.specs.Queue.{advanced, busy, empty_queue, full, inside_queue, next_word, pushed, send_buffer, send_many}
use Rattle.queue.specs.declared.queue.Held.{Held}
use Rattle.queue.specs.declared.queue.Queue.{Queue}
use Rattle.control.specs.Control.{configured, csr_of, filtering, fresh_control, header_of, overran, taken, overruns_cleared, waits_cleared, waited}
use Rattle.control.specs.Fate.{fate}
use Rattle.control.specs.declared.fate.Fate.{Fate}
use Rattle.control.specs.declared.fate.Fate.TheVariants.{Off as is_off, Filtered as is_filtered, Lost as is_lost, Wait as is_told, Taken as is_taken}
use Rattle.control.specs.Reply.{row_of}
use Rattle.control.specs.declared.control.Control.{Control}
use Rattle.control.specs.declared.reply.Reply.{Reply}
use Rattle.control.specs.declared.reply.Reply.TheVariants.{Done, TooHigh, Nothing, Forbidden, Lines, NoWord, Off, Filtered, Lost, Wait, Busy, Outside}
use Rattle.chip.specs.Place.{place_of}
use Rattle.chip.specs.Told.{Told, told_row}
use Rattle.chip.specs.declared.chip.Chip.{Chip}
use Rattle.chip.specs.declared.place.Place.{Place}
use Rattle.chip.specs.declared.place.Place.TheVariants.{Beyond, Nowhere, Reset, Csr, Timestamp, Filter, Waits, Overruns, Mux, Clear, Enable, Disable, Source, Counter, Trigger}

-- ---- "Each operation is given the whole record": a chip with another part

abbrev pub with_stamp : ℕ → Chip → Chip
with_stamp n c = record { stamp = n; queue = c.queue; bank = c.bank; sources = c.sources; control = c.control; switches = c.switches }

abbrev pub with_queue : Queue → Chip → Chip
with_queue q c = record { stamp = c.stamp; queue = q; bank = c.bank; sources = c.sources; control = c.control; switches = c.switches }

abbrev pub with_bank : Bank → Chip → Chip
with_bank b c = record { stamp = c.stamp; queue = c.queue; bank = b; sources = c.sources; control = c.control; switches = c.switches }

abbrev pub with_sources : List ℕ → Chip → Chip
with_sources l c = record { stamp = c.stamp; queue = c.queue; bank = c.bank; sources = l; control = c.control; switches = c.switches }

abbrev pub with_control : Control → Chip → Chip
with_control k c = record { stamp = c.stamp; queue = c.queue; bank = c.bank; sources = c.sources; control = k; switches = c.switches }

abbrev pub with_switches : Switches → Chip → Chip
with_switches s c = record { stamp = c.stamp; queue = c.queue; bank = c.bank; sources = c.sources; control = c.control; switches = s }

-- document 02, Wish 2: with another choice of the slow clock's speed
abbrev pub with_choice : Bool → Chip → Chip
with_choice b c =
    let s = c.switches in
    with_switches (record { enabled = s.enabled; low = s.low; high = s.high; phase = s.phase; hundredth = b }) c

-- ---- resets, by "The chip's operations" and "Software reset", and by document 02, Wishes 2 and 7

-- "every part becomes zero, Timestamp included. That is a fresh chip"; but for write wait, which is set (Wish 7). "A fresh chip has the tenth"
-- (Wish 2)
abbrev pub fresh : Chip
fresh =
    record {
      stamp = 0;
      queue = empty_queue;
      bank = zero_bank;
      sources = replicate 8 0;
      control = fresh_control;
      switches = zero_switches false;
    }

-- "Everything becomes as after a hardware reset except the Timestamp"; "Software reset keeps the choice"
abbrev pub soft_reset : Chip → Chip
soft_reset c = with_stamp c.stamp (with_choice c.switches.hundredth fresh)

-- ---- answers, by "Reply numbers"

-- "done": the next record with a value; and a record with another reply
abbrev pub done : ℕ → Chip → Told
done value c = told_row (row_of Done value) c

abbrev pub replied : Reply → Chip → Told
replied r c = told_row (row_of r 0) c

-- the bounds of reply 15: "queue counts, .. phase, field widths"; the phase by the choice in force
abbrev pub inside : Chip → Bool
inside c = inside_queue (widths First) c.queue && (ltb c.switches.phase (divisor_of c.switches.hundredth) && ltb c.stamp (2 ^ 56))

-- 15 is tried first, at "any operation but hardware reset"
abbrev pub guarded : Chip → Told → Told
guarded c a = cond (inside c) a (replied Outside c)

-- ---- triggers, by "Triggers and the queue" and, of the sample, "Sample and words"

-- "exactly one active processor line", and its number
abbrev pub one_line : ℕ → Bool
one_line lines = eqb (ones_in 8 lines) 1

abbrev pub line_of : ℕ → ℕ
line_of lines = count_trailing_zeros 8 lines

-- "a Resource trigger and a Resource sample is held"
abbrev pub blocked : Bool → Queue → Bool
blocked resource q = resource && busy q

-- "A trigger lacks room if 8 are held, or if it is a Resource trigger and a Resource sample is held"
abbrev pub lacks_room : Bool → Queue → Bool
lacks_room resource q = full q || blocked resource q

-- "A taken sample fixes its fields at the trigger": "Timestamp low 40 bits", "user data low 48 bits"; "The Source Address is that
-- line's register"
abbrev pub sample_now : Bool → ℕ → ℕ → Chip → Held
sample_now resource line bits c =
    record {
      user = bits % 2 ^ 48;
      stamp = c.stamp % 2 ^ 40;
      source = get_or c.sources line 0;
      header = header_of line resource c.control.lost;
    }

-- "a Resource trigger also copies all counters to the shadows. Then the lost mark is cleared"
abbrev pub take_sample : Bool → ℕ → ℕ → Chip → Chip
take_sample resource line bits c =
    record {
      stamp = c.stamp;
      queue = pushed (sample_now resource line bits c) c.queue;
      bank = cond resource (copied c.bank) c.bank;
      sources = c.sources;
      control = taken c.control;
      switches = c.switches;
    }

-- the table's rows 6, 7, 8 ("overrun rules"), 10 ("Wait Counter + 1") and 0 ("sample taken")
unfoldable pub trigger_by : Fate → Bool → ℕ → ℕ → Chip → Told
trigger_by is_off resource line bits c = replied Off c
trigger_by is_filtered resource line bits c = replied Filtered c
trigger_by is_lost resource line bits c =
    replied Lost (with_control (overran (full c.queue) (blocked resource c.queue) c.control) c)
trigger_by is_told resource line bits c = replied Wait (with_control (waited c.control) c)
trigger_by is_taken resource line bits c = done 0 (take_sample resource line bits c)

-- by sampling, the level's bit of the Filter, room and write wait
abbrev pub fate_of : Bool → ℕ → Chip → Fate
fate_of resource level c =
    fate c.control.sampling (bit c.control.filter level) (lacks_room resource c.queue) c.control.writewait

-- "4 trigger without exactly one active processor line", before 6, 7, 8 or 10
unfoldable pub trigger : Bool → ℕ → ℕ → ℕ → Chip → Told
trigger resource level bits lines c =
    cond (one_line lines) (trigger_by (fate_of resource level c) resource (line_of lines) bits c) (replied Lines c)

-- ---- writes and reads, by "Address map", its columns "Write" and "Read"; reads of counters by "Counters"

unfoldable pub write_at : Place → ℕ → ℕ → Chip → Told
write_at Beyond bits lines c = replied TooHigh c
write_at Nowhere bits lines c = replied Nothing c
write_at Reset bits lines c = done 0 (soft_reset c)
write_at Csr bits lines c = done 0 (with_control (configured bits c.control) c)
write_at Timestamp bits lines c = replied Forbidden c
write_at Filter bits lines c = done 0 (with_control (filtering bits c.control) c)
write_at Waits bits lines c = done 0 (with_control (waits_cleared c.control) c)
write_at Overruns bits lines c = done 0 (with_control (overruns_cleared c.control) c)
write_at Mux bits lines c = done 0 (with_switches (selecting bits c.switches) c)
write_at Clear bits lines c = done 0 (with_bank (cleared (bits % 2 ^ 16) c.bank) c)
write_at Enable bits lines c = done 0 (with_switches (enabling bits c.switches) c)
write_at Disable bits lines c = done 0 (with_switches (disabling bits c.switches) c)
write_at (Source i) bits lines c = done 0 (with_sources (set c.sources i (bits % 2 ^ 32)) c)
write_at (Counter i) bits lines c = done 0 (with_bank (fired i c.switches c.bank) c)
write_at (Trigger resource level) bits lines c = trigger resource level bits lines c

-- "A counter read with the shadows free copies all sixteen to the shadows and returns the chosen one .. With the shadows busy: reply
-- 10 if read wait is set, otherwise 11"
unfoldable pub read_counter : ℕ → Chip → Told
read_counter i c =
    cond (busy c.queue)
    (cond c.control.readwait
    (replied Wait (with_control (waited c.control) c))
    (replied Busy c))
    (done (get_or c.bank.values i 0) (with_bank (copied c.bank) c))

unfoldable pub read_at : Place → Chip → Told
read_at Beyond c = replied TooHigh c
read_at Nowhere c = replied Nothing c
read_at Reset c = replied Forbidden c
read_at Csr c = done (csr_of (full c.queue) (busy c.queue) c.control) c
read_at Timestamp c = done c.stamp c
read_at Filter c = done c.control.filter c
read_at Waits c = done c.control.wait c
read_at Overruns c = done c.control.overrun c
read_at Mux c = done (selection c.switches) c
read_at Clear c = replied Forbidden c
read_at Enable c = done c.switches.enabled c
read_at Disable c = replied Forbidden c
read_at (Source i) c = done (get_or c.sources i 0) c
read_at (Counter i) c = read_counter i c
read_at (Trigger resource level) c = replied Forbidden c

-- ---- the operations, by "The chip's operations"

-- "Hardware reset": no bounds are asked of the record; "Let a hardware reset choose by a yes or no"
abbrev pub hard_reset : Bool → Chip → Told
hard_reset hundredth c = done 0 (with_choice hundredth fresh)

-- "Write: address, 64-bit data, 8 processor lines. Read: address"
unfoldable pub write : ℕ → ℕ → ℕ → Chip → Told
write address bits lines c = guarded c (write_at (place_of address) bits lines c)

unfoldable pub read : ℕ → Chip → Told
read address c = guarded c (read_at (place_of address) c)

-- "Timestamp ticks": "Timestamp wraps at 2^56", and the slow events among the ticks count
abbrev pub after_ticks : ℕ → Chip → Chip
after_ticks k c =
    record {
      stamp = (c.stamp + k) % 2 ^ 56;
      queue = c.queue;
      bank = ticked Slow (slow_events k c.switches) c.switches c.bank;
      sources = c.sources;
      control = c.control;
      switches = ticking k c.switches;
    }

unfoldable pub timestamp_ticks : ℕ → Chip → Told
timestamp_ticks k c = guarded c (done 0 (after_ticks k c))

-- "node ticks": "11 node clock"
unfoldable pub node_ticks : ℕ → Chip → Told
node_ticks k c = guarded c (done 0 (with_bank (ticked Node k c.switches c.bank) c))

-- "External events: a 16-bit mask, one event for each set bit"
unfoldable pub external_events : ℕ → Chip → Told
external_events mask c = guarded c (done 0 (with_bank (signalled mask c.switches c.bank) c))

-- "A sample is held .. until its last word is sent": with none held there is no word to send
abbrev pub none_held : ℕ → Bool
none_held held = eqb held 0

-- "5 no word to send", else the next word
abbrev pub send_now : Chip → Told
send_now c =
    cond (none_held c.queue.held) (replied NoWord c)
    (done (next_word (widths First) c.bank.shadows c.queue) (with_queue (advanced (widths First) c.queue) c))

unfoldable pub send : Chip → Told
send c = guarded c (send_now c)

-- "A buffer send with nothing left returns 0 words with reply 0"
unfoldable pub send_into : ℕ → Chip → Told
send_into room c =
    let s = send_many (widths First) room c.bank.shadows c.queue in
    guarded c (done s.count (with_queue s.queue c))

-- "With 15 a lent buffer is untouched"
unfoldable pub sent_buffer : Chip → List ℕ → List ℕ
sent_buffer c out = cond (inside c) (send_buffer (widths First) c.bank.shadows c.queue out) out
