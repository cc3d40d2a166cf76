-- Demand 3 for the MultiKron II; document 01, "Triggers and the queue": "For demand 3 the list decides alone". What a list of operations says, by a fold from
-- the oldest operation: unbounded numbers and lists; nothing of the chip's record is in it, and the chip is not run. It goes by addresses and bits as
-- numbers, and shares with the chip's definitions the operations and the sample with its layout, nothing else; settings, errors and fates are the first
-- chip's ledger's. Quotations are of document 01 where nothing else is named; "DECISIONS" is docs/DECISIONS.md, "The MultiKron II".
use Rattle.std.specs.Prelude.{ℕ, ◌+◌, ◌-◌, ◌*◌, ◌/◌, ◌%◌, ◌^◌, min, Bool, true, false, cond, ◌||◌, List, [], ◌∷◌, ◌++◌, eqb, leb, ltb, get_or, replicate, set}
use Rattle.samples.specs.declared.edition.Edition.TheVariants.{Second}
use Rattle.samples.specs.declared.sample.Sample.{Sample}
use Rattle.chip2.specs.Operation.{Operation, op_reset, op_write, op_read, op_ticks, op_nodes, op_events, op_send, op_fill}
use Rattle.history.specs.Ledger.{Errors, Fate, Settings, configured, each_from, fate_number, filtering, gap, is_set, line_in, lost_cleared, lost_one, turned, unmarked, waited_one, waits_cleared, was_filtered, was_lost, was_off, was_taken, was_told}
use Rattle.history.specs.Stream.{any_held, held_of, is_blocked, is_full, total_of, words_of_all}
use Rattle.history2.specs.Counts2.{Control2, Count, counted, due_external, due_software, due_ticks, enabling, flat, moding, no_control, no_count, node_ticks, packed, paired, pairs, put_where, restarts, selecting, stamp_ticks}

-- ---- what is kept

-- Timestamp ticks since the hardware reset and node ticks since the last reset; "samples taken since the last reset, in order", whole, "and words sent since
-- then"; eight Source Addresses; of the sixteen counters the fields, the counts in twos and what was last copied; document 001: the "High Order 32 Bit
-- Register", and whether "in 32 bit mode"
pub record Ledger : Type 0 where
  pub settings : Settings
  pub sources : List ℕ
  pub clock : ℕ
  pub nodes : ℕ
  pub taken : List Sample
  pub sent : ℕ
  pub errors : Errors
  pub controls : List Control2
  pub counts : List Count
  pub shadows : List ℕ
  pub high : ℕ
  pub narrow : Bool

-- "Everything becomes as after a hardware reset except the Timestamp": what a reset leaves; Wish 7: "After either reset, write wait shall be set; sampling and
-- read wait stay off"; DECISIONS: "every field of Enable 0001 .., of Mode 0100 .. and of Clock Select 0100", "64-bit mode"
abbrev pub reset_at : ℕ → Ledger
reset_at clock =
    record {
      settings = record { sampling = false; writewait = true; readwait = false; filter = 0 };
      sources = replicate 8 0;
      clock = clock;
      nodes = 0;
      taken = [];
      sent = 0;
      errors = record { lost = 0; waits = 0; flagfull = false; flagbusy = false; mark = false };
      controls = replicate 16 no_control;
      counts = replicate 8 no_count;
      shadows = replicate 16 0;
      high = 0;
      narrow = false;
    }

-- a ledger with another part
abbrev pub with_settings : Settings → Bool → Ledger → Ledger
with_settings x narrow l =
    record { settings = x; sources = l.sources; clock = l.clock; nodes = l.nodes; taken = l.taken; sent = l.sent; errors = l.errors; controls = l.controls; counts = l.counts; shadows = l.shadows; high = l.high; narrow = narrow }

abbrev pub with_sources : List ℕ → Ledger → Ledger
with_sources x l =
    record { settings = l.settings; sources = x; clock = l.clock; nodes = l.nodes; taken = l.taken; sent = l.sent; errors = l.errors; controls = l.controls; counts = l.counts; shadows = l.shadows; high = l.high; narrow = l.narrow }

abbrev pub with_clocks : ℕ → ℕ → Ledger → Ledger
with_clocks clock nodes l =
    record { settings = l.settings; sources = l.sources; clock = clock; nodes = nodes; taken = l.taken; sent = l.sent; errors = l.errors; controls = l.controls; counts = l.counts; shadows = l.shadows; high = l.high; narrow = l.narrow }

abbrev pub with_stream : List Sample → ℕ → Ledger → Ledger
with_stream taken sent l =
    record { settings = l.settings; sources = l.sources; clock = l.clock; nodes = l.nodes; taken = taken; sent = sent; errors = l.errors; controls = l.controls; counts = l.counts; shadows = l.shadows; high = l.high; narrow = l.narrow }

abbrev pub with_errors : Errors → Ledger → Ledger
with_errors x l =
    record { settings = l.settings; sources = l.sources; clock = l.clock; nodes = l.nodes; taken = l.taken; sent = l.sent; errors = x; controls = l.controls; counts = l.counts; shadows = l.shadows; high = l.high; narrow = l.narrow }

abbrev pub with_counters : List Control2 → List Count → Ledger → Ledger
with_counters controls counts l =
    record { settings = l.settings; sources = l.sources; clock = l.clock; nodes = l.nodes; taken = l.taken; sent = l.sent; errors = l.errors; controls = controls; counts = counts; shadows = l.shadows; high = l.high; narrow = l.narrow }

abbrev pub with_shadows : List ℕ → Ledger → Ledger
with_shadows x l =
    record { settings = l.settings; sources = l.sources; clock = l.clock; nodes = l.nodes; taken = l.taken; sent = l.sent; errors = l.errors; controls = l.controls; counts = l.counts; shadows = x; high = l.high; narrow = l.narrow }

abbrev pub with_high : ℕ → Ledger → Ledger
with_high x l =
    record { settings = l.settings; sources = l.sources; clock = l.clock; nodes = l.nodes; taken = l.taken; sent = l.sent; errors = l.errors; controls = l.controls; counts = l.counts; shadows = l.shadows; high = x; narrow = l.narrow }

-- events are due by a rule to the counters: by the fields that they have
abbrev pub happened : (ℕ → Control2 → ℕ) → Ledger → Ledger
happened due l = with_counters l.controls (counted due l.controls l.counts) l

-- a number is written to the counters that a test names
abbrev pub loaded : (ℕ → Bool) → ℕ → Ledger → Ledger
loaded f x l = with_counters l.controls (each_from 0 (put_where f x) l.counts) l

-- ---- triggers, as the first chip's

-- "say which are held"
abbrev pub held : Ledger → List Sample
held l = held_of Second l.taken l.sent

-- "sampling is off"; "filtered"; "Whether a trigger lacks room follows from that": "Lacking room, it replies 10 under write wait. Otherwise it replies 8"
abbrev pub fate_in : Bool → ℕ → Ledger → Fate
fate_in resource level l =
    let s = l.settings in
    cond s.sampling
    (cond (is_set s.filter level)
    (cond (is_full (held l) || is_blocked resource (held l)) (cond s.writewait was_told was_lost) was_taken)
    was_filtered)
    was_off

-- "A taken sample fixes its fields at the trigger"; Wish 9: "user data 64 bits, Source Address 32, Timestamp 56, header 8", "header stay as in 01": line, 8 for a
-- Resource sample and 16 for the lost mark; for a Resource sample all sixteen counters
abbrev pub sample_in : Bool → ℕ → ℕ → Ledger → Sample
sample_in resource line bits l =
    record {
      user = bits % 2 ^ 64;
      stamp = l.clock % 2 ^ 56;
      source = get_or l.sources line 0;
      header = line + cond resource 8 0 + cond l.errors.mark 16 0;
      counters = cond resource (flat l.counts) (replicate 16 0);
    }

-- ---- operations: the reply's number and value, and the ledger after it

pub record Entry : Type 0 where
  pub number : ℕ
  pub value : ℕ
  pub ledger : Ledger

abbrev pub tells : ℕ → ℕ → Ledger → Entry
tells n v l = record { number = n; value = v; ledger = l }

-- what a fate leaves: nothing, one trigger lost or one wait more, or one sample more; "a Resource trigger also copies all counters to the shadows"
unfoldable pub after_fate : Fate → Bool → ℕ → ℕ → Ledger → Ledger
after_fate was_off resource line bits l = l
after_fate was_filtered resource line bits l = l
after_fate was_lost resource line bits l = with_errors (lost_one (is_full (held l)) (is_blocked resource (held l)) l.errors) l
after_fate was_told resource line bits l = with_errors (waited_one l.errors) l
after_fate was_taken resource line bits l =
    with_stream (l.taken ++ (sample_in resource line bits l ∷ [])) l.sent
    (with_shadows (cond resource (flat l.counts) l.shadows) (with_errors (unmarked l.errors) l))

abbrev pub by_fate : Fate → Bool → ℕ → ℕ → Ledger → Entry
by_fate f resource line bits l = tells (fate_number f) 0 (after_fate f resource line bits l)

-- "4 trigger without exactly one active processor line"
unfoldable pub triggered : Bool → ℕ → ℕ → ℕ → Ledger → Entry
triggered resource level bits lines l =
    cond (ltb (line_in lines) 8) (by_fate (fate_in resource level l) resource (line_in lines) bits l) (tells 4 0 l)

-- DECISIONS: "All others to 127 give 2, both ways": the gaps of the map
unfoldable pub vacant : ℕ → Bool
vacant a = eqb a 3 || (eqb a 9 || (eqb a 11 || (gap 13 31 a || gap 40 63 a)))

-- "1 address above 127", "2 nothing at this address"; else by the ranges of Table B4: from 96 on triggers, from 80 on software events and shadows, from 64 on
-- counters, from 32 on Source Addresses, and below that the other registers
unfoldable pub by_range : ℕ → Ledger → Entry → Entry → Entry → Entry → Entry → Entry
by_range a l trigger shadow counter source register =
    cond (ltb 127 a) (tells 1 0 l)
    (cond (vacant a) (tells 2 0 l)
    (cond (leb 96 a) trigger (cond (leb 80 a) shadow (cond (leb 64 a) counter (cond (leb 32 a) source register)))))

-- DECISIONS: "In 32-bit mode bits 32 to 63 come from the High Order register, bits 0 to 31 from the data, for every write"
abbrev pub data_in : ℕ → Ledger → ℕ
data_in bits l = cond l.narrow (bits % 2 ^ 32 + 2 ^ 32 * l.high) bits

-- a write of Mode: the fields, and the pairing that they then ask for
abbrev pub moded : List Control2 → Ledger → Ledger
moded ks l = with_counters ks (each_from 0 (λ j c. paired (pairs ks j) c) l.counts) l

-- a write below 32, by the map's rows: 0 software reset, 1 CSR (DECISIONS: "CSR bit 14 sets 32-bit mode, bit 15 clears it"), 2 refused, 4 Filter, 5 and 6 clear, 7 High
-- Order register, 8 Enable, 10 Mode, 12 Clock Select
unfoldable pub written_low : ℕ → ℕ → Ledger → Entry
written_low a bits l =
    cond (eqb a 0) (tells 0 0 (reset_at l.clock))
    (cond (eqb a 1) (tells 0 0 (with_settings (configured bits l.settings) (turned (bits / 2 ^ 14 % 4) l.narrow) l))
    (cond (eqb a 2) (tells 3 0 l)
    (cond (eqb a 4) (tells 0 0 (with_settings (filtering bits l.settings) l.narrow l))
    (cond (eqb a 5) (tells 0 0 (with_errors (waits_cleared l.errors) l))
    (cond (eqb a 6) (tells 0 0 (with_errors (lost_cleared l.errors) l))
    (cond (eqb a 7) (tells 0 0 (with_high (bits % 2 ^ 32) l))
    (cond (eqb a 8) (tells 0 0 (loaded (restarts bits) 0 (with_counters (each_from 0 (enabling bits) l.controls) l.counts l)))
    (cond (eqb a 10) (tells 0 0 (moded (each_from 0 (moding bits) l.controls) l))
    (tells 0 0 (with_counters (each_from 0 (selecting bits) l.controls) l.counts l))))))))))

-- a write of data: "96..111 Trace trigger, filter level = address mod 16", "112..127 Resource trigger, level likewise"; DECISIONS: 80..95 "software event for
-- counter 0..15", 64..79 "counter 0..15, 32 bits", 32..39 "Source Address 0..7, 32 bits"
unfoldable pub written : ℕ → ℕ → ℕ → Ledger → Entry
written a bits lines l =
    by_range a l
    (triggered (leb 112 a) (a % 16) bits lines l)
    (tells 0 0 (happened (due_software (a - 80)) l))
    (tells 0 0 (loaded (λ i. eqb i (a - 64)) (bits % 2 ^ 32) l))
    (tells 0 0 (with_sources (set l.sources (a - 32) (bits % 2 ^ 32)) l))
    (written_low a bits l)

-- DECISIONS: "With every read that is answered 0, bits 32 to 63 of the value go into the High Order register, in both modes"
abbrev pub answers : ℕ → Ledger → Entry
answers v l = tells 0 v (with_high (v / 2 ^ 32) l)

-- DECISIONS: "Bits above a register's width read 1": a number of so many bits
abbrev pub ones_over : ℕ → ℕ → ℕ
ones_over width n = 2 ^ 64 - 2 ^ width + n

-- "Reading gives the three settings in bits 0, 2 and 4; bit 6 FIFO full (8 samples held); bit 7 shadows busy; bits 8 and 9 the overrun flags"; DECISIONS: "and
-- bit 14 in 32-bit mode, bit 15 in 64-bit mode"
abbrev pub csr_in : Ledger → ℕ
csr_in l =
    let s = l.settings in
    (cond s.sampling 1 0 + cond s.writewait 4 0 + cond s.readwait 16 0)
    + (cond (is_full (held l)) 64 0 + cond (any_held (held l)) 128 0)
    + (cond l.errors.flagfull 256 0 + cond l.errors.flagbusy 512 0)
    + cond l.narrow 16384 32768

-- a read below 32: 0 is refused, 1 CSR, 2 Timestamp, 4 Filter, 5 Wait Counter, 6 Overrun Counter, 7 High Order register (DECISIONS: "a read of 7 itself leaves it"), 8
-- Enable, 10 Mode, 12 Clock Select
unfoldable pub read_low : ℕ → Ledger → Entry
read_low a l =
    cond (eqb a 0) (tells 3 0 l)
    (cond (eqb a 1) (answers (csr_in l) l)
    (cond (eqb a 2) (answers (ones_over 56 (l.clock % 2 ^ 56)) l)
    (cond (eqb a 4) (answers (ones_over 16 l.settings.filter) l)
    (cond (eqb a 5) (answers (ones_over 32 (l.errors.waits % 2 ^ 32)) l)
    (cond (eqb a 6) (answers (ones_over 32 (l.errors.lost % 2 ^ 32)) l)
    (cond (eqb a 7) (tells 0 (ones_over 32 l.high) l)
    (cond (eqb a 8) (answers (packed (λ k. k.enable) l.controls) l)
    (cond (eqb a 10) (answers (packed (λ k. k.mode) l.controls) l)
    (answers (packed (λ k. k.select) l.controls) l)))))))))

-- "With the shadows busy: reply 10 if read wait is set, otherwise 11"; else counter i, and "copies all sixteen to the shadows"
abbrev pub counter_read : ℕ → Ledger → Entry
counter_read i l =
    cond (any_held (held l)) (cond l.settings.readwait (tells 10 0 (with_errors (waited_one l.errors) l)) (tells 11 (2 ^ 63) l))
    (answers (ones_over 32 (get_or (flat l.counts) i 0)) (with_shadows (flat l.counts) l))

-- a read: triggers are "refused (3)"; Wish 9: "the read without it is never held up by busy shadows"
unfoldable pub read_in : ℕ → Ledger → Entry
read_in a l =
    by_range a l
    (tells 3 0 l)
    (answers (ones_over 32 (get_or l.shadows (a - 80) 0)) l)
    (counter_read (a - 64) l)
    (answers (ones_over 32 (get_or l.sources (a - 32) 0)) l)
    (read_low a l)

-- "A send that finds n words left and has room for m sends the smaller number"
abbrev pub left : Ledger → ℕ
left l = total_of Second l.taken - l.sent

abbrev pub sent_more : ℕ → Ledger → Ledger
sent_more room l = with_stream l.taken (l.sent + min room (left l)) l

-- one operation; DECISIONS: ticks have "the external lines that are high during all of these ticks"
unfoldable pub entry_of : Operation → Ledger → Entry
entry_of op_reset l = tells 0 0 (reset_at 0)
entry_of (op_write address bits lines) l = written address (data_in bits l) lines l
entry_of (op_read address) l = read_in address l
entry_of (op_ticks k levels) l = tells 0 0 (with_clocks (l.clock + k) l.nodes (happened (due_ticks (stamp_ticks k) levels) l))
entry_of (op_nodes k levels) l = tells 0 0 (with_clocks l.clock (l.nodes + k) (happened (due_ticks (node_ticks l.nodes k) levels) l))
entry_of (op_events mask) l = tells 0 0 (happened (due_external mask) l)
entry_of op_send l = cond (eqb (left l) 0) (tells 5 0 l) (tells 0 (get_or (words_of_all Second l.taken) l.sent 0) (sent_more 1 l))
entry_of (op_fill room) l = tells 0 (min room (left l)) (sent_more room l)

-- ---- the fold

-- all operations, from the oldest
unfoldable pub ledger_from : Ledger → List Operation → Ledger
ledger_from l [] = l
ledger_from l (op ∷ ops) = ledger_from (entry_of op l).ledger ops

-- what a list of operations from a fresh chip says
abbrev pub ledger_of : List Operation → Ledger
ledger_of ops = ledger_from (reset_at 0) ops
