-- Document 01, "Triggers and the queue": "For demand 3 the list decides alone". What a list of operations says, by a fold from the oldest
-- operation: unbounded numbers and lists; nothing of the chip's record is in it, and the chip is not run. It goes by document 01's
-- addresses and bits as numbers, and shares with the chip's definitions the operations and the sample with its layout, nothing else.
use Rattle.std.specs.Prelude.{ℕ, suc, ◌+◌, ◌-◌, ◌*◌, ◌/◌, ◌%◌, ◌^◌, min, ◌≡◌, Bool, true, false, cond, ◌&&◌, ◌||◌, List, [], ◌∷◌, ◌++◌, map, eqb, leb, ltb, get_or, replicate, set}
use Rattle.samples.specs.declared.edition.Edition.TheVariants.{First}
use Rattle.samples.specs.declared.sample.Sample.{Sample}
use Rattle.chip.specs.Operation.{Operation, op_reset, op_write, op_read, op_ticks, op_nodes, op_events, op_send, op_fill}
use Rattle.history.specs.Stream.{any_held, held_of, is_blocked, is_full, total_of, words_of_all}

-- whether bit i of a number is set
abbrev pub is_set : ℕ → ℕ → Bool
is_set x i = eqb (x / 2 ^ i % 2) 1

-- ---- what is kept

-- "CSR" and "Filter": the three settings and the Filter, by the writes alone
pub record Settings : Type 0 where
  pub sampling : Bool
  pub writewait : Bool
  pub readwait : Bool
  pub filter : ℕ

-- "Counters": whether it is enabled, the two bits of its MUX field, and the events due to it since its last clearing
pub record Counter : Type 0 where
  pub on : Bool
  pub high : Bool
  pub low : Bool
  pub events : ℕ

-- "Clearing means a reset, or the write at 5, 6 ..": triggers lost and waits since then, the overrun flags and the lost mark
pub record Errors : Type 0 where
  pub lost : ℕ
  pub waits : ℕ
  pub flagfull : Bool
  pub flagbusy : Bool
  pub mark : Bool

-- Timestamp ticks since the hardware reset and since the last reset; the hardware reset's choice of the slow clock (document 02, Wish 2: yes is
-- the hundredth); "samples taken since the last reset, in order", whole, "and words sent since then"; eight Source Addresses and sixteen
-- counters
pub record Ledger : Type 0 where
  pub settings : Settings
  pub sources : List ℕ
  pub clock : ℕ
  pub ticks : ℕ
  pub hundredth : Bool
  pub taken : List Sample
  pub sent : ℕ
  pub errors : Errors
  pub counters : List Counter

abbrev pub no_counter : Counter
no_counter = record { on = false; high = false; low = false; events = 0 }

-- "Everything becomes as after a hardware reset except the Timestamp", and "Software reset keeps the choice": what a reset leaves. "After a
-- reset the three settings are 0", but by document 02, Wish 7: "After either reset, write wait shall be set; sampling and read wait stay off"
abbrev pub reset_at : ℕ → Bool → Ledger
reset_at clock hundredth =
    record {
      settings = record { sampling = false; writewait = true; readwait = false; filter = 0 };
      sources = replicate 8 0;
      clock = clock;
      ticks = 0;
      hundredth = hundredth;
      taken = [];
      sent = 0;
      errors = record { lost = 0; waits = 0; flagfull = false; flagbusy = false; mark = false };
      counters = replicate 16 no_counter;
    }

-- a ledger with another part
abbrev pub with_settings : Settings → Ledger → Ledger
with_settings x l =
    record { settings = x; sources = l.sources; clock = l.clock; ticks = l.ticks; hundredth = l.hundredth; taken = l.taken; sent = l.sent; errors = l.errors; counters = l.counters }

abbrev pub with_sources : List ℕ → Ledger → Ledger
with_sources x l =
    record { settings = l.settings; sources = x; clock = l.clock; ticks = l.ticks; hundredth = l.hundredth; taken = l.taken; sent = l.sent; errors = l.errors; counters = l.counters }

abbrev pub with_stream : List Sample → ℕ → Ledger → Ledger
with_stream taken sent l =
    record { settings = l.settings; sources = l.sources; clock = l.clock; ticks = l.ticks; hundredth = l.hundredth; taken = taken; sent = sent; errors = l.errors; counters = l.counters }

abbrev pub with_errors : Errors → Ledger → Ledger
with_errors x l =
    record { settings = l.settings; sources = l.sources; clock = l.clock; ticks = l.ticks; hundredth = l.hundredth; taken = l.taken; sent = l.sent; errors = x; counters = l.counters }

abbrev pub with_counters : List Counter → Ledger → Ledger
with_counters x l =
    record { settings = l.settings; sources = l.sources; clock = l.clock; ticks = l.ticks; hundredth = l.hundredth; taken = l.taken; sent = l.sent; errors = l.errors; counters = x }

abbrev pub with_ticks : ℕ → Ledger → Ledger
with_ticks k l =
    record { settings = l.settings; sources = l.sources; clock = l.clock + k; ticks = l.ticks + k; hundredth = l.hundredth; taken = l.taken; sent = l.sent; errors = l.errors; counters = l.counters }

-- ---- counters

-- each of some counters, or of other things, becomes f of its number and itself, numbered from i
unfoldable pub each_from : {A : Type 0} → ℕ → (ℕ → A → A) → List A → List A
each_from i f [] = []
each_from i f (k ∷ ks) = f i k ∷ each_from (suc i) f ks

abbrev pub each : (ℕ → Counter → Counter) → Ledger → Ledger
each f l = with_counters (each_from 0 f l.counters) l

-- "00 slow clock, 01 external, 10 software, 11 node clock", as numbers of two bits
abbrev pub slow : ℕ
slow = 0

abbrev pub external : ℕ
external = 1

abbrev pub software : ℕ
software = 2

abbrev pub node : ℕ
node = 3

-- the MUX field as such a number
abbrev pub mux_of : Counter → ℕ
mux_of k = cond k.high 2 0 + cond k.low 1 0

-- "An event counts if the counter is enabled and its field selects that kind": n events
abbrev pub counted : ℕ → ℕ → Counter → Counter
counted kind n k =
    cond (k.on && eqb (mux_of k) kind) (record { on = k.on; high = k.high; low = k.low; events = k.events + n }) k

-- n events of a kind, for the counters that f names
abbrev pub happened : ℕ → (ℕ → Bool) → ℕ → Ledger → Ledger
happened kind f n l = each (λ i k. cond (f i) (counted kind n k) k) l

-- "A slow event falls on every tenth Timestamp tick since the last reset", or on every hundredth: those in k ticks after so many
abbrev pub slow_in : Bool → ℕ → ℕ → ℕ
slow_in hundredth ticks k = cond hundredth ((ticks + k) / 100 - ticks / 100) ((ticks + k) / 10 - ticks / 10)

-- "clear the counters of the set bits", "enable ..", "disable ..": bit i is counter i's
abbrev pub cleared : ℕ → ℕ → Counter → Counter
cleared bits i k = cond (is_set bits i) (record { on = k.on; high = k.high; low = k.low; events = 0 }) k

abbrev pub enabled : Bool → ℕ → ℕ → Counter → Counter
enabled b bits i k = cond (is_set bits i) (record { on = b; high = k.high; low = k.low; events = k.events }) k

-- "Counter i has MUX field bit 32+i (high), bit i (low)"
abbrev pub selected : ℕ → ℕ → Counter → Counter
selected bits i k = record { on = k.on; high = is_set bits (32 + i); low = is_set bits i; events = k.events }

-- a number whose bit i is what f says of counter i
unfoldable pub packed : (Counter → Bool) → List Counter → ℕ
packed f [] = 0
packed f (k ∷ ks) = cond (f k) 1 0 + 2 * packed f ks

-- ---- triggers

-- "exactly one active processor line" of the eight, and its number: line i alone is 2^i; 8 where it isn't so
unfoldable pub line_number : ℕ → ℕ
line_number n =
    cond (eqb n 1) 0
    (cond (eqb n 2) 1 (cond (eqb n 4) 2 (cond (eqb n 8) 3 (cond (eqb n 16) 4 (cond (eqb n 32) 5 (cond (eqb n 64) 6 (cond (eqb n 128) 7 8)))))))

abbrev pub line_in : ℕ → ℕ
line_in lines = line_number (lines % 256)

-- "say which are held"
abbrev pub held : Ledger → List Sample
held l = held_of First l.taken l.sent

-- demand 3: off, filtered, lost, told to wait, or taken
pub data Fate : Type 0 where
  was_off was_filtered was_lost was_told was_taken : Fate

-- "sampling is off"; "filtered"; "Whether a trigger lacks room follows from that": "Lacking room, it replies 10 under write wait.
-- Otherwise it replies 8"
abbrev pub fate_in : Bool → ℕ → Ledger → Fate
fate_in resource level l =
    let s = l.settings in
    cond s.sampling
    (cond (is_set s.filter level)
    (cond (is_full (held l) || is_blocked resource (held l)) (cond s.writewait was_told was_lost) was_taken)
    was_filtered)
    was_off

-- the numbers of their replies
abbrev pub fate_number : Fate → ℕ
fate_number was_off = 6
fate_number was_filtered = 7
fate_number was_lost = 8
fate_number was_told = 10
fate_number was_taken = 0

-- "A taken sample fixes its fields at the trigger": header with line, 8 for a Resource sample and 16 for the lost mark; that line's
-- source address; Timestamp modulo 2^40; user data modulo 2^48; for a Resource sample all sixteen counters
abbrev pub sample_in : Bool → ℕ → ℕ → Ledger → Sample
sample_in resource line bits l =
    record {
      user = bits % 2 ^ 48;
      stamp = l.clock % 2 ^ 40;
      source = get_or l.sources line 0;
      header = line + cond resource 8 0 + cond l.errors.mark 16 0;
      counters = cond resource (map (λ k. k.events % 2 ^ 32) l.counters) (replicate 16 0);
    }

-- "adds one .., sets flag 8 .. and flag 9 .., and sets the lost mark"
abbrev pub lost_one : Bool → Bool → Errors → Errors
lost_one full blocked e =
    record { lost = e.lost + 1; waits = e.waits; flagfull = e.flagfull || full; flagbusy = e.flagbusy || blocked; mark = true }

-- reply 10, of a trigger or of a counter read: "Wait Counter + 1"
abbrev pub waited_one : Errors → Errors
waited_one e = record { lost = e.lost; waits = e.waits + 1; flagfull = e.flagfull; flagbusy = e.flagbusy; mark = e.mark }

-- a taken sample: "Then the lost mark is cleared"
abbrev pub unmarked : Errors → Errors
unmarked e = record { lost = e.lost; waits = e.waits; flagfull = e.flagfull; flagbusy = e.flagbusy; mark = false }

-- ---- operations: the reply's number and value by "Reply numbers" and "Address map", and the ledger after it

pub record Entry : Type 0 where
  pub number : ℕ
  pub value : ℕ
  pub ledger : Ledger

abbrev pub tells : ℕ → ℕ → Ledger → Entry
tells n v l = record { number = n; value = v; ledger = l }

-- what a fate leaves: nothing, one trigger lost or one wait more, or one sample more
unfoldable pub after_fate : Fate → Bool → ℕ → ℕ → Ledger → Ledger
after_fate was_off resource line bits l = l
after_fate was_filtered resource line bits l = l
after_fate was_lost resource line bits l = with_errors (lost_one (is_full (held l)) (is_blocked resource (held l)) l.errors) l
after_fate was_told resource line bits l = with_errors (waited_one l.errors) l
after_fate was_taken resource line bits l =
    with_stream (l.taken ++ (sample_in resource line bits l ∷ [])) l.sent (with_errors (unmarked l.errors) l)

abbrev pub by_fate : Fate → Bool → ℕ → ℕ → Ledger → Entry
by_fate f resource line bits l = tells (fate_number f) 0 (after_fate f resource line bits l)

-- "4 trigger without exactly one active processor line"
unfoldable pub triggered : Bool → ℕ → ℕ → ℕ → Ledger → Entry
triggered resource level bits lines l =
    cond (ltb (line_in lines) 8) (by_fate (fate_in resource level l) resource (line_in lines) bits l) (tells 4 0 l)

-- "All other addresses to 127 give 2": the gaps of the map
abbrev pub gap : ℕ → ℕ → ℕ → Bool
gap first last a = leb first a && leb a last

unfoldable pub vacant : ℕ → Bool
vacant a = eqb a 3 || (eqb a 7 || (eqb a 9 || (gap 13 15 a || (gap 24 31 a || gap 48 95 a))))

-- "1 address above 127", "2 nothing at this address"; else by the map's ranges: from 96 on triggers, from 32 on counters, from 16 on
-- Source Addresses, and below that the other registers
unfoldable pub by_range : ℕ → Ledger → Entry → Entry → Entry → Entry → Entry
by_range a l trigger counter source register =
    cond (ltb 127 a) (tells 1 0 l)
    (cond (vacant a) (tells 2 0 l) (cond (leb 96 a) trigger (cond (leb 32 a) counter (cond (leb 16 a) source register))))

-- CSR: the two bits of a pair as a number. 0 does nothing, 1 is the even bit alone, 2 and 3 have the odd one, which wins
abbrev pub turned : ℕ → Bool → Bool
turned n before = cond (eqb n 0) before (eqb n 1)

-- "Writing a 1 in bit 0 turns sampling on, in bit 1 off; bit 2 sets write wait, bit 3 discard; bit 4 sets read wait, bit 5 cancels it"
abbrev pub configured : ℕ → Settings → Settings
configured bits s =
    record { sampling = turned (bits % 4) s.sampling; writewait = turned (bits / 4 % 4) s.writewait; readwait = turned (bits / 16 % 4) s.readwait; filter = s.filter }

abbrev pub filtering : ℕ → Settings → Settings
filtering bits s = record { sampling = s.sampling; writewait = s.writewait; readwait = s.readwait; filter = bits % 2 ^ 16 }

-- "clear Wait / Overrun Counter"; "Writing address 6 also clears flags 8 and 9, not the lost mark"
abbrev pub waits_cleared : Errors → Errors
waits_cleared e = record { lost = e.lost; waits = 0; flagfull = e.flagfull; flagbusy = e.flagbusy; mark = e.mark }

abbrev pub lost_cleared : Errors → Errors
lost_cleared e = record { lost = 0; waits = e.waits; flagfull = false; flagbusy = false; mark = e.mark }

-- a write below 16, by the map's rows: 0 software reset, 1 CSR, 2 refused, 4 Filter, 5 and 6 clear, 8 MUX SEL, 10 clears counters, 11
-- enables and 12 disables them
unfoldable pub written_low : ℕ → ℕ → Ledger → Entry
written_low a bits l =
    cond (eqb a 0) (tells 0 0 (reset_at l.clock l.hundredth))
    (cond (eqb a 1) (tells 0 0 (with_settings (configured bits l.settings) l))
    (cond (eqb a 2) (tells 3 0 l)
    (cond (eqb a 4) (tells 0 0 (with_settings (filtering bits l.settings) l))
    (cond (eqb a 5) (tells 0 0 (with_errors (waits_cleared l.errors) l))
    (cond (eqb a 6) (tells 0 0 (with_errors (lost_cleared l.errors) l))
    (cond (eqb a 8) (tells 0 0 (each (selected bits) l))
    (cond (eqb a 10) (tells 0 0 (each (cleared bits) l))
    (cond (eqb a 11) (tells 0 0 (each (enabled true bits) l)) (tells 0 0 (each (enabled false bits) l))))))))))

-- a write: "96..111 Trace trigger, filter level = address mod 16", "112..127 Resource trigger, level likewise", "32..47 software event for
-- counter 0..15", "16..23 Source Address 0..7, 32 bits"
unfoldable pub written : ℕ → ℕ → ℕ → Ledger → Entry
written a bits lines l =
    by_range a l
    (triggered (leb 112 a) (a % 16) bits lines l)
    (tells 0 0 (happened software (λ i. eqb i (a - 32)) 1 l))
    (tells 0 0 (with_sources (set l.sources (a - 16) (bits % 2 ^ 32)) l))
    (written_low a bits l)

-- "Reading gives the three settings in bits 0, 2 and 4; bit 6 FIFO full (8 samples held); bit 7 shadows busy; bits 8 and 9 the overrun
-- flags; all others zero"
abbrev pub csr_in : Ledger → ℕ
csr_in l =
    let s = l.settings in
    (cond s.sampling 1 0 + cond s.writewait 4 0 + cond s.readwait 16 0)
    + (cond (is_full (held l)) 64 0 + cond (any_held (held l)) 128 0)
    + (cond l.errors.flagfull 256 0 + cond l.errors.flagbusy 512 0)

-- a read below 16: 1 CSR, 2 Timestamp, 4 Filter, 5 Wait Counter, 6 Overrun Counter, 8 MUX SEL, 11 enabled set; 0, 10 and 12 are refused
unfoldable pub read_low : ℕ → Ledger → Entry
read_low a l =
    cond (eqb a 1) (tells 0 (csr_in l) l)
    (cond (eqb a 2) (tells 0 (l.clock % 2 ^ 56) l)
    (cond (eqb a 4) (tells 0 l.settings.filter l)
    (cond (eqb a 5) (tells 0 (l.errors.waits % 2 ^ 32) l)
    (cond (eqb a 6) (tells 0 (l.errors.lost % 2 ^ 32) l)
    (cond (eqb a 8) (tells 0 (packed (λ k. k.low) l.counters + 2 ^ 32 * packed (λ k. k.high) l.counters) l)
    (cond (eqb a 11) (tells 0 (packed (λ k. k.on) l.counters) l) (tells 3 0 l)))))))

-- "With the shadows busy: reply 10 if read wait is set, otherwise 11"; else counter i
abbrev pub counter_read : ℕ → Ledger → Entry
counter_read i l =
    cond (any_held (held l)) (cond l.settings.readwait (tells 10 0 (with_errors (waited_one l.errors) l)) (tells 11 (2 ^ 63) l))
    (tells 0 ((get_or l.counters i no_counter).events % 2 ^ 32) l)

-- a read: triggers are "refused (3)"; "that counter", "same register"
unfoldable pub read_in : ℕ → Ledger → Entry
read_in a l =
    by_range a l (tells 3 0 l) (counter_read (a - 32) l) (tells 0 (get_or l.sources (a - 16) 0) l) (read_low a l)

-- "A send that finds n words left and has room for m sends the smaller number"
abbrev pub left : Ledger → ℕ
left l = total_of First l.taken - l.sent

abbrev pub sent_more : ℕ → Ledger → Ledger
sent_more room l = with_stream l.taken (l.sent + min room (left l)) l

-- one operation
unfoldable pub entry_of : Operation → Ledger → Entry
entry_of (op_reset hundredth) l = tells 0 0 (reset_at 0 hundredth)
entry_of (op_write address bits lines) l = written address bits lines l
entry_of (op_read address) l = read_in address l
entry_of (op_ticks k) l = tells 0 0 (with_ticks k (happened slow (λ i. true) (slow_in l.hundredth l.ticks k) l))
entry_of (op_nodes k) l = tells 0 0 (happened node (λ i. true) k l)
entry_of (op_events mask) l = tells 0 0 (happened external (is_set mask) 1 l)
entry_of op_send l = cond (eqb (left l) 0) (tells 5 0 l) (tells 0 (get_or (words_of_all First l.taken) l.sent 0) (sent_more 1 l))
entry_of (op_fill room) l = tells 0 (min room (left l)) (sent_more room l)

-- ---- the fold

-- all operations, from the oldest
unfoldable pub ledger_from : Ledger → List Operation → Ledger
ledger_from l [] = l
ledger_from l (op ∷ ops) = ledger_from (entry_of op l).ledger ops

-- what a list of operations from a fresh chip says; "A fresh chip has the tenth"
abbrev pub ledger_of : List Operation → Ledger
ledger_of ops = ledger_from (reset_at 0 false) ops

-- ---- document 02's settings a second time, by a walk over the list that knows resets and writes alone

-- a yes or no after an operation: what a hardware reset makes of its choice, a write of its address and data; every other operation leaves it
unfoldable pub after_one : (Bool → Bool) → (ℕ → ℕ → Bool → Bool) → Operation → Bool → Bool
after_one reset write (op_reset hundredth) b = reset hundredth
after_one reset write (op_write address bits lines) b = write address bits b
after_one reset write (op_read address) b = b
after_one reset write (op_ticks k) b = b
after_one reset write (op_nodes k) b = b
after_one reset write (op_events mask) b = b
after_one reset write op_send b = b
after_one reset write (op_fill room) b = b

-- and after all of them
unfoldable pub after_all : (Operation → Bool → Bool) → Bool → List Operation → Bool
after_all f b [] = b
after_all f b (op ∷ ops) = after_all f (f op b) ops

-- Wish 2, "the choice in force": the last hardware reset's, and "A fresh chip has the tenth"
abbrev pub choice_after : Operation → Bool → Bool
choice_after = after_one (λ hundredth. hundredth) (λ a bits b. b)

abbrev pub choice_of : List Operation → Bool
choice_of ops = after_all choice_after false ops

-- a setting by what a reset leaves of it and by a pair of document 01's CSR bits: the even one turns it on, the one above it off, and "the odd one
-- wins"
abbrev pub setting_after : Bool → ℕ → Operation → Bool → Bool
setting_after reset even =
    after_one (λ hundredth. reset)
    (λ a bits b. cond (eqb a 0) reset (cond (eqb a 1) (cond (is_set bits (suc even)) false (cond (is_set bits even) true b)) b))

abbrev pub setting_of : Bool → ℕ → List Operation → Bool
setting_of reset even ops = after_all (setting_after reset even) reset ops

-- Wish 7, "After either reset, write wait shall be set; sampling and read wait stay off"; document 01, "Writing a 1 in bit 0 turns sampling on, in
-- bit 1 off; bit 2 sets write wait, bit 3 discard; bit 4 sets read wait, bit 5 cancels it"
abbrev pub sampling_of : List Operation → Bool
sampling_of ops = setting_of false 0 ops

abbrev pub wait_of : List Operation → Bool
wait_of ops = setting_of true 2 ops

abbrev pub read_wait_of : List Operation → Bool
read_wait_of ops = setting_of false 4 ops

-- Wish 7, "Scripts that counted on discard must write CSR bit 3 first": whether a list did since its last reset
abbrev pub discard_after : Operation → Bool → Bool
discard_after = after_one (λ hundredth. false) (λ a bits b. cond (eqb a 0) false (cond (eqb a 1) (b || is_set bits 3) b))

abbrev pub discard_of : List Operation → Bool
discard_of ops = after_all discard_after false ops

-- and a list that never did, wherever a write at 1 stands in it
abbrev pub NoDiscard : List Operation → Type 0
NoDiscard ops = (before after : List Operation) (bits lines : ℕ) → ops ≡ before ++ (op_write 1 bits lines ∷ after) → is_set bits 3 ≡ false
