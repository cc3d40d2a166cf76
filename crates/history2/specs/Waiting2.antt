-- Document 02, Wish 8, "A waiting task gets in", with Wish 9's numbers: "for this edition .. Wish 8's numbers are 84 and 224". What may come in between, the words
-- sent in it, and how single sends end the wait, on the MultiKron II; the law and its numbers are the first chip's definitions, over the edition.
use Rattle.std.specs.Prelude.{ℕ, ◌+◌, ◌%◌, ◌^◌, ◌<◌, ◌≡◌, Bool, true, false, cond, not, ◌||◌, List, [], ◌∷◌, ◌++◌, eqb, replicate}
use Rattle.chip2.specs.Operation.{Operation, op_reset, op_write, op_read, op_ticks, op_nodes, op_events, op_send, op_fill, step}
use Rattle.chip2.specs.Place.{place_of}
use Rattle.chip2.specs.declared.chip2.Chip2.{Chip2}
use Rattle.chip2.specs.declared.place.Place.{Place}
use Rattle.chip2.specs.declared.place.Place.TheVariants.{Beyond, Nowhere, Reset, Csr, Timestamp, Filter, Waits, Overruns, HighOrder, Enable, Mode, Select, Source, Counter, Shadow, Trigger}
use Rattle.history.specs.Waiting.{barred}
use Rattle.history2.specs.Run2.{run_from}
use Rattle.history2.specs.Walk2.{after_one}

-- 84 words for a Trace trigger, 224 for a Resource trigger
abbrev pub enough : Bool → ℕ
enough resource = cond resource 224 84

-- "Let there be no other trigger, reset, CSR or Filter write, but any reads, ticks, events and other writes": whether an operation may come while the trigger at an
-- address waits; a write at that address is the trigger "asked again". The addresses of such writes are the first chip's
abbrev pub may_come : ℕ → Operation → Bool
may_come address op = after_one false (λ a bits b. eqb a address || not (barred a)) op true

-- the same a second time, by what the chip finds at the address of a write
abbrev pub matters_to : Place → Bool
matters_to Beyond = false
matters_to Nowhere = false
matters_to Reset = true
matters_to Csr = true
matters_to Timestamp = false
matters_to Filter = true
matters_to Waits = false
matters_to Overruns = false
matters_to HighOrder = false
matters_to Enable = false
matters_to Mode = false
matters_to Select = false
matters_to (Source i) = false
matters_to (Counter i) = false
matters_to (Shadow i) = false
matters_to (Trigger resource level) = true

abbrev pub leaves_alone : ℕ → Operation → Bool
leaves_alone address op_reset = false
leaves_alone address (op_write a bits lines) = eqb a address || not (matters_to (place_of a))
leaves_alone address (op_read a) = true
leaves_alone address (op_ticks k levels) = true
leaves_alone address (op_nodes k levels) = true
leaves_alone address (op_events mask) = true
leaves_alone address op_send = true
leaves_alone address (op_fill room) = true

-- what came in between, from the chip that the first asking left: such operations alone, and wherever the trigger was asked again, it was not taken
pub record Between (address : ℕ) (c : Chip2) (ops : List Operation) : Type 0 where
  pub quiet : (first rest : List Operation) (op : Operation) → ops ≡ first ++ (op ∷ rest) → may_come address op ≡ true
  pub untaken : (first rest : List Operation) (bits lines : ℕ) → ops ≡ first ++ (op_write address bits lines ∷ rest) → eqb (step (op_write address bits lines) (run_from c first)).number 0 ≡ false

-- the words that an operation sends: a single send that is done one, a buffer send as many as it answers (a reset doesn't come in between)
unfoldable pub sent_by : Operation → Chip2 → ℕ
sent_by op_reset c = 0
sent_by (op_write address bits lines) c = 0
sent_by (op_read address) c = 0
sent_by (op_ticks k levels) c = 0
sent_by (op_nodes k levels) c = 0
sent_by (op_events mask) c = 0
sent_by op_send c = cond (eqb (step op_send c).number 0) 1 0
sent_by (op_fill room) c = (step (op_fill room) c).value

-- and a list
unfoldable pub words_in : Chip2 → List Operation → ℕ
words_in c [] = 0
words_in c (op ∷ ops) = sent_by op c + words_in (step op c).chip ops

-- while a trigger waits, asking it again changes nothing but the Wait Counter
abbrev pub waited_more : Chip2 → Chip2
waited_more c =
    let k = c.control in
    record {
      stamp = c.stamp;
      queue = c.queue;
      fields = c.fields;
      bank = c.bank;
      sources = c.sources;
      control =
          record { wait = (k.wait + 1) % 2 ^ 32; overrun = k.overrun; filter = k.filter; sampling = k.sampling; writewait = k.writewait; readwait = k.readwait; flagfull = k.flagfull; flagbusy = k.flagbusy; lost = k.lost };
      high = c.high;
      narrow = c.narrow;
      phase = c.phase;
    }

-- single sends alone end the wait: before each of them the trigger would be told to wait, each sends a word, and after them the trigger is taken
pub record EndsBySends (trigger : Operation) (c : Chip2) : Type 0 where
  pub sends : ℕ
  pub waits : (j : ℕ) → j < sends → (step trigger (run_from c (replicate j op_send))).number ≡ 10
  pub sending : (j : ℕ) → j < sends → (step op_send (run_from c (replicate j op_send))).number ≡ 0
  pub taken : (step trigger (run_from c (replicate sends op_send))).number ≡ 0
