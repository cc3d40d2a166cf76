-- Document 02, Wish 8, "A waiting task gets in": after how many words a trigger that is told to wait has room. First the law's numbers, over what the
-- editions and the shadow sets differ in; then, for this chip, what may come in between, the words sent in it, and how single sends end the wait.
use Rattle.std.specs.Prelude.{ℕ, ◌+◌, ◌-◌, ◌*◌, ◌%◌, ◌^◌, ◌≤◌, ◌<◌, ◌≡◌, Bool, true, false, cond, not, ◌&&◌, ◌||◌, List, [], ◌∷◌, ◌++◌, eqb, leb, length, replicate}
use Rattle.samples.specs.Layout.{resource}
use Rattle.samples.specs.declared.edition.Edition.{Edition}
use Rattle.samples.specs.declared.sample.Sample.{Sample}
use Rattle.chip.specs.Operation.{Operation, op_reset, op_write, op_read, op_ticks, op_nodes, op_events, op_send, op_fill, step}
use Rattle.chip.specs.Place.{place_of}
use Rattle.chip.specs.declared.chip.Chip.{Chip}
use Rattle.chip.specs.declared.place.Place.{Place}
use Rattle.chip.specs.declared.place.Place.TheVariants.{Beyond, Nowhere, Reset, Csr, Timestamp, Filter, Waits, Overruns, Mux, Clear, Enable, Disable, Source, Counter, Trigger}
use Rattle.history.specs.Ledger.{after_one, gap}
use Rattle.history.specs.Run.{run_from}
use Rattle.history.specs.Stream.{held_of, total_of}

-- ---- the law: n places, Trace samples of a words and Resource samples of b, of which r may be held

-- how many of some pass a test
unfoldable pub count_of : {A : Type 0} → (A → Bool) → List A → ℕ
count_of f [] = 0
count_of f (s ∷ ss) = cond (f s) 1 0 + count_of f ss

-- "A trigger lacks room if 8 are held, or if it is a Resource trigger and a Resource sample is held", with n for 8 and r for one
abbrev pub lacks_at : {A : Type 0} → (A → Bool) → ℕ → ℕ → Bool → List A → Bool
lacks_at f n r resource held = leb n (length held) || (resource && leb r (count_of f held))

-- "A Trace trigger is taken at the latest after" the words of a Resource sample, the longest where a ≤ b, "a Resource trigger after" those of as many Trace
-- samples as find room beside r Resource samples, and of one of these
abbrev pub within : ℕ → ℕ → ℕ → ℕ → Bool → ℕ
within n r a b resource = cond resource ((n - r) * a + b) b

-- held samples that need as many; yes is a Resource sample. For a Trace trigger one before Trace samples, for a Resource trigger r behind them
abbrev pub slowest : ℕ → ℕ → Bool → List Bool
slowest n r resource = cond resource (replicate (n - r) false ++ replicate r true) (true ∷ replicate (n - 1) false)

-- whether a sample is a Resource sample
abbrev pub kind_of : Sample → Bool
kind_of s = resource s.header

-- what the places have room for, of the samples taken and the words sent: no more than n are held, r Resource samples among them, and no more words are
-- sent than there are
abbrev pub Fits : Edition → ℕ → ℕ → List Sample → ℕ → Type 0
Fits ed n r taken sent =
    (length (held_of ed taken sent) ≤ n) × ((count_of kind_of (held_of ed taken sent) ≤ r) × (sent ≤ total_of ed taken))

-- ---- this chip

-- "80 words" for a Trace trigger, "192 words" for a Resource trigger
abbrev pub enough : Bool → ℕ
enough resource = cond resource 192 80

-- "Let there be no other trigger, reset, CSR or Filter write, but any reads, ticks, events and other writes": addresses of such writes, and whether an
-- operation may come while the trigger at an address waits; a write at that address is the trigger "asked again"
abbrev pub barred : ℕ → Bool
barred a = eqb a 0 || (eqb a 1 || (eqb a 4 || gap 96 127 a))

abbrev pub may_come : ℕ → Operation → Bool
may_come address op = after_one (λ hundredth. false) (λ a bits b. eqb a address || not (barred a)) op true

-- the same a second time, by what the chip finds at the address of a write
abbrev pub matters_to : Place → Bool
matters_to Beyond = false
matters_to Nowhere = false
matters_to Reset = true
matters_to Csr = true
matters_to Timestamp = false
matters_to Filter = true
matters_to Waits = false
matters_to Overruns = false
matters_to Mux = false
matters_to Clear = false
matters_to Enable = false
matters_to Disable = false
matters_to (Source i) = false
matters_to (Counter i) = false
matters_to (Trigger resource level) = true

abbrev pub leaves_alone : ℕ → Operation → Bool
leaves_alone address (op_reset hundredth) = false
leaves_alone address (op_write a bits lines) = eqb a address || not (matters_to (place_of a))
leaves_alone address (op_read a) = true
leaves_alone address (op_ticks k) = true
leaves_alone address (op_nodes k) = true
leaves_alone address (op_events mask) = true
leaves_alone address op_send = true
leaves_alone address (op_fill room) = true

-- what came in between, from the chip that the first asking left: such operations alone, and wherever the trigger was asked again, it was not taken
pub record Between (address : ℕ) (c : Chip) (ops : List Operation) : Type 0 where
  pub quiet : (first rest : List Operation) (op : Operation) → ops ≡ first ++ (op ∷ rest) → may_come address op ≡ true
  pub untaken : (first rest : List Operation) (bits lines : ℕ) → ops ≡ first ++ (op_write address bits lines ∷ rest) → eqb (step (op_write address bits lines) (run_from c first)).number 0 ≡ false

-- the words that an operation sends: a single send that is done one, a buffer send as many as it answers (a reset doesn't come in between)
unfoldable pub sent_by : Operation → Chip → ℕ
sent_by (op_reset hundredth) c = 0
sent_by (op_write address bits lines) c = 0
sent_by (op_read address) c = 0
sent_by (op_ticks k) c = 0
sent_by (op_nodes k) c = 0
sent_by (op_events mask) c = 0
sent_by op_send c = cond (eqb (step op_send c).number 0) 1 0
sent_by (op_fill room) c = (step (op_fill room) c).value

-- and a list
unfoldable pub words_in : Chip → List Operation → ℕ
words_in c [] = 0
words_in c (op ∷ ops) = sent_by op c + words_in (step op c).chip ops

-- while a trigger waits, asking it again changes nothing but the Wait Counter
abbrev pub waited_more : Chip → Chip
waited_more c =
    let k = c.control in
    record {
      stamp = c.stamp;
      queue = c.queue;
      bank = c.bank;
      sources = c.sources;
      control =
          record { wait = (k.wait + 1) % 2 ^ 32; overrun = k.overrun; filter = k.filter; sampling = k.sampling; writewait = k.writewait; readwait = k.readwait; flagfull = k.flagfull; flagbusy = k.flagbusy; lost = k.lost };
      switches = c.switches;
    }

-- single sends alone end the wait: before each of them the trigger would be told to wait, each sends a word, and after them the trigger is taken
pub record EndsBySends (trigger : Operation) (c : Chip) : Type 0 where
  pub sends : ℕ
  pub waits : (j : ℕ) → j < sends → (step trigger (run_from c (replicate j op_send))).number ≡ 10
  pub sending : (j : ℕ) → j < sends → (step op_send (run_from c (replicate j op_send))).number ≡ 0
  pub taken : (step trigger (run_from c (replicate sends op_send))).number ≡ 0
