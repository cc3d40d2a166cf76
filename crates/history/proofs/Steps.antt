-- Every operation keeps the relation between ledger and record, and replies what the ledger says. Assumes nothing.
use Prim.Native.Nat.{ℕ, ◌+◌, ◌-◌, ◌/◌, ◌%◌, ◌^◌, ◌<◌, min}
use native.Mathlib.Nat.{mod-add-mod, mod-lt}
use native.Mathlib.Omega.{arith}
use mathlib.Core.Path.{◌≡◌, refl, sym, ap, ap₂, ◌∙◌, subst}
use mathlib.Core.Bool.{Bool, true, false, cond, not, ◌&&◌, ◌||◌}
use mathlib.Core.List.{List, map}
use lib.Bits.{and_lt, or_lt}
use lib.Dec.{eqb, leb}
use lib.ListN.{length, get_or, replicate}
use lib.Pow.{pow_pos}
use borrow.Author.Tests.{eq-eqb, ne_eqb, eqb-true, eqb-false}
use Rattle.samples.specs.Layout.{widths}
use Rattle.samples.specs.declared.edition.Edition.TheVariants.{First}
use Rattle.counters.specs.Bank.{bit, copied, grown}
use Rattle.counters.specs.Bank.{each as Bank·each}
use Rattle.counters.specs.Due.{disabling, divisor_of, due, enabling, selecting, selects}
use Rattle.counters.specs.Due.{field_of as Kind·fieldOf}
use Rattle.counters.specs.declared.switches.Kind.{Kind}
use Rattle.counters.specs.declared.switches.Kind.TheVariants.{Slow, External, Software, Node}
use Rattle.counters.specs.declared.switches.Switches.{Switches}
use Rattle.counters.proofs.BitLaws.{bit_mod, disabled_bit, enabled_bit, high_bit, low_bit}
use Rattle.queue.specs.Queue.{advanced, busy, empty_queue, next_word, send_many, send_queue}
use Rattle.queue.specs.declared.queue.Queue.{Queue}
use Rattle.control.specs.Control.{csr_of, waited}
use Rattle.control.specs.Control.{configured as Control·configured}
use Rattle.control.specs.declared.control.Control.{Control}
use Rattle.control.specs.declared.reply.Reply.TheVariants.{Busy, NoWord, Wait}
use Rattle.chip.specs.Chip.{after_ticks, done, external_events, fresh, node_ticks, read, read_at, read_counter, replied, send, send_into, send_now, timestamp_ticks, with_bank, with_choice, with_control, with_queue, with_stamp, write, write_at}
use Rattle.chip.specs.Operation.{Operation, op_reset, op_write, op_read, op_ticks, op_nodes, op_events, op_send, op_fill, step}
use Rattle.chip.specs.Place.{place_of, register_of}
use Rattle.chip.specs.Told.{Told}
use Rattle.chip.specs.declared.chip.Chip.{Chip}
use Rattle.chip.specs.declared.place.Place.TheVariants.{Beyond, Nowhere, Csr, Source, Trigger}
use Rattle.chip.specs.declared.place.Place.TheVariants.{Counter as Place-as-Counter}
use Rattle.history.specs.Ledger.{Counter, Entry, Ledger, by_range, cleared, configured, counted, counter_read, csr_in, each, each_from, enabled, mux_of, happened, held, is_set, left, no_counter, packed, read_in, read_low, reset_at, selected, sent_more, slow_in, tells, entry_of, vacant, waited_one, with_errors, with_settings, with_stream, with_ticks, written, written_low}
use Rattle.history.specs.Stream.{any_held, is_full, total_of, words_of_all}
use Rattle.history.proofs.Addresses.{by_place, range_beyond, range_counter, range_source, range_trigger, range_vacant}
use Rattle.history.proofs.Agrees.{Agrees, Good, Kept, chip_for, control_of, kept_guarded, send_entry, switches_of, switches_with}
use Rattle.history.proofs.ControlLaws.{configured_control, csr_same}
use Rattle.history.proofs.CountLaws.{counted_value, each_length, each_same, packed_bit, packed_each, packed_lt, packed_same, selects_number, slow_same, under, value_at_lem, value_of, values_each}
use Rattle.history.proofs.HeldLaws.{Sixteen}
use Rattle.history.proofs.HoldsLaws.{Holds, holds_advanced, holds_busy, holds_copied, holds_empty, holds_full, holds_none, holds_some, next_is, many, many_count}
use Rattle.history.proofs.Triggers.{told, trigger_kept}

-- a reset record, whatever was before
pub reset_record : (clock : ℕ) (hundredth : Bool) → with_stamp (clock % 2 ^ 56) (with_choice hundredth fresh) ≡ chip_for (reset_at clock hundredth) empty_queue (replicate 16 0)
unfolding packed
reset_record clock true = refl
reset_record clock false = refl

pub reset_good : (clock : ℕ) (hundredth : Bool) → Good (reset_at clock hundredth) empty_queue (replicate 16 0)
reset_good clock hundredth = record { holds = holds_empty First (replicate 16 0); sixteen = tt; counters = refl }

module _ (l : Ledger) (q : Queue) (sh : List ℕ) (g : Good l q sh) where
  -- the same record
  same : (n v : ℕ) (t : Told) → t.chip ≡ chip_for l q sh → t.number ≡ n → t.value ≡ v → Kept (tells n v l) t
  same n v t e p r = record { agrees = record { queue = q; shadows = sh; is = e; good = g }; number = p; value = r }

  -- another part of the ledger that neither the stream nor the counters are in
  other : (l' : Ledger) (c : Chip) → c ≡ chip_for l' q sh → l'.taken ≡ l.taken → l'.sent ≡ l.sent → l'.counters ≡ l.counters → Kept (tells 0 0 l') (done 0 c)
  other l' c e t s v =
      record {
        agrees =
            record {
              queue = q;
              shadows = sh;
              is = e;
              good =
                  record {
                    holds = subst (λ (ss : _). Holds First ss l'.sent sh q) (sym t) (subst (λ (n : ℕ). Holds First l.taken n sh q) (sym s) g.holds);
                    sixteen = subst Sixteen (sym t) g.sixteen;
                    counters = ap length v ∙ g.counters;
                  };
            };
        number = refl;
        value = refl;
      }

  -- 1
  configured_kept : (bits : ℕ) → Kept (tells 0 0 (with_settings (configured bits l.settings) l)) (done 0 (with_control (Control·configured bits (control_of l)) (chip_for l q sh)))
  configured_kept bits =
      other (with_settings (configured bits l.settings) l) _
      (ap (λ (k : Control). with_control k (chip_for l q sh)) (configured_control bits l.settings l.errors))
      refl refl refl

  -- ---- something is done to each counter

  -- the record with other counters and switches
  with_counted : List ℕ → Switches → Chip
  with_counted values s =
      record { stamp = l.clock % 2 ^ 56; queue = q; bank = record { values = values; shadows = sh }; sources = l.sources; control = control_of l; switches = s }

  each_kept : (f : ℕ → Counter → Counter) (values : List ℕ) (s : Switches) → values ≡ map value_of (each_from 0 f l.counters) → s ≡ switches_of (each f l) → Kept (tells 0 0 (each f l)) (done 0 (with_counted values s))
  unfolding with_counted
  each_kept f values s v e =
      record {
        agrees =
            record {
              queue = q;
              shadows = sh;
              is = ap₂ with_counted v e;
              good = record { holds = g.holds; sixteen = g.sixteen; counters = each_length 0 f l.counters ∙ g.counters };
            };
        number = refl;
        value = refl;
      }

  -- counter j's bit of a register
  bit_of : (p : Counter → Bool) (j : ℕ) → j < 16 → bit (packed p l.counters) j ≡ p (get_or l.counters j no_counter)
  bit_of p j h = packed_bit p l.counters j (rw g.counters h)

  register_of_lem : (p : Counter → Bool) (f : ℕ → Counter → Counter) (x : ℕ) → x < 2 ^ 16 → ((j : ℕ) → j < 16 → bit x j ≡ p (f j (get_or l.counters j no_counter))) → x ≡ packed p (each_from 0 f l.counters)
  register_of_lem p f x h e = packed_each p f l.counters 16 x g.counters h e

  few : (p : Counter → Bool) → packed p l.counters < 2 ^ 16
  few p = subst (λ (n : ℕ). packed p l.counters < 2 ^ n) g.counters (packed_lt p l.counters)

  -- 11 and 12: the counters of the set bits become b
  switched_kept : (b : Bool) (bits x : ℕ) → x < 2 ^ 16 → ((j : ℕ) → j < 16 → bit x j ≡ cond (is_set bits j) b (bit (packed (λ k. k.on) l.counters) j)) → Kept (tells 0 0 (each (enabled b bits) l)) (done 0 (with_counted (map value_of l.counters) (switches_with x (packed (λ k. k.low) l.counters) (packed (λ k. k.high) l.counters) l)))
  switched_kept b bits x h e =
      each_kept f _ _ (sym (each_same value_of 0 f l.counters (λ j k. under value_of (is_set bits j) (next k) k refl)))
      (λ i.
      switches_with
      (register_of_lem (λ k. k.on) f x h (λ j p. e j p ∙ ap (cond (is_set bits j) b) (bit_of (λ k. k.on) j p) ∙ on (is_set bits j) (get_or l.counters j no_counter)) i)
      (packed_same (λ k. k.low) 0 f l.counters (λ j k. under (λ m. m.low) (is_set bits j) (next k) k refl) i)
      (packed_same (λ k. k.high) 0 f l.counters (λ j k. under (λ m. m.high) (is_set bits j) (next k) k refl) i)
      l)
    where
      f : ℕ → Counter → Counter
      f = enabled b bits

      next : Counter → Counter
      next k = record { on = b; high = k.high; low = k.low; events = k.events }

      on : (t : Bool) (k : Counter) → cond t b k.on ≡ (cond t (next k) k).on
      on true k = refl
      on false k = refl

  enable_kept : (bits : ℕ) → Kept (tells 0 0 (each (enabled true bits) l)) (done 0 (with_counted (map value_of l.counters) (enabling bits (switches_of l))))
  enable_kept bits =
      switched_kept true bits _ (or_lt 16 _ _ (few (λ k. k.on)) (mod-lt bits (pow_pos 16)))
      (λ j h. enabled_bit bits (switches_of l) j h ∙ go (bit (packed (λ k. k.on) l.counters) j) (is_set bits j))
    where
      go : (x t : Bool) → (x || t) ≡ cond t true x
      go true true = refl
      go true false = refl
      go false true = refl
      go false false = refl

  disable_kept : (bits : ℕ) → Kept (tells 0 0 (each (enabled false bits) l)) (done 0 (with_counted (map value_of l.counters) (disabling bits (switches_of l))))
  disable_kept bits =
      switched_kept false bits _ (and_lt 16 _ _ (few (λ k. k.on)) (omega arith))
      (λ j h. disabled_bit bits (switches_of l) j h ∙ go (bit (packed (λ k. k.on) l.counters) j) (is_set bits j))
    where
      go : (x t : Bool) → (x && not t) ≡ cond t false x
      go true true = refl
      go true false = refl
      go false true = refl
      go false false = refl

  -- 8
  select_kept : (bits : ℕ) → Kept (tells 0 0 (each (selected bits) l)) (done 0 (with_counted (map value_of l.counters) (selecting bits (switches_of l))))
  select_kept bits =
      each_kept (selected bits) _ _ (sym (each_same value_of 0 (selected bits) l.counters (λ j k. refl)))
      (λ i.
      switches_with
      (packed_same (λ k. k.on) 0 (selected bits) l.counters (λ j k. refl) i)
      (register_of_lem (λ k. k.low) (selected bits) _ (mod-lt bits (pow_pos 16)) (λ j h. low_bit bits (switches_of l) j h) i)
      (register_of_lem (λ k. k.high) (selected bits) _ (mod-lt (bits / 2 ^ 32) (pow_pos 16)) (λ j h. high_bit bits (switches_of l) j h) i)
      l)

  -- what changes events alone
  events_kept : (f : ℕ → Counter → Counter) (values : List ℕ) → ((j : ℕ) (k : Counter) → ((f j k).on ≡ k.on) × (((f j k).high ≡ k.high) × ((f j k).low ≡ k.low))) → values ≡ map value_of (each_from 0 f l.counters) → Kept (tells 0 0 (each f l)) (done 0 (with_counted values (switches_of l)))
  events_kept f values e v =
      each_kept f values (switches_of l) v
      (λ i.
      switches_with
      (packed_same (λ k. k.on) 0 f l.counters (λ j k. (e j k).0) i)
      (packed_same (λ k. k.low) 0 f l.counters (λ j k. (e j k).1.1) i)
      (packed_same (λ k. k.high) 0 f l.counters (λ j k. (e j k).1.0) i)
      l)

  -- 10
  clear_kept : (bits : ℕ) → Kept (tells 0 0 (each (cleared bits) l)) (done 0 (with_counted (Bank·each (λ i v. cond (bit (bits % 2 ^ 16) i) 0 v) 0 (map value_of l.counters)) (switches_of l)))
  clear_kept bits =
      events_kept (cleared bits) _ (λ j k. go (is_set bits j) k)
      (values_each (λ i v. cond (bit (bits % 2 ^ 16) i) 0 v) (cleared bits) l.counters
      (λ j h. ap (λ (b : Bool). cond b 0 (value_of (get_or l.counters j no_counter))) (bit_mod 16 bits j (rw g.counters at h)) ∙ value (is_set bits j) (get_or l.counters j no_counter)))
    where
      next : Bool → Counter → Counter
      next t k = cond t (record { on = k.on; high = k.high; low = k.low; events = 0 }) k

      go : (t : Bool) (k : Counter) → ((next t k).on ≡ k.on) × (((next t k).high ≡ k.high) × ((next t k).low ≡ k.low))
      go true k = (refl, (refl, refl))
      go false k = (refl, (refl, refl))

      value : (t : Bool) (k : Counter) → cond t 0 (value_of k) ≡ value_of (next t k)
      value true k = refl
      value false k = refl

  -- ---- events: n of a kind, for the counters that a test names

  -- "An event counts if the counter is enabled and its field selects that kind"
  due_same : (kind : Kind) (j : ℕ) → j < 16 → due kind (switches_of l) j ≡ ((get_or l.counters j no_counter).on && eqb (mux_of (get_or l.counters j no_counter)) (Kind·fieldOf kind))
  due_same kind j h =
      let k : Counter = get_or l.counters j no_counter in
      (λ i. bit_of (λ m. m.on) j h i && selects kind (bit_of (λ m. m.high) j h i) (bit_of (λ m. m.low) j h i))
      ∙ ap (λ (b : Bool). k.on && b) (selects_number kind k.high k.low)

  happened_by : Kind → (ℕ → Bool) → ℕ → ℕ → Counter → Counter
  happened_by kind t n j k = cond (t j) (counted (Kind·fieldOf kind) n k) k

  -- their counters' numbers
  happened_values : (kind : Kind) (t : ℕ → Bool) (n : ℕ) → Bank·each (λ j v. cond (t j && due kind (switches_of l) j) (grown v n) v) 0 (map value_of l.counters) ≡ map value_of (each_from 0 (happened_by kind t n) l.counters)
  unfolding happened_by
  happened_values kind t n =
      values_each (λ j v. cond (t j && due kind (switches_of l) j) (grown v n) v) (happened_by kind t n) l.counters
      (λ j h.
      let k : Counter = get_or l.counters j no_counter in
      ap (λ (b : Bool). cond (t j && b) (grown (value_of k) n) (value_of k)) (due_same kind j (rw g.counters at h))
      ∙ counted_value (t j) (k.on && eqb (mux_of k) (Kind·fieldOf kind)) n k)

  -- and nothing else of them
  happened_else : (kind : Kind) (t : ℕ → Bool) (n j : ℕ) (k : Counter) → ((happened_by kind t n j k).on ≡ k.on) × (((happened_by kind t n j k).high ≡ k.high) × ((happened_by kind t n j k).low ≡ k.low))
  unfolding happened_by
  happened_else kind t n j k = go (t j) (k.on && eqb (mux_of k) (Kind·fieldOf kind))
    where
      next : Bool → Bool → Counter
      next a b = cond a (cond b (record { on = k.on; high = k.high; low = k.low; events = k.events + n }) k) k

      go : (a b : Bool) → ((next a b).on ≡ k.on) × (((next a b).high ≡ k.high) × ((next a b).low ≡ k.low))
      go true true = (refl, (refl, refl))
      go true false = (refl, (refl, refl))
      go false b = (refl, (refl, refl))

  happened_kept : (kind : Kind) (t : ℕ → Bool) (n : ℕ) → Kept (tells 0 0 (happened (Kind·fieldOf kind) t n l)) (done 0 (with_counted (Bank·each (λ j v. cond (t j && due kind (switches_of l) j) (grown v n) v) 0 (map value_of l.counters)) (switches_of l)))
  unfolding happened_by
  happened_kept kind t n = events_kept (happened_by kind t n) _ (happened_else kind t n) (happened_values kind t n)

  -- ---- writes

  write_kept : (bits lines a : ℕ) → Kept (written a bits lines l) (write_at (place_of a) bits lines (chip_for l q sh))
  unfolding written write_at by_range vacant written_low register_of with_counted
  write_kept bits lines =
      by_place (λ a p. Kept (written a bits lines l) (write_at p bits lines (chip_for l q sh))) (
        same 2 0 _ refl refl refl,
        (
          same 2 0 _ refl refl refl,
          (
            same 2 0 _ refl refl refl,
            (
              disable_kept bits,
              (
                enable_kept bits,
                (
                  clear_kept bits,
                  (
                    same 2 0 _ refl refl refl,
                    (
                      select_kept bits,
                      (
                        same 2 0 _ refl refl refl,
                        (
                          other _ _ refl refl refl refl,
                          (
                            other _ _ refl refl refl refl,
                            (
                              other _ _ refl refl refl refl,
                              (
                                same 2 0 _ refl refl refl,
                                (
                                  same 3 0 _ refl refl refl,
                                  (
                                    configured_kept bits,
                                    (
                                      record { agrees = record { queue = empty_queue; shadows = replicate 16 0; is = reset_record l.clock l.hundredth; good = reset_good l.clock l.hundredth }; number = refl; value = refl },
                                      tt,
                                    ),
                                  ),
                                ),
                              ),
                            ),
                          ),
                        ),
                      ),
                    ),
                  ),
                ),
              ),
            ),
          ),
        ),
      )
      (λ a p h. subst (λ (e : Entry). Kept e (write_at (Source (a - 16)) bits lines (chip_for l q sh))) (sym (range_source a l _ _ _ _ p h)) (other _ _ refl refl refl refl))
      (λ a p h. subst (λ (e : Entry). Kept e (write_at (Place-as-Counter (a - 32)) bits lines (chip_for l q sh))) (sym (range_counter a l _ _ _ _ p h)) (happened_kept Software (λ i. eqb i (a - 32)) 1))
      (λ a p h. subst (λ (e : Entry). Kept e (write_at (Trigger (leb 112 a) (a % 16)) bits lines (chip_for l q sh))) (sym (range_trigger a l _ _ _ _ p h)) (trigger_kept l q sh g (leb 112 a) (a % 16) bits lines))
      (λ a p v. subst (λ (e : Entry). Kept e (write_at Nowhere bits lines (chip_for l q sh))) (sym (range_vacant a l _ _ _ _ p v)) (same 2 0 _ refl refl refl))
      (λ a p. subst (λ (e : Entry). Kept e (write_at Beyond bits lines (chip_for l q sh))) (sym (range_beyond a l _ _ _ _ p)) (same 1 0 _ refl refl refl))

  -- ---- reads

  counter_told : ℕ → Bool → Bool → Told
  counter_told i b w =
      cond b
      (cond w (replied Wait (with_control (waited (control_of l)) (chip_for l q sh))) (replied Busy (chip_for l q sh)))
      (done (get_or (map value_of l.counters) i 0) (with_bank (copied (record { values = map value_of l.counters; shadows = sh })) (chip_for l q sh)))

  counter_entry : ℕ → Bool → Bool → Entry
  counter_entry i b w =
      cond b (cond w (tells 10 0 (with_errors (waited_one l.errors) l)) (tells 11 (2 ^ 63) l)) (tells 0 ((get_or l.counters i no_counter).events % 2 ^ 32) l)

  counter_by : (i : ℕ) (b w : Bool) → busy q ≡ b → Kept (counter_entry i b w) (counter_told i b w)
  unfolding counter_entry counter_told
  counter_by i true true e = told l q sh g
  counter_by i true false e = same 11 (2 ^ 63) _ refl refl refl
  counter_by i false w e =
      record {
        agrees =
            record {
              queue = q;
              shadows = map value_of l.counters;
              is = refl;
              good = record { holds = holds_copied First l.taken l.sent sh q g.holds (map value_of l.counters) e; sixteen = g.sixteen; counters = g.counters };
            };
        number = refl;
        value = value_at_lem l.counters i;
      }

  counter_kept : (i : ℕ) → Kept (counter_read i l) (read_counter i (chip_for l q sh))
  unfolding read_counter counter_entry counter_told
  counter_kept i =
      let e : busy q ≡ any_held (held l) = holds_busy First l.taken l.sent sh q g.holds in
      subst (Kept (counter_read i l)) (λ k. counter_told i (sym e k) l.settings.readwait)
      (counter_by i (any_held (held l)) l.settings.readwait e)

  csr_kept : Kept (tells 0 (csr_in l) l) (read_at Csr (chip_for l q sh))
  unfolding read_at
  csr_kept =
      same 0 _ _ refl refl
      (ap₂ (λ (a b : Bool). csr_of a b (control_of l)) (holds_full First l.taken l.sent sh q g.holds) (holds_busy First l.taken l.sent sh q g.holds)
      ∙ csr_same (is_full (held l)) (any_held (held l)) l.settings l.errors)

  read_kept : (a : ℕ) → Kept (read_in a l) (read_at (place_of a) (chip_for l q sh))
  unfolding read_in read_at by_range vacant read_low register_of
  read_kept =
      by_place (λ a p. Kept (read_in a l) (read_at p (chip_for l q sh))) (
        same 2 0 _ refl refl refl,
        (
          same 2 0 _ refl refl refl,
          (
            same 2 0 _ refl refl refl,
            (
              same 3 0 _ refl refl refl,
              (
                same 0 _ _ refl refl refl,
                (
                  same 3 0 _ refl refl refl,
                  (
                    same 2 0 _ refl refl refl,
                    (
                      same 0 _ _ refl refl refl,
                      (
                        same 2 0 _ refl refl refl,
                        (
                          same 0 _ _ refl refl refl,
                          (
                            same 0 _ _ refl refl refl,
                            (
                              same 0 _ _ refl refl refl,
                              (
                                same 2 0 _ refl refl refl,
                                (
                                  same 0 _ _ refl refl refl,
                                  (
                                    csr_kept,
                                    (
                                      same 3 0 _ refl refl refl,
                                      tt,
                                    ),
                                  ),
                                ),
                              ),
                            ),
                          ),
                        ),
                      ),
                    ),
                  ),
                ),
              ),
            ),
          ),
        ),
      )
      (λ a p h. subst (λ (e : Entry). Kept e (read_at (Source (a - 16)) (chip_for l q sh))) (sym (range_source a l _ _ _ _ p h)) (same 0 _ _ refl refl refl))
      (λ a p h. subst (λ (e : Entry). Kept e (read_at (Place-as-Counter (a - 32)) (chip_for l q sh))) (sym (range_counter a l _ _ _ _ p h)) (counter_kept (a - 32)))
      (λ a p h. subst (λ (e : Entry). Kept e (read_at (Trigger (leb 112 a) (a % 16)) (chip_for l q sh))) (sym (range_trigger a l _ _ _ _ p h)) (same 3 0 _ refl refl refl))
      (λ a p v. subst (λ (e : Entry). Kept e (read_at Nowhere (chip_for l q sh))) (sym (range_vacant a l _ _ _ _ p v)) (same 2 0 _ refl refl refl))
      (λ a p. subst (λ (e : Entry). Kept e (read_at Beyond (chip_for l q sh))) (sym (range_beyond a l _ _ _ _ p)) (same 1 0 _ refl refl refl))

  -- ---- ticks

  ticks_kept : (k : ℕ) → Kept (tells 0 0 (with_ticks k (happened (Kind·fieldOf Slow) (λ i. true) (slow_in l.hundredth l.ticks k) l))) (done 0 (after_ticks k (chip_for l q sh)))
  unfolding happened_by
  ticks_kept k =
      let n : ℕ = slow_in l.hundredth l.ticks k in
      let d : ℕ = divisor_of l.hundredth in
      let f : ℕ → Counter → Counter = happened_by Slow (λ i. true) n in
      let values : Bank·each (λ j v. cond (due Slow (switches_of l) j) (grown v ((l.ticks % d + k) / d)) v) 0 (map value_of l.counters) ≡ map value_of (each_from 0 f l.counters) =
      ap (λ (m : ℕ). Bank·each (λ j v. cond (due Slow (switches_of l) j) (grown v m) v) 0 (map value_of l.counters)) (sym (slow_same l.hundredth l.ticks k)) ∙ happened_values Slow (λ i. true) n in
      record {
        agrees =
            record {
              queue = q;
              shadows = sh;
              is =
                  λ j.
                  record {
                    stamp = mod-add-mod l.clock (2 ^ 56) k j;
                    queue = q;
                    bank = record { values = values j; shadows = sh };
                    sources = l.sources;
                    control = control_of l;
                    switches =
                        record {
                          enabled = packed_same (λ m. m.on) 0 f l.counters (λ i m. (happened_else Slow (λ x. true) n i m).0) j;
                          low = packed_same (λ m. m.low) 0 f l.counters (λ i m. (happened_else Slow (λ x. true) n i m).1.1) j;
                          high = packed_same (λ m. m.high) 0 f l.counters (λ i m. (happened_else Slow (λ x. true) n i m).1.0) j;
                          phase = mod-add-mod l.ticks d k j;
                          hundredth = l.hundredth;
                        };
                  };
              good = record { holds = g.holds; sixteen = g.sixteen; counters = each_length 0 f l.counters ∙ g.counters };
            };
        number = refl;
        value = refl;
      }

  -- ---- sends

  -- another queue that holds what is left after more words
  sent_kept : (m v : ℕ) (q' : Queue) (a : Told) → Holds First l.taken (l.sent + m) sh q' → a.chip ≡ with_queue q' (chip_for l q sh) → a.number ≡ 0 → a.value ≡ v → Kept (tells 0 v (with_stream l.taken (l.sent + m) l)) a
  sent_kept m v q' a h e p r =
      record { agrees = record { queue = q'; shadows = sh; is = e; good = record { holds = h; sixteen = g.sixteen; counters = g.counters } }; number = p; value = r }

  -- a single send
  send_kept : Kept (send_entry l (eqb (left l) 0)) (send_now (chip_for l q sh))
  send_kept = go (eqb q.held 0) refl
    where
      go : (b : Bool) → eqb q.held 0 ≡ b → Kept (send_entry l (eqb (left l) 0)) (cond b (replied NoWord (chip_for l q sh)) (done (next_word (widths First) sh q) (with_queue (advanced (widths First) q) (chip_for l q sh))))
      go true e =
          let none : left l ≡ 0 = holds_none First l.taken l.sent sh q g.holds (eqb-true q.held 0 e) in
          subst (λ (b : Bool). Kept (send_entry l b) (replied NoWord (chip_for l q sh))) (sym (eq-eqb (left l) 0 none)) (same 5 0 _ refl refl refl)
      go false e =
          let f : q.held ≡ 0 → ⊥ = eqb-false q.held 0 e in
          let some : l.sent < total_of First l.taken = holds_some First l.taken l.sent sh q g.holds f in
          let now : l.sent + 1 ≡ l.sent + min 1 (left l) = omega arith in
          subst (λ (b : Bool). Kept (send_entry l b) (done (next_word (widths First) sh q) (with_queue (advanced (widths First) q) (chip_for l q sh)))) (sym (ne_eqb (left l) 0 (λ z. omega arith)))
          (sent_kept (min 1 (left l)) _ (advanced (widths First) q) _
          (subst (λ (n : ℕ). Holds First l.taken n sh (advanced (widths First) q)) now (holds_advanced First l.taken l.sent sh q g.holds g.sixteen f))
          refl
          refl
          (next_is First l.taken l.sent sh q g.holds g.sixteen f))

  -- a buffer send
  fill_kept : (room : ℕ) → Kept (tells 0 (min room (left l)) (sent_more room l)) (done (send_many (widths First) room sh q).count (with_queue (send_many (widths First) room sh q).queue (chip_for l q sh)))
  unfolding send_many
  fill_kept room =
      sent_kept (min room (left l)) (min room (left l)) (send_queue (widths First) room q) _
      (many First l.taken g.sixteen sh room l.sent q g.holds).1
      refl
      refl
      (many_count First l.taken g.sixteen sh room l.sent q g.holds)

-- every operation on a record that a ledger leaves
pub step_kept : (op : Operation) (l : Ledger) (q : Queue) (sh : List ℕ) → Good l q sh → Kept (entry_of op l) (step op (chip_for l q sh))
unfolding entry_of with_counted write read timestamp_ticks node_ticks external_events send send_into
step_kept (op_reset hundredth) l q sh g =
    record { agrees = record { queue = empty_queue; shadows = replicate 16 0; is = reset_record 0 hundredth; good = reset_good 0 hundredth }; number = refl; value = refl }
step_kept (op_write address bits lines) l q sh g = kept_guarded l q sh _ _ g (write_kept l q sh g bits lines address)
step_kept (op_read address) l q sh g = kept_guarded l q sh _ _ g (read_kept l q sh g address)
step_kept (op_ticks k) l q sh g = kept_guarded l q sh _ _ g (ticks_kept l q sh g k)
step_kept (op_nodes k) l q sh g = kept_guarded l q sh _ _ g (happened_kept l q sh g Node (λ i. true) k)
step_kept (op_events mask) l q sh g = kept_guarded l q sh _ _ g (happened_kept l q sh g External (is_set mask) 1)
step_kept op_send l q sh g = kept_guarded l q sh _ _ g (send_kept l q sh g)
step_kept (op_fill room) l q sh g = kept_guarded l q sh _ _ g (fill_kept l q sh g room)

pub agrees_step : (op : Operation) (l : Ledger) (c : Chip) → Agrees l c → Kept (entry_of op l) (step op c)
agrees_step op l c a = subst (λ (x : Chip). Kept (entry_of op l) (step op x)) (sym a.is) (step_kept op l a.queue a.shadows a.good)

-- ---- a single send, on the ledger and by its answer
pub send_leaves : (l : Ledger) → (entry_of op_send l).ledger ≡ sent_more 1 l
unfolding entry_of
send_leaves l = go (eqb (left l) 0) refl
  where
    go : (b : Bool) → eqb (left l) 0 ≡ b → (send_entry l b).ledger ≡ sent_more 1 l
    go true e =
        let none : l.sent ≡ l.sent + min 1 (left l) = omega (arith, eqb-true (left l) 0 e) in
        ap (λ (n : ℕ). with_stream l.taken n l) none
    go false e = refl

pub send_number : (l : Ledger) (c : Chip) → Agrees l c → (step op_send c).number ≡ cond (eqb (left l) 0) 5 0
unfolding entry_of
send_number l c a = (agrees_step op_send l c a).number ∙ go (eqb (left l) 0)
  where
    go : (b : Bool) → (send_entry l b).number ≡ cond b 5 0
    go true = refl
    go false = refl

pub send_value : (l : Ledger) (c : Chip) → Agrees l c → eqb (left l) 0 ≡ false → (step op_send c).value ≡ get_or (words_of_all First l.taken) l.sent 0
unfolding entry_of
send_value l c a e = (agrees_step op_send l c a).value ∙ ap (λ (b : Bool). (send_entry l b).value) e
