-- The MultiKron II's data path: what a read leaves in the High Order register and in the rest of the record, what a write takes from it, and what
-- stands in the unused bits of each register. By the cases of places and by computation. Assumes, where said, a record inside its bounds.
use Prim.Native.Nat.{ℕ, ◌+◌, ◌-◌, ◌*◌, ◌/◌, ◌%◌, ◌^◌, ◌<◌}
use native.Mathlib.Omega.{arith}
use mathlib.Core.Path.{◌≡◌, refl, sym, ap, ap₂, ◌∙◌}
use mathlib.Core.Bool.{Bool, true, false, cond, not}
use lib.Dec.{eqb, leb}
use lib.ListN.{get_or}
use borrow.Author.Tests.{eq-eqb, ne_eqb}
use Rattle.counters.specs.Bank.{copied}
use Rattle.queue.specs.Queue.{busy}
use Rattle.control.specs.Control.{csr_of, one, waited}
use Rattle.control.specs.declared.reply.Reply.TheVariants.{Busy, Wait}
use Rattle.control.proofs.StatusLaws.{csr_below}
use Rattle.chip.specs.Place.{between}
use Rattle.chip.proofs.ChipLaws.{either}
use Rattle.chip2.specs.Chip2.{data_of, done, given, guarded, inside, ones_above, read, read_at, read_counter, replied, with_bank, with_control, with_high, write, write_at}
use Rattle.chip2.specs.Operation.{Operation, op_read, op_write, step}
use Rattle.chip2.specs.Place.{place_of, register_of}
use Rattle.chip2.specs.Rows.{counter_at, resource_held}
use Rattle.chip2.specs.Told.{Told}
use Rattle.chip2.specs.declared.chip2.Chip2.{Chip2}
use Rattle.chip2.specs.declared.place.Place.{Place}
use Rattle.chip2.specs.declared.place.Place.TheVariants.{Beyond, Nowhere, Reset, Csr, Timestamp, Filter, Waits, Overruns, HighOrder, Enable, Mode, Select, Source, Counter, Shadow, Trigger}
use Rattle.chip2.proofs.AddressLaws.{place_source, place_test}
use Rattle.chip2.proofs.ChipLaws.{by_bounds, guard_in}
use Rattle.chip2.proofs.Refusals.{not_done}
use Rattle.chip2.proofs.RoomLaws.{rows_busy}
use Rattle.chip2.proofs.Shadows.{copied_at, read_at_lem}

-- ---- what a read leaves

-- the record after an answer: of a 0 the upper half of the value is in the High Order register, but not where that register was read itself; the
-- shadows hold a copy where a counter was read with copy; of a 10 the Wait Counter has one more; of any other it is the same
abbrev left_by : Bool → Bool → Chip2 → ℕ → ℕ → Chip2
left_by own copies c n v =
    cond (eqb n 0)
    (cond own c (with_high (v / 2 ^ 32) (with_bank (cond copies (copied c.bank) c.bank) c)))
    (cond (eqb n 10) (with_control (waited c.control) c) c)

Left : Bool → Bool → Chip2 → Told → Type 0
Left own copies c t = t.chip ≡ left_by own copies c t.number t.value

-- the High Order register's place
abbrev own_at : Place → Bool
own_at Beyond = false
own_at Nowhere = false
own_at Reset = false
own_at Csr = false
own_at Timestamp = false
own_at Filter = false
own_at Waits = false
own_at Overruns = false
own_at HighOrder = true
own_at Enable = false
own_at Mode = false
own_at Select = false
own_at (Source i) = false
own_at (Counter i) = false
own_at (Shadow i) = false
own_at (Trigger resource level) = false

own_at_lem : (a : ℕ) → own_at (place_of a) ≡ eqb a 7
unfolding place_of register_of
own_at_lem a = place_test own_at (λ b. eqb b 7) refl refl (λ b h. ne_eqb b 7 (λ e. omega arith)) a

left_read : (p : Place) (c : Chip2) → Left (own_at p) (copied_at false true p) c (read_at p c)
unfolding read_at read_counter Left
left_read Beyond c = refl
left_read Nowhere c = refl
left_read Reset c = refl
left_read Csr c = refl
left_read Timestamp c = refl
left_read Filter c = refl
left_read Waits c = refl
left_read Overruns c = refl
left_read HighOrder c = refl
left_read Enable c = refl
left_read Mode c = refl
left_read Select c = refl
left_read (Source i) c = refl
left_read (Counter i) c = go (busy c.queue) c.control.readwait
  where
    go : (b w : Bool) → Left false true c (cond b (cond w (replied Wait (with_control (waited c.control) c)) (replied Busy c)) (given (ones_above 32 (get_or c.bank.values i 0)) (with_bank (copied c.bank) c)))
    go true true = refl
    go true false = refl
    go false w = refl
left_read (Shadow i) c = refl
left_read (Trigger resource level) c = refl

module _ (a : ℕ) (c : Chip2) where
  -- the whole record, whatever the answer
  pub read_leaves : (step (op_read a) c).chip ≡ cond (eqb (step (op_read a) c).number 0) (cond (eqb a 7) c (with_high ((step (op_read a) c).value / 2 ^ 32) (with_bank (cond (counter_at a) (copied c.bank) c.bank) c))) (cond (eqb (step (op_read a) c).number 10) (with_control (waited c.control) c) c)
  unfolding read Left
  read_leaves =
      by_bounds (λ b t. t.chip ≡ left_by (own_at (place_of a)) (copied_at false true (place_of a)) c t.number t.value) (inside c) c (read_at (place_of a) c) (left_read (place_of a) c) refl
      ∙ ap₂ (λ (own copies : Bool). left_by own copies c (step (op_read a) c).number (step (op_read a) c).value) (own_at_lem a) (read_at_lem a)

  -- "Output data bits 32-63 are always .. placed in that register"; nothing else differs but what a read with copy copies
  pub read_raises : (a ≡ 7 → ⊥) → (step (op_read a) c).number ≡ 0 → (step (op_read a) c).chip ≡ with_high ((step (op_read a) c).value / 2 ^ 32) (with_bank (cond (counter_at a) (copied c.bank) c.bank) c)
  read_raises other e =
      read_leaves
      ∙ ap₂ (λ (d own : Bool). cond d (cond own c (with_high ((step (op_read a) c).value / 2 ^ 32) (with_bank (cond (counter_at a) (copied c.bank) c.bank) c))) (cond (eqb (step (op_read a) c).number 10) (with_control (waited c.control) c) c)) (eq-eqb (step (op_read a) c).number 0 e) (ne_eqb a 7 other)

  pub read_high : (a ≡ 7 → ⊥) → (step (op_read a) c).number ≡ 0 → (step (op_read a) c).chip.high ≡ (step (op_read a) c).value / 2 ^ 32
  read_high other e = ap (λ (d : Chip2). d.high) (read_raises other e)

-- a read of 7 leaves the whole record (house)
pub read_seven : (c : Chip2) → (step (op_read 7) c).chip ≡ c
unfolding read read_at place_of register_of
read_seven c = by_bounds (λ b t. t.chip ≡ c) (inside c) c (read_at HighOrder c) refl refl

-- every answer but 0 leaves the register, of any operation
pub high_stays : (op : Operation) (c : Chip2) → eqb (step op c).number 0 ≡ false → (step op c).chip.high ≡ c.high
high_stays op c e = ap (λ (d : Chip2). d.high) (not_done op c e)

-- ---- what a write takes

-- "in 32 bit mode .. input data bits 32-63 will be taken from this High Order 32 bit register"; bits 0 to 31 are the data's in both modes
pub data_wide : (bits : ℕ) (c : Chip2) → c.narrow ≡ false → data_of bits c ≡ bits
data_wide bits c e = ap (λ (b : Bool). cond b (bits % 2 ^ 32 + 2 ^ 32 * c.high) bits) e

pub data_low : (bits : ℕ) (c : Chip2) → data_of bits c % 2 ^ 32 ≡ bits % 2 ^ 32
data_low bits c = either (λ n. n % 2 ^ 32 ≡ bits % 2 ^ 32) c.narrow (bits % 2 ^ 32 + 2 ^ 32 * c.high) bits (omega arith) refl

pub data_high : (bits : ℕ) (c : Chip2) → c.narrow ≡ true → data_of bits c / 2 ^ 32 ≡ c.high
data_high bits c e =
    let two : (bits % 2 ^ 32 + 2 ^ 32 * c.high) / 2 ^ 32 ≡ c.high = omega arith in
    ap (λ (b : Bool). cond b (bits % 2 ^ 32 + 2 ^ 32 * c.high) bits / 2 ^ 32) e ∙ two

-- so in 32-bit mode no write looks at the upper half of its data
pub narrow_writes : (a bits bits' lines : ℕ) (c : Chip2) → c.narrow ≡ true → bits % 2 ^ 32 ≡ bits' % 2 ^ 32 → step (op_write a bits lines) c ≡ step (op_write a bits' lines) c
unfolding write
narrow_writes a bits bits' lines c e same =
    ap (λ (n : ℕ). guarded c (write_at (place_of a) n lines c))
    (ap (λ (b : Bool). cond b (bits % 2 ^ 32 + 2 ^ 32 * c.high) bits) e
    ∙ ap (λ (n : ℕ). n + 2 ^ 32 * c.high) same
    ∙ ap (λ (b : Bool). cond b (bits' % 2 ^ 32 + 2 ^ 32 * c.high) bits') (sym e))

-- ---- unused bits: "any unused bit positions return a logical 1"; the CSR's "all others zero"

module _ (c : Chip2) (h : inside c ≡ true) where
  answered : (p : Place) → read_at p c ≡ guarded c (read_at p c)
  answered p = guard_in c (read_at p c) h

  -- the CSR: document 01's ten bits, bit 14 in 32-bit mode, bit 15 in 64-bit mode, and no other
  pub csr_read : step (op_read 1) c ≡ given (csr_of (leb 8 c.queue.held) (resource_held c) c.control + cond c.narrow 16384 32768) c
  unfolding read read_at place_of register_of
  csr_read =
      sym (answered Csr)
      ∙ ap (λ (n : ℕ). given n c) (mode c.narrow (csr_of (leb 8 c.queue.held) (busy c.queue) c.control))
      ∙ ap (λ (b : Bool). given (csr_of (leb 8 c.queue.held) b c.control + cond c.narrow 16384 32768) c) (rows_busy c)
    where
      mode : (b : Bool) (n : ℕ) → n + 2 ^ 14 * one b + 2 ^ 15 * one (not b) ≡ n + cond b 16384 32768
      mode true n = omega arith
      mode false n = omega arith

  pub csr_low : (step (op_read 1) c).value % 2 ^ 10 ≡ csr_of (leb 8 c.queue.held) (resource_held c) c.control
  csr_low =
      ap (λ (t : Told). t.value % 2 ^ 10) csr_read
      ∙ low c.narrow (csr_of (leb 8 c.queue.held) (resource_held c) c.control) (csr_below (leb 8 c.queue.held) (resource_held c) c.control)
    where
      low : (b : Bool) (n : ℕ) → n < 1024 → (n + cond b 16384 32768) % 2 ^ 10 ≡ n
      low true n less = omega arith
      low false n less = omega arith

  pub csr_top : (step (op_read 1) c).value / 2 ^ 10 ≡ cond c.narrow 16 32
  csr_top =
      ap (λ (t : Told). t.value / 2 ^ 10) csr_read
      ∙ top c.narrow (csr_of (leb 8 c.queue.held) (resource_held c) c.control) (csr_below (leb 8 c.queue.held) (resource_held c) c.control)
    where
      top : (b : Bool) (n : ℕ) → n < 1024 → (n + cond b 16384 32768) / 2 ^ 10 ≡ cond b 16 32
      top true n less = omega arith
      top false n less = omega arith

  pub csr_small : (step (op_read 1) c).value < 2 ^ 16
  csr_small = omega (arith, csr_top, either (λ n. n < 33) c.narrow 16 32 (omega arith) (omega arith))

  -- the Timestamp, 56 bits: 2^64 - 2^56 above it
  pub timestamp_read : step (op_read 2) c ≡ given (c.stamp + 18374686479671623680) c
  unfolding read read_at place_of register_of
  timestamp_read = sym (answered Timestamp)

  -- the Filter, 16 bits: 2^64 - 2^16
  pub filter_read : step (op_read 4) c ≡ given (c.control.filter + 18446744073709486080) c
  unfolding read read_at place_of register_of
  filter_read = sym (answered Filter)

  -- the Wait and the Overrun Counter, 32 bits: 2^64 - 2^32
  pub waits_read : step (op_read 5) c ≡ given (c.control.wait + 18446744069414584320) c
  unfolding read read_at place_of register_of
  waits_read = sym (answered Waits)

  pub overruns_read : step (op_read 6) c ≡ given (c.control.overrun + 18446744069414584320) c
  unfolding read read_at place_of register_of
  overruns_read = sym (answered Overruns)

  -- the High Order register, 32 bits; it is left
  pub high_read : step (op_read 7) c ≡ done (c.high + 18446744069414584320) c
  unfolding read read_at place_of register_of
  high_read = sym (answered HighOrder)

  -- Enable, Mode and Clock Select have no unused bits
  pub enable_read : step (op_read 8) c ≡ given c.fields.enable c
  unfolding read read_at place_of register_of
  enable_read = sym (answered Enable)

  pub mode_read : step (op_read 10) c ≡ given c.fields.mode c
  unfolding read read_at place_of register_of
  mode_read = sym (answered Mode)

  pub select_read : step (op_read 12) c ≡ given c.fields.select c
  unfolding read read_at place_of register_of
  select_read = sym (answered Select)

  -- a Source Address, 32 bits; counters and shadows are in Shadows
  pub source_read : (a : ℕ) → between 32 39 a ≡ true → step (op_read a) c ≡ given (get_or c.sources (a - 32) 0 + 18446744069414584320) c
  unfolding read read_at
  source_read a p = sym (answered (place_of a)) ∙ ap (λ (x : Place). read_at x c) (place_source a p)
