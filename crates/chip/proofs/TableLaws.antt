-- A send by a lent table: by the table of parity bits it is a send, and any other decides bit 8 of the word and nothing else. Assumes
-- nothing.
use Prim.Native.Nat.{ℕ, ◌/◌, ◌%◌}
use mathlib.Core.Path.{◌≡◌, refl, ap}
use mathlib.Core.Bool.{Bool, true, false, cond}
use mathlib.Core.List.{List}
use Rattle.words.specs.Table.{parity_table}
use Rattle.samples.specs.Layout.{widths}
use Rattle.samples.specs.declared.edition.Edition.TheVariants.{First}
use Rattle.queue.specs.Queue.{advanced, next_word}
use Rattle.queue.specs.Table.{next_word_by}
use Rattle.queue.proofs.TableLaws.{next_word_by_lem, next_word_low, next_word_top}
use Rattle.control.specs.declared.reply.Reply.TheVariants.{NoWord, Outside}
use Rattle.chip.specs.Chip.{done, inside, none_held, replied, send, with_queue}
use Rattle.chip.specs.Table.{send_by}
use Rattle.chip.specs.Told.{Told}
use Rattle.chip.specs.declared.chip.Chip.{Chip}

module _ (c : Chip) where
  -- the next word by the definition and by a table; the answer with a word: where there is one, inside the bounds, and in any case
  abbrev next : ℕ
  next = next_word (widths First) c.bank.shadows c.queue

  abbrev pub next_by : List ℕ → ℕ
  next_by table = next_word_by table (widths First) c.bank.shadows c.queue

  abbrev sent : ℕ → Told
  sent word = done word (with_queue (advanced (widths First) c.queue) c)

  abbrev pub unless_none : Bool → ℕ → Told
  unless_none none word = cond none (replied NoWord c) (sent word)

  abbrev answer : Bool → Bool → ℕ → Told
  answer in_bounds none word = cond in_bounds (unless_none none word) (replied Outside c)

  -- what the answers with the two words have in common the sends have in common: neither 15 nor 5 looks at the word
  alike : {A : Type 0} (f : Told → A) (table : List ℕ) → f (sent (next_by table)) ≡ f (sent next) → f (send_by table c) ≡ f (send c)
  unfolding send send_by
  alike f table e = go (inside c) (none_held c.queue.held)
    where
      go : (b n : Bool) → f (answer b n (next_by table)) ≡ f (answer b n next)
      go true true = refl
      go true false = e
      go false n = refl

  -- by the table of parity bits
  pub send_by_lem : send_by parity_table c ≡ send c
  send_by_lem = alike (λ t. t) parity_table (ap sent (next_word_by_lem (widths First) c.bank.shadows c.queue))

  -- by any table: the next chip, the reply's number, the data bits of the value and what stands above its bit 8
  module _ (table : List ℕ) where
    pub send_by_chip : (send_by table c).chip ≡ (send c).chip
    send_by_chip = alike (λ t. t.chip) table refl

    pub send_by_number : (send_by table c).number ≡ (send c).number
    send_by_number = alike (λ t. t.number) table refl

    pub send_by_low : (send_by table c).value % 256 ≡ (send c).value % 256
    send_by_low = alike (λ t. t.value % 256) table (next_word_low (widths First) c.bank.shadows c.queue table)

    pub send_by_top : (send_by table c).value / 512 ≡ (send c).value / 512
    send_by_top = alike (λ t. t.value / 512) table (next_word_top (widths First) c.bank.shadows c.queue table)

    -- and a refusal, 5 or 15, is the same in all
    pub send_by_refused : ((send c).number ≡ 0 → ⊥) → send_by table c ≡ send c
    unfolding send send_by
    send_by_refused refused = go (inside c) (none_held c.queue.held) refused
      where
        go : (b n : Bool) → ((answer b n next).number ≡ 0 → ⊥) → answer b n (next_by table) ≡ answer b n next
        go true true h = refl
        go true false h = absurd (h refl)
        go false n h = refl
