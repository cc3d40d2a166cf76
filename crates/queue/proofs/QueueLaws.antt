-- Laws of the queue's definitions. Assumes nothing.
use Prim.Native.Nat.{ℕ, ◌<◌}
use mathlib.Core.Path.{◌≡◌, refl, sym, ap, ◌∙◌}
use mathlib.Core.Bool.{Bool, true, false, cond, ◌||◌}
use mathlib.Core.List.{List, [], ◌∷◌}
use lib.ListN.{length, replicate}
use Rattle.std.specs.List.{list_any}
use Rattle.words.proofs.WordLaws.{word_some}
use Rattle.samples.specs.Layout.{Widths, resource}
use Rattle.samples.specs.declared.sample.Sample.{Sample}
use Rattle.samples.proofs.SampleLaws.{sample_word}
use Rattle.queue.specs.Queue.{any_resource, first_count, first_held, held_sample, next_word}
use Rattle.queue.specs.declared.queue.Held.{Held}
use Rattle.queue.specs.declared.queue.Queue.{Queue}

-- a Resource sample among some, in the words of the library
pub any_list : (hs : List Held) → any_resource hs ≡ list_any (λ (h : Held). resource h.header) hs
unfolding any_resource
any_list [] = refl
any_list (h ∷ hs) = ap (λ (b : Bool). resource h.header || b) (any_list hs)

-- the sixteen counters of what a place holds
pub held_sixteen : (shadows : List ℕ) (h : Held) → length shadows ≡ 16 → length (held_sample shadows h).counters ≡ 16
held_sixteen shadows h e = go (resource h.header)
  where
    go : (r : Bool) → length (cond r shadows (replicate 16 0)) ≡ 16
    go true = e
    go false = refl

-- the next word of a sample that is held is not 0
pub next_some : (w : Widths) (shadows : List ℕ) (q : Queue) → length shadows ≡ 16 → q.sent < first_count w q → next_word w shadows q ≡ 0 → ⊥
next_some w shadows q sixteen h e =
    let s : Sample = held_sample shadows (first_held q) in
    word_some _ _ (sym (sample_word w s (held_sixteen shadows (first_held q) sixteen) q.sent h) ∙ e)
