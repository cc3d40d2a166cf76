-- Document 01, "The chip's operations", a second time: "every part becomes zero, Timestamp included"; document 02, Wish 7: "After either reset,
-- write wait shall be set". All the numbers of a record, one after the other: first the two that a software reset keeps, then write wait, then
-- those that every reset makes zero. A setting, a flag, a mark or the choice of the hundredth is 1 where it is set. Nothing of a record is left
-- out, used or not.
use Rattle.std.specs.Prelude.{ℕ, Bool, cond, List, [], ◌∷◌, ◌++◌, map}
use Rattle.queue.specs.declared.queue.Held.{Held}
use Rattle.chip.specs.declared.chip.Chip.{Chip}

abbrev pub held_numbers : List Held → List ℕ
held_numbers [] = []
held_numbers (h ∷ hs) = h.user ∷ h.stamp ∷ h.source ∷ h.header ∷ held_numbers hs

abbrev pub marks : List Bool → List ℕ
marks bs = map (λ b. cond b 1 0) bs

abbrev pub numbers_of : Chip → List ℕ
numbers_of c =
    let k = c.control in
    let s = c.switches in
    (c.stamp ∷ cond s.hundredth 1 0 ∷ cond k.writewait 1 0 ∷ c.queue.held ∷ c.queue.sent ∷ held_numbers c.queue.places)
    ++ (c.bank.values ++ (c.bank.shadows ++ (c.sources ++ (k.wait ∷ k.overrun ∷ k.filter ∷ s.enabled ∷ s.low ∷ s.high ∷ s.phase ∷ marks (k.sampling ∷ k.readwait ∷ k.flagfull ∷ k.flagbusy ∷ k.lost ∷ [])))))
