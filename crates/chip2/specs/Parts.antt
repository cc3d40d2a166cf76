-- Document 01, "The chip's operations", a second time, for the MultiKron II: "every part becomes zero, Timestamp included", but for write wait
-- (document 02, Wish 7) and the defaults of document 001, Tables B5 to B7. All the numbers of a record, one after the other: first the one that a
-- software reset keeps, then write wait, then Enable, Mode and Clock Select, then those that every reset makes zero. A setting, a flag, a mark or
-- 32-bit mode is 1 where it is set. Nothing of a record is left out, used or not.
use Rattle.std.specs.Prelude.{ℕ, cond, List, [], ◌∷◌, ◌++◌}
use Rattle.chip.specs.Parts.{held_numbers, marks}
use Rattle.chip2.specs.declared.chip2.Chip2.{Chip2}

abbrev pub numbers_of : Chip2 → List ℕ
numbers_of c =
    let k = c.control in
    let f = c.fields in
    (c.stamp ∷ cond k.writewait 1 0 ∷ f.enable ∷ f.mode ∷ f.select ∷ c.queue.held ∷ c.queue.sent ∷ held_numbers c.queue.places)
    ++ (c.bank.values ++ (c.bank.shadows ++ (c.sources ++ (k.wait ∷ k.overrun ∷ k.filter ∷ c.high ∷ c.phase ∷ marks (k.sampling ∷ k.readwait ∷ k.flagfull ∷ k.flagbusy ∷ k.lost ∷ c.narrow ∷ [])))))
