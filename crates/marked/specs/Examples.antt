-- Document 01, "Marked examples": M1 to M12, each as it is worded there; by document 02, Wish 7, M6 and M7 write CSR bit 3 first.
use Rattle.std.specs.Prelude.{ℕ, suc, List, [], ◌∷◌, ◌++◌, replicate}
use Rattle.samples.specs.Layout.{sample_words, widths}
use Rattle.samples.specs.declared.edition.Edition.TheVariants.{First}
use Rattle.samples.specs.declared.sample.Sample.{Sample}
use Rattle.chip.specs.Operation.{op_write, op_read, op_ticks, op_nodes, op_events, op_send}
use Rattle.marked.specs.Table.{Line, Row, bytes_are, gives, reader_says, replies, script}

-- "sampling on, level 0 on"; and these with discard, CSR bits 0 and 3: "Scripts that counted on discard must write CSR bit 3 first: M6 and M7 do
-- so from now on"
abbrev on_with : ℕ → List Line
on_with csr = replies (op_write 1 csr 0) 0 ∷ replies (op_write 4 1 0) 0 ∷ []

abbrev on : List Line
on = on_with 1

abbrev on_discarding : List Line
on_discarding = on_with 9

-- a trigger with line 0, and what it must reply
abbrev trigger : ℕ → ℕ → Line
trigger address n = gives (op_write address 0 1) n 0

-- reads of some of the sixteen counters, from address 32 on, and what they must give
abbrev counters : List ℕ → ℕ → List Line
counters [] a = []
counters (v ∷ vs) a = gives (op_read a) 0 v ∷ counters vs (suc a)

-- single sends, and the words that they must give
abbrev sends : List ℕ → List Line
sends [] = []
sends (w ∷ ws) = gives op_send 0 w ∷ sends ws

-- "Listing B's sample": source 5, three ticks, data 258, line 0
abbrev listing_b : Sample
listing_b = record { user = 258; stamp = 3; source = 5; header = 0; counters = replicate 16 0 }

unfoldable pub examples : List Row
examples =
    -- M1 read 128 → 1. M2 read 127 → 3. M3 write 2 → 3. M4 write 95 → 2.
    script (gives (op_read 128) 1 0 ∷ [])
    ∷ script (gives (op_read 127) 3 0 ∷ [])
    ∷ script (gives (op_write 2 0 0) 3 0 ∷ [])
    ∷ script (gives (op_write 95 0 0) 2 0 ∷ [])
    -- M5 trigger 96 with lines 0 or 3 → 4, even with sampling off; with lines 1 on a fresh chip → 6
    ∷ script (gives (op_write 96 0 0) 4 0 ∷ gives (op_write 96 0 3) 4 0 ∷ [])
    ∷ script (on ++ (gives (op_write 96 0 0) 4 0 ∷ gives (op_write 96 0 3) 4 0 ∷ []))
    ∷ script (trigger 96 6 ∷ [])
    -- M6 eight Trace triggers taken, the ninth → 8; after 15 sends still 8, after the sixteenth 0
    ∷ script
    (on_discarding ++ replicate 8 (trigger 96 0) ++ (trigger 96 8 ∷ []) ++ replicate 15 (replies op_send 0) ++ (trigger 96 8 ∷ replies op_send 0 ∷ trigger 96 0 ∷ []))
    -- M7 the same settings, from fresh, two Resource triggers at 112 in a row: 0, then 8 with only flag 9 set (CSR: sampling 1, busy 128, flag 9 512)
    ∷ script (on_discarding ++ (trigger 112 0 ∷ trigger 112 8 ∷ gives (op_read 1) 0 641 ∷ []))
    -- M8 enabled counter at 4,294,967,295, one event of its kind → 0: counter 0 on the node clock
    ∷ script
    (replies (op_write 8 4294967297 0) 0 ∷ replies (op_write 11 1 0) 0 ∷ replies (op_nodes 4294967295) 0 ∷ gives (op_read 32) 0 4294967295 ∷ replies (op_nodes 1) 0 ∷ gives (op_read 32) 0 0 ∷ [])
    -- M9 odd counters on node clock, even on external: by the counters' behaviour and by the register
    ∷ script
    (replies (op_write 8 0x0000AAAA0000FFFF 0) 0 ∷ replies (op_write 11 65535 0) 0 ∷ gives (op_read 8) 0 0x0000AAAA0000FFFF ∷ replies (op_nodes 3) 0
    ∷ counters (0 ∷ 3 ∷ 0 ∷ 3 ∷ 0 ∷ 3 ∷ 0 ∷ 3 ∷ 0 ∷ 3 ∷ 0 ∷ 3 ∷ 0 ∷ 3 ∷ 0 ∷ 3 ∷ []) 32
    ++ (replies (op_events 65535) 0 ∷ counters (1 ∷ 3 ∷ 1 ∷ 3 ∷ 1 ∷ 3 ∷ 1 ∷ 3 ∷ 1 ∷ 3 ∷ 1 ∷ 3 ∷ 1 ∷ 3 ∷ 1 ∷ 3 ∷ []) 32))
    -- M10 9 Timestamp ticks give no slow event, the tenth gives one
    ∷ script
    (replies (op_write 11 1 0) 0 ∷ replies (op_ticks 9) 0 ∷ gives (op_read 32) 0 0 ∷ replies (op_ticks 1) 0 ∷ gives (op_read 32) 0 1 ∷ [])
    -- M11 Listing B's sample as bytes: 00, 05 00 00 00, 03 00 00 00 00, 02 01 00 00 00 00. Its last word is 768
    ∷ bytes_are listing_b (0 ∷ 5 ∷ 0 ∷ 0 ∷ 0 ∷ 3 ∷ 0 ∷ 0 ∷ 0 ∷ 0 ∷ 2 ∷ 1 ∷ 0 ∷ 0 ∷ 0 ∷ 0 ∷ []) 768
    -- and it is what Listing B's operations send, word by word
    ∷ script
    (on ++ (replies (op_write 16 5 0) 0 ∷ replies (op_ticks 3) 0 ∷ gives (op_write 96 258 1) 0 0 ∷ []) ++ sends (sample_words (widths First) listing_b) ++ (gives op_send 5 0 ∷ []))
    -- M12 empty part → 20; the one word 0 → 22
    ∷ reader_says [] 20
    ∷ reader_says (0 ∷ []) 22
    ∷ []
