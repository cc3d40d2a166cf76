-- Document 01, "Triggers and the queue" and, of sending, "The chip's operations": what is held, and sending it, over the widths of an
-- edition's samples.
use Rattle.std.specs.Prelude.{ℕ, zero, suc, ◌+◌, ◌-◌, Bool, false, cond, ◌&&◌, ◌||◌, List, [], ◌∷◌, ◌++◌, leb, ltb, eqb, length, take, drop, get_or, set, replicate}
use Rattle.samples.specs.Layout.{Widths, resource, sample_length, sample_words}
use Rattle.samples.specs.declared.sample.Sample.{Sample}
use Rattle.queue.specs.declared.queue.Held.{Held}
use Rattle.queue.specs.declared.queue.Queue.{Queue}
use Rattle.queue.specs.declared.queue.Sent.{Sent}
use Rattle.queue.specs.declared.queue.SentMany.{SentMany}

-- "every part becomes zero": a place and a queue with nothing in them
abbrev pub zero_held : Held
zero_held = record { user = 0; stamp = 0; source = 0; header = 0 }

abbrev pub empty_queue : Queue
empty_queue = record { places = replicate 8 zero_held; held = 0; sent = 0 }

-- the sample that a place holds: "a Resource trigger also copies all counters to the shadows", and there they stay while it is held
abbrev pub held_sample : List ℕ → Held → Sample
held_sample shadows h =
    record {
      user = h.user;
      stamp = h.stamp;
      source = h.source;
      header = h.header;
      counters = cond (resource h.header) shadows (replicate 16 0);
    }

-- "The queue holds 8 samples"
abbrev pub full : Queue → Bool
full q = leb 8 q.held

-- "The shadows are busy while a Resource sample is held"
unfoldable pub any_resource : List Held → Bool
any_resource [] = false
any_resource (h ∷ hs) = resource h.header || any_resource hs

abbrev pub busy : Queue → Bool
busy q = any_resource (take q.held q.places)

-- the sample that is being sent, and how many words it has
abbrev pub first_held : Queue → Held
first_held q = get_or q.places 0 zero_held

abbrev pub first_count : Widths → Queue → ℕ
first_count w q = sample_length w (resource (first_held q).header)

-- the counts that operations leave: "Reply numbers", "The bounds for 15 .. (queue counts, places, ..)"
abbrev pub inside_queue : Widths → Queue → Bool
inside_queue w q = leb q.held 8 && cond (eqb q.held 0) (eqb q.sent 0) (ltb q.sent (first_count w q))

-- one sample more, where there is a place
abbrev pub pushed : Held → Queue → Queue
pushed h q = cond (ltb q.held 8) (record { places = set q.places q.held h; held = q.held + 1; sent = q.sent }) q

-- the word to send: the next one of the first sample
abbrev pub next_word : Widths → List ℕ → Queue → ℕ
next_word w shadows q = get_or (sample_words w (held_sample shadows (first_held q))) q.sent 0

-- "A sample is held .. until its last word is sent": then the others move down and the last place is empty
abbrev pub shifted : Queue → Queue
shifted q = record { places = drop 1 q.places ++ (zero_held ∷ []); held = q.held - 1; sent = 0 }

abbrev pub advanced : Widths → Queue → Queue
advanced w q = cond (ltb (q.sent + 1) (first_count w q)) (record { places = q.places; held = q.held; sent = q.sent + 1 }) (shifted q)

-- "Send one word": the next one; with nothing held the queue stays, and the word is 0, which no sample's word is (`word_some` of words)
abbrev pub send_one : Widths → List ℕ → Queue → Sent
send_one w shadows q =
    cond (eqb q.held 0) (record { queue = q; word = 0 }) (record { queue = advanced w q; word = next_word w shadows q })

-- the words that single sends give, one after another, at most n and until nothing is held
unfoldable pub send_words : Widths → ℕ → List ℕ → Queue → List ℕ
send_words w zero shadows q = []
send_words w (suc n) shadows q = cond (eqb q.held 0) [] (next_word w shadows q ∷ send_words w n shadows (advanced w q))

-- and the queue after them
unfoldable pub send_queue : Widths → ℕ → Queue → Queue
send_queue w zero q = q
send_queue w (suc n) q = cond (eqb q.held 0) q (send_queue w n (advanced w q))

-- "as many words as it has places or as are left, ..; it returns how many"
unfoldable pub send_many : Widths → ℕ → List ℕ → Queue → SentMany
send_many w room shadows q = record { queue = send_queue w room q; count = length (send_words w room shadows q) }

-- "the rest of the buffer untouched"
unfoldable pub send_buffer : Widths → List ℕ → Queue → List ℕ → List ℕ
send_buffer w shadows q out =
    let ws = send_words w (length out) shadows q in
    ws ++ drop (length ws) out
