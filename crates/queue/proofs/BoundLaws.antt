-- The queue's operations keep its bounds and its eight places: a sample has words, so a new first sample has more than the
-- none of it that are sent. Assumes nothing.
use Prim.Native.Nat.{ℕ, zero, suc, ◌+◌, ◌≤◌, ◌<◌}
use native.Mathlib.Omega.{arith}
use mathlib.Core.Path.{◌≡◌, refl, sym, ap, ◌∙◌, subst}
use mathlib.Core.Bool.{Bool, true, false, cond, ◌&&◌, false≢true}
use lib.Dec.{leb, ltb, eqb}
use lib.ListN.{length, set, length-append, length-drop, length-set}
use lib.Seq.{get_or-set_other}
use borrow.Author.Tests.{eq-eqb, eqb-false, eqb-true, le-leb, leb-true, lt-ltb, ltb-true}
use Rattle.samples.specs.Layout.{Widths, resource, sample_length}
use Rattle.queue.specs.Queue.{advanced, first_count, first_held, inside_queue, pushed, send_queue, shifted, zero_held}
use Rattle.queue.specs.declared.queue.Held.{Held}
use Rattle.queue.specs.declared.queue.Queue.{Queue}

-- one sample more leaves eight places
pub push_places : (h : Held) (q : Queue) → length q.places ≡ 8 → length (pushed h q).places ≡ 8
push_places h q e = go (ltb q.held 8)
  where
    go : (b : Bool) → length (cond b (record { places = set q.places q.held h; held = q.held + 1; sent = q.sent }) q).places ≡ 8
    go true = length-set q.places q.held h ∙ e
    go false = e

module _ (w : Widths) where
  -- a sample has words
  pub first_some : (q : Queue) → 0 < first_count w q
  first_some q = go (resource (first_held q).header)
    where
      go : (r : Bool) → 0 < sample_length w r
      go true = omega arith
      go false = omega arith

  -- what the bounds say
  pub record Bounded (q : Queue) : Type 0 where
    pub few : q.held ≤ 8
    pub none : q.held ≡ 0 → q.sent ≡ 0
    pub some : (q.held ≡ 0 → ⊥) → q.sent < first_count w q

  pub bounds : (q : Queue) → inside_queue w q ≡ true → Bounded q
  bounds q e = go (leb q.held 8) refl (eqb q.held 0) refl e
    where
      go : (b : Bool) → leb q.held 8 ≡ b → (n : Bool) → eqb q.held 0 ≡ n → (b && cond n (eqb q.sent 0) (ltb q.sent (first_count w q))) ≡ true → Bounded q
      go false p n r t = absurd (false≢true t)
      go true p true r t =
          record {
            few = leb-true q.held 8 p;
            none = λ z. eqb-true q.sent 0 t;
            some = λ z. absurd (z (eqb-true q.held 0 r));
          }
      go true p false r t =
          record {
            few = leb-true q.held 8 p;
            none = λ z. absurd (eqb-false q.held 0 r z);
            some = λ z. ltb-true q.sent (first_count w q) t;
          }

  pub bounds_back : (q : Queue) → Bounded q → inside_queue w q ≡ true
  bounds_back q h = ap (λ (b : Bool). b && cond (eqb q.held 0) (eqb q.sent 0) (ltb q.sent (first_count w q))) (le-leb q.held 8 h.few) ∙ go (eqb q.held 0) refl
    where
      go : (n : Bool) → eqb q.held 0 ≡ n → cond n (eqb q.sent 0) (ltb q.sent (first_count w q)) ≡ true
      go true e = eq-eqb q.sent 0 (h.none (eqb-true q.held 0 e))
      go false e = lt-ltb q.sent (first_count w q) (h.some (eqb-false q.held 0 e))

  -- a sample pushed on others leaves the first, and on none it is the first
  pub push_bounds : (h : Held) (q : Queue) → inside_queue w q ≡ true → inside_queue w (pushed h q) ≡ true
  push_bounds h q e = go (ltb q.held 8) refl
    where
      more : Queue
      more = record { places = set q.places q.held h; held = q.held + 1; sent = q.sent }

      left : (n : Bool) → eqb q.held 0 ≡ n → q.sent < first_count w more
      left true p = subst (λ (k : ℕ). k < first_count w more) (sym ((bounds q e).none (eqb-true q.held 0 p))) (first_some more)
      left false p =
          let some : q.held ≡ 0 → ⊥ = eqb-false q.held 0 p in
          subst (λ (x : Held). q.sent < sample_length w (resource x.header)) (sym (get_or-set_other q.places q.held 0 h zero_held (λ z. some (sym z)))) ((bounds q e).some some)

      go : (b : Bool) → ltb q.held 8 ≡ b → inside_queue w (cond b more q) ≡ true
      go false t = e
      go true t =
          bounds_back more
          (record { few = omega (arith, ltb-true q.held 8 t); none = λ z. absurd (omega arith); some = λ z. left (eqb q.held 0) refl })

  -- a word sent leaves more of the first sample, or makes another the first
  pub advance_bounds : (q : Queue) → (q.held ≡ 0 → ⊥) → inside_queue w q ≡ true → inside_queue w (advanced w q) ≡ true
  advance_bounds q some e = go (ltb (q.sent + 1) (first_count w q)) refl
    where
      same : Queue
      same = record { places = q.places; held = q.held; sent = q.sent + 1 }

      go : (b : Bool) → ltb (q.sent + 1) (first_count w q) ≡ b → inside_queue w (cond b same (shifted q)) ≡ true
      go true t =
          bounds_back same
          (record { few = (bounds q e).few; none = λ z. absurd (some z); some = λ z. ltb-true (q.sent + 1) (first_count w q) t })
      go false t =
          bounds_back (shifted q)
          (record { few = omega (arith, (bounds q e).few); none = λ z. refl; some = λ z. first_some (shifted q) })

  pub send_bounds : (n : ℕ) (q : Queue) → inside_queue w q ≡ true → inside_queue w (send_queue w n q) ≡ true
  unfolding send_queue
  send_bounds zero q e = e
  send_bounds (suc n) q e = go (eqb q.held 0) refl (send_bounds n (advanced w q))
    where
      go : (b : Bool) → eqb q.held 0 ≡ b → (inside_queue w (advanced w q) ≡ true → inside_queue w (send_queue w n (advanced w q)) ≡ true) → inside_queue w (cond b q (send_queue w n (advanced w q))) ≡ true
      go true p ih = e
      go false p ih = ih (advance_bounds q (eqb-false q.held 0 p) e)

  -- the places stay eight
  pub advance_places : (q : Queue) → length q.places ≡ 8 → length (advanced w q).places ≡ 8
  advance_places q e = go (ltb (q.sent + 1) (first_count w q))
    where
      go : (b : Bool) → length (cond b (record { places = q.places; held = q.held; sent = q.sent + 1 }) (shifted q)).places ≡ 8
      go true = e
      go false = simp (length-append, length-drop, e)

  pub send_places : (n : ℕ) (q : Queue) → length q.places ≡ 8 → length (send_queue w n q).places ≡ 8
  unfolding send_queue
  send_places zero q e = e
  send_places (suc n) q e = go (eqb q.held 0) (send_places n (advanced w q) (advance_places q e))
    where
      go : (b : Bool) → length (send_queue w n (advanced w q)).places ≡ 8 → length (cond b q (send_queue w n (advanced w q))).places ≡ 8
      go true ih = e
      go false ih = ih
