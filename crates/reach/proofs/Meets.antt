-- What is met is what slots reach along good edges: each node met is reached, and in the end every
-- edge of a node met leads to NIL or to a node met.
use mathlib.Core.Path.{◌≡◌, refl, sym, ◌∙◌}
use mathlib.Core.Logic.{◌≢◌, ◌⊎◌, inl, inr}
use mathlib.Core.List.{List, [], ◌∷◌}
use Prim.Native.Nat.{ℕ, zero, suc, ◌+◌, ◌-◌, ◌≤◌, ◌<◌}
use native.Mathlib.Decide.{ℕ_discrete, dec_lt}
use native.Mathlib.Numerals.{add-one}
use native.Mathlib.Omega.{arith}
use lib.ListN.{length, get_or, replicate, length-replicate, get_or-replicate, get_or-eq_default}
use borrow.Author.Tests.{ltb-true, ltb-false}
use Rattle.base.proofs.Tests.{pick_yes, pick_no, eq_no, le_no, lt_yes, lt_no, or_skip, split}
use Rattle.rules.specs.Table.{edge_of, bad_edge}
use Rattle.rules.specs.Meet.{Met, met, num_of, node_of, blank, visit, visit_slots, visit_edges}
use Rattle.rules.specs.Meet.{visit_from, meet}
use Rattle.theory.specs.Reach.{start, along}
use Rattle.theory.proofs.Reaches.{reach_ind}
use Rattle.reach.specs.Numbered.{good, good_edge, GoodReaches, Kept, Numbered, MeetNumbers}
use Rattle.reach.proofs.Counts.{nonzero_none}
use Rattle.reach.proofs.Kept.{added, Visited, nowhere, before, newly, visited, top, low}
use Rattle.reach.proofs.Kept.{added_here, added_other, kept_visit, kept_edges, node_inside}
use Rattle.reach.proofs.Kept.{Grows, grows_same, grows_on, grows_edges}

-- nowhere, or a node met
abbrev Done : Met → ℕ → Type 0
Done s t = (t ≡ 0) ⊎ (num_of s t ≢ 0)

done_grows : {s s' : Met} (t : ℕ) → Grows s s' → Done s t → Done s' t
done_grows t g (inl a) = inl a
done_grows t g (inr a) = inr (λ q. a (sym (g.num t a) ∙ q))

done_visit : {m : ℕ} {s : Met} (t : ℕ) → Kept m s → Done (visit m t s) (good m t)
done_visit {m} {s} t v = go (visited m t s)
  where
    go : {s' : Met} → Visited m t s s' → Done s' (good m t)
    go (nowhere a) = inl a
    go (before a b) = inr (rw a b)
    go (newly a b c d) = inr (rw c (λ q. omega (arith, low v, added_here v t b)))

done_edges : {m : ℕ} (es : List (List ℕ)) (n side : ℕ) {s : Met} → Kept m s → side < length es
    → Done (visit_edges m es n s) (good m (edge_of es side n))
unfolding visit_edges edge_of
done_edges [] n side v h = absurd (omega arith)
done_edges {m} (row ∷ rows) n zero {s} v h = done_grows _
    (grows_edges m rows n (visit m (get_or row n 0) s)) (done_visit (get_or row n 0) v)
done_edges (row ∷ rows) n (suc side) v h = done_edges rows n side (kept_visit (get_or row n 0) v)
    (omega arith)

good_slot : (m n : ℕ) → 2 ≤ n → n < m → good m n ≡ n
unfolding good bad_edge
good_slot m n a b =
    sym
    (pick_no _ _ _ _ (or_skip _ _ _ (or_skip _ _ _ (le_no m n b) (eq_no n 1 (omega arith)))
    (eq_no n 0 (omega arith))) refl)

-- a list of zeros
pub zero_at : (k n : ℕ) → ◌≡◌ {A = ℕ} (get_or (replicate k 0) n 0) 0
zero_at k n = go (dec_lt n k)
  where
    go : Dec (n < k) → ◌≡◌ {A = ℕ} (get_or (replicate k 0) n 0) 0
    go (yes a) = get_or-replicate {A = ℕ} k n 0 0 a
    go (no a) = get_or-eq_default {A = ℕ} (replicate k 0) 0 {n = n}
        (omega (arith, length-replicate {A = ℕ} k 0))

pub blank_at : (n : ℕ) → get_or blank n 0 ≡ 0
unfolding blank
blank_at n = zero_at 4096 n

pub blank_length : length blank ≡ 4096
unfolding blank
blank_length = length-replicate {A = ℕ} 4096 0

pub kept_blank : {m : ℕ} → m ≤ 4096 → Kept m (met blank blank 2)
kept_blank {m} h = record {
  wide = omega (arith, blank_length);
  long = omega (arith, blank_length);
  count = omega (arith, nonzero_none (λ n. get_or blank n 0) 2 (m - 2) (λ n a b. blank_at n));
  inside = λ n x. absurd (x (blank_at n));
  there = λ n x. absurd (x (blank_at n));
  back = λ k a b. absurd (omega arith);
}

module _ (m r : ℕ) (es : List (List ℕ)) where
  -- everything met is reached
  abbrev Sound : Met → Type 0
  Sound s = (n : ℕ) → num_of s n ≢ 0 → GoodReaches m r es n

  -- the edges of the nodes with a number below k are done
  abbrev Closed : Met → ℕ → Type 0
  Closed s k = (j : ℕ) → 2 ≤ j → j < k → (side : ℕ) → side < length es
      → Done s (good_edge m es side (node_of s j))

  sound_visit : (s : Met) (t : ℕ) → Sound s → GoodReaches m r es (good m t) → Sound (visit m t s)
  sound_visit s t h x n = go (visited m t s)
    where
      go : {s' : Met} → Visited m t s s' → num_of s' n ≢ 0 → GoodReaches m r es n
      go (nowhere a) y = h n y
      go (before a b) y = h n y
      go (newly a b c d) y = at (ℕ_discrete n t)
        where
          at : Dec (n ≡ t) → GoodReaches m r es n
          at (yes q) = rw q (rw c at x)
          at (no q) = h n (λ z. y (added_other s t n q ∙ z))

  sound_edges : (rows : List (List ℕ)) (n : ℕ) (s : Met) → Sound s
      → ((side : ℕ) → side < length rows → GoodReaches m r es (good m (edge_of rows side n)))
      → Sound (visit_edges m rows n s)
  unfolding visit_edges edge_of
  sound_edges [] n s h x = h
  sound_edges (row ∷ rows) n s h x = sound_edges rows n (visit m (get_or row n 0) s)
      (sound_visit s (get_or row n 0) h (x 0 (omega arith))) (λ side l. x (suc side) (omega arith))

  -- after k slots, each at its own number
  record Begun (k : ℕ) (s : Met) : Type 0 where
    kept : Kept m s
    sound : Sound s
    tail : s.tail ≡ k + 2
    own : (n : ℕ) → 2 ≤ n → n < k + 2 → num_of s n ≡ n
    none : (n : ℕ) → k + 2 ≤ n → num_of s n ≡ 0

  begun_next : (k : ℕ) (s : Met) → k < r → r + 2 ≤ m → Begun k s → Begun (suc k) (visit m (k + 2) s)
  begun_next k s h room b =
      go (visited m (k + 2) s) (kept_visit (k + 2) b.kept)
      (sound_visit s (k + 2) b.sound (rw q (start {n = k + 2} (omega arith, omega arith))))
    where
      q : good m (k + 2) ≡ k + 2
      q = good_slot m (k + 2) (omega arith) (omega arith)

      go : {s' : Met} → Visited m (k + 2) s s' → Kept m s' → Sound s' → Begun (suc k) s'
      go (nowhere a) w x = absurd (omega (arith, q))
      go (before a d) w x = absurd (d (b.none (k + 2) (omega arith)))
      go (newly a d e f) w x = record {
        kept = w;
        sound = x;
        tail = omega (arith, b.tail);
        own = λ n y z. own n y z (ℕ_discrete n (k + 2));
        none = λ n y. added_other s (k + 2) n (omega arith) ∙ b.none n (omega arith);
      }
        where
          own : (n : ℕ) → 2 ≤ n → n < suc k + 2 → Dec (n ≡ k + 2) → num_of (added s (k + 2)) n ≡ n
          own n y z (yes p) = rw p (added_here b.kept (k + 2) d ∙ b.tail)
          own n y z (no p) = added_other s (k + 2) n p ∙ b.own n y (omega arith)

  begun_slots : (k : ℕ) → k ≤ r → r + 2 ≤ m → m ≤ 4096
      → Begun k (visit_slots m k (met blank blank 2))
  unfolding visit_slots
  begun_slots zero h room few = record {
    kept = kept_blank few;
    sound = λ n x. absurd (x (blank_at n));
    tail = refl;
    own = λ n a b. absurd (omega arith);
    none = λ n a. blank_at n;
  }
  begun_slots (suc k) h room few = begun_next k (visit_slots m k (met blank blank 2)) (omega arith)
      room (begun_slots k (omega arith) room few)

  edge_of_lem : (side n : ℕ) → n ≢ 0 → good_edge m es side n ≡ good m (edge_of es side n)
  unfolding good_edge
  edge_of_lem side n h = sym (pick_no _ _ _ _ (eq_no _ _ h) refl)

  -- the nodes with a number below k have been looked at
  record Going (s : Met) (k : ℕ) : Type 0 where
    kept : Kept m s
    sound : Sound s
    closed : Closed s k

  going_next : {s : Met} (k : ℕ) → Going s k → 2 ≤ k → k < s.tail
      → Going (visit_edges m es (node_of s k) s) (k + 1)
  going_next {s} k g lo hi = record {
    kept = kept_edges es n g.kept;
    sound =
        sound_edges es n s g.sound (λ side h. along {p = n} side h (edge_of_lem side n some)
        (g.sound n here.0));
    closed = λ j a b side h. closed j a side h (ℕ_discrete j k) b;
  }
    where
      n : ℕ
      n = node_of s k

      here : (num_of s (node_of s k) ≢ 0) × (node_of s k < m)
      here = node_inside g.kept k lo hi

      some : n ≢ 0
      some q = omega (arith, g.kept.inside n here.0)

      grows : Grows s (visit_edges m es n s)
      grows = grows_edges m es n s

      closed : (j : ℕ) → 2 ≤ j → (side : ℕ) → side < length es → Dec (j ≡ k) → j < k + 1
          → Done (visit_edges m es n s) (good_edge m es side (node_of (visit_edges m es n s) j))
      closed j a side h (no q) b = rw (grows.order j (omega arith))
          (done_grows _ grows (g.closed j a (omega arith) side h))
      closed j a side h (yes q) b = rw (q, grows.order k hi, edge_of_lem side n some)
          (done_edges es n side g.kept h)

  -- no number is left
  record Ended (s s' : Met) : Type 0 where
    going : Going s' s'.tail
    grows : Grows s s'

  ended_here : (k : ℕ) (s : Met) → Going s k → s.tail ≤ k → Ended s s
  ended_here k s g h = record {
    going = record {
      kept =
          g.kept;
      sound = g.sound;
      closed = λ j a b. g.closed j a (omega arith);
    };
    grows = grows_same s;
  }

  ended : (f k : ℕ) (s : Met) → Going s k → 2 ≤ k → k ≤ s.tail → 2 ≤ m → m ≤ f + k
      → Ended s (visit_from m es f k s)
  unfolding visit_from
  ended zero k s g lo hi two h = ended_here k s g (omega (arith, top g.kept two))
  ended (suc f) k s g lo hi two h = split (Ended s) _ _ _
      (λ e. let grows = grows_edges m es (node_of s k) s in
      let w =
      ended f (k + 1) (visit_edges m es (node_of s k) s) (going_next k g lo (ltb-true _ _ e))
      (omega arith) (omega (arith, ltb-true k s.tail e, grows.tail)) two (omega arith)
      in
      record { going = w.going; grows = grows_on grows w.grows })
      (λ e. ended_here k s g (omega (arith, ltb-false k s.tail e)))

  nil_edge : (side : ℕ) → good_edge m es side 0 ≡ 0
  unfolding good_edge
  nil_edge side = sym (pick_yes _ _ _ _ refl refl)

  numbers : r + 2 ≤ m → m ≤ 4096 → Numbered m r es (meet m r es)
  unfolding meet
  numbers room few = record {
    kept = w.going.kept;
    slots = λ n h. own n h.0 h.1;
    start = omega (arith, b.tail, w.grows.tail);
    sound = w.going.sound;
    complete =
        λ n ne x. whole n ne (reach_ind (Done z)
        (λ n q. inr (λ e. omega (arith, own n q.0 q.1))) closed x);
  }
    where
      s : Met
      s = visit_slots m r (met blank blank 2)

      b : Begun r s
      b = begun_slots r (omega arith) room few

      z : Met
      z = visit_from m es (m - 2) 2 s

      w : Ended s z
      w =
          ended (m - 2) 2 s
          (record { kept = b.kept; sound = b.sound; closed = λ j x y. absurd (omega arith) })
          (omega arith) (omega (arith, b.tail)) (omega arith) (omega arith)

      own : (n : ℕ) → 2 ≤ n → n < r + 2 → num_of z n ≡ n
      own n x y = w.grows.num n (λ q. omega (arith, b.own n x y)) ∙ b.own n x y

      closed : (p side : ℕ) → side < length es → Done z p → Done z (good_edge m es side p)
      closed p side h (inl q) = inl (rw q (nil_edge side))
      closed p side h (inr q) =
          let t = w.going.kept.there p q in
          rw t.2 at (w.going.closed (num_of z p) t.0 t.1 side h)

      whole : (n : ℕ) → n ≢ 0 → Done z n → num_of z n ≢ 0
      whole n ne (inl q) = absurd (ne q)
      whole n ne (inr q) = q

pub meet_numbers : MeetNumbers
meet_numbers = numbers

-- for the loops that visit the slots' nodes and the rest
pub kept_slots : {m : ℕ} (k : ℕ) → m ≤ 4096 → Kept m (visit_slots m k (met blank blank 2))
unfolding visit_slots
kept_slots zero h = kept_blank h
kept_slots (suc k) h = kept_visit (k + 2) (kept_slots k h)

pub slots_next : (m k : ℕ) (s : Met) → visit_slots m (k + 1) s ≡ visit m (k + 2) (visit_slots m k s)
unfolding visit_slots
slots_next m k s = rw add-one

pub from_stop : (m : ℕ) (es : List (List ℕ)) (f k : ℕ) (s : Met) → s.tail ≤ k → s
    ≡ visit_from m es f k s
unfolding visit_from
from_stop m es zero k s h = refl
from_stop m es (suc f) k s h = pick_no _ _ _ _ (lt_no _ _ h) refl

pub from_next : (m : ℕ) (es : List (List ℕ)) (k : ℕ) (s : Met) → k < s.tail → k < m
    → visit_from m es (m - k) k s ≡ visit_from m es (m - (k + 1)) (k + 1)
    (visit_edges m es (node_of s k) s)
unfolding visit_from
from_next m es k s h l =
    let q : m - k ≡ suc (m - (k + 1)) = omega arith in
    rw q (sym (pick_yes _ _ _ _ (lt_yes _ _ h) refl))
