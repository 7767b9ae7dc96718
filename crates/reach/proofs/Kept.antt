-- A visit keeps the numbers and their order each other's inverse, and what has a number keeps it.
use mathlib.Core.Path.{◌≡◌, refl, sym, ap, ◌∙◌}
use mathlib.Core.Logic.{◌≢◌}
use mathlib.Core.Bool.{Bool, true, false, true≢false, ◌||◌}
use mathlib.Core.List.{List, [], ◌∷◌}
use Prim.Native.Nat.{ℕ, ◌+◌, ◌-◌, ◌≤◌, ◌<◌}
use native.Mathlib.Decide.{ℕ_discrete}
use native.Mathlib.Omega.{arith}
use lib.ListN.{get_or, set, length-set}
use lib.Seq.{get_or-set_same, get_or-set_other}
use lib.Dec.{leb, eqb}
use borrow.Author.Tests.{leb-false, eqb-true, eqb-false}
use Rattle.base.proofs.Tests.{pick_yes, pick_no, split}
use Rattle.rules.specs.Table.{NIL, FREE, bad_edge}
use Rattle.rules.specs.Meet.{Met, met, num_of, node_of, visit, visit_edges}
use Rattle.reach.specs.Numbered.{good, Kept}
use Rattle.reach.proofs.Counts.{nonzero_le, nonzero_lt, nonzero_up}

-- neither of two tests is passed
pub neither : (a b : Bool) → (a || b) ≡ false → (a ≡ false) × (b ≡ false)
neither true b h = absurd (true≢false h)
neither false b h = (refl, h)

-- an edge that is not bad
pub not_bad : (m t : ℕ) → bad_edge m t ≡ false → (t < m) × (t ≢ FREE)
unfolding bad_edge
not_bad m t h =
    let n = neither (leb m t) (eqb t FREE) h in
    (leb-false m t n.0, eqb-false t FREE n.1)

-- the node is given the next number
abbrev pub added : Met → ℕ → Met
added s n = met (set s.num n s.tail) (set s.order s.tail n) (s.tail + 1)

-- the cases of a visit
pub data Visited (m t : ℕ) (s : Met) : Met → Type 0 where
  nowhere : good m t ≡ 0 → Visited m t s s
  before : good m t ≡ t → num_of s t ≢ 0 → Visited m t s s
  newly : 2 ≤ t → t < m → good m t ≡ t → num_of s t ≡ 0 → Visited m t s (added s t)

pub visited : (m t : ℕ) (s : Met) → Visited m t s (visit m t s)
unfolding visit good
visited m t s = split (Visited m t s) _ _ _
    (λ a. nowhere (sym (pick_yes _ _ _ _ (sym a) refl)))
    (λ a. let g = sym (pick_no _ _ _ _ (sym a) refl) in
    let n = neither (bad_edge m t) (eqb t NIL) a in
    let w = not_bad m t n.0 in
    let z = eqb-false t NIL n.1 in
    split (Visited m t s) _ _ _ (λ b. newly (omega (arith, w, z)) w.0 g (eqb-true _ _ b))
    (λ b. before g (eqb-false _ _ b)))

module _ {m : ℕ} {s : Met} (v : Kept m s) where
  -- a node without a number: there is room for one more
  pub room : (n : ℕ) → 2 ≤ n → n < m → num_of s n ≡ 0 → s.tail < m
  room n lo hi z = omega (arith, v.count, nonzero_lt (num_of s) 2 (m - 2) n z lo (omega arith))

  pub top : 2 ≤ m → s.tail ≤ m
  top h = omega (arith, v.count, nonzero_le (num_of s) 2 (m - 2))

  pub low : 2 ≤ s.tail
  low = omega (arith, v.count)

  pub added_here : (t : ℕ) → t < m → num_of (added s t) t ≡ s.tail
  added_here t hi = get_or-set_same s.num t s.tail 0 (omega (arith, v.wide))

pub added_other : (s : Met) (t n : ℕ) → n ≢ t → num_of (added s t) n ≡ num_of s n
added_other s t n ne = get_or-set_other s.num t n s.tail 0 ne

kept_added : {m : ℕ} {s : Met} (t : ℕ) → Kept m s → 2 ≤ t → t < m → num_of s t ≡ 0
    → Kept m (added s t)
kept_added {m} {s} t v lo hi z = record {
  wide = simp length-set v.wide;
  long = simp length-set v.long;
  count =
      omega (
        arith,
        v.count,
        nonzero_up (num_of s) (num_of (added s t)) 2 (m - 2) t z
            (λ q. omega (arith, here, low v)) other lo (omega arith),
      );
  inside = λ n h. ins n h (ℕ_discrete n t);
  there = λ n h. the n h (ℕ_discrete n t);
  back = λ k a b. bac k a b (ℕ_discrete k s.tail);
}
  where
    here : num_of (added s t) t ≡ s.tail
    here = added_here v t hi

    other : (n : ℕ) → n ≢ t → num_of (added s t) n ≡ num_of s n
    other n ne = added_other s t n ne

    node_here : node_of (added s t) s.tail ≡ t
    node_here = get_or-set_same s.order s.tail t 0 (omega (arith, v.long, room v t lo hi z))

    node_other : (k : ℕ) → k ≢ s.tail → node_of (added s t) k ≡ node_of s k
    node_other k ne = get_or-set_other s.order s.tail k t 0 ne

    ins : (n : ℕ) → num_of (added s t) n ≢ 0 → Dec (n ≡ t) → (2 ≤ n) × (n < m)
    ins n h (yes a) = omega arith
    ins n h (no a) = v.inside n (λ q. h (other n a ∙ q))

    the : (n : ℕ) → num_of (added s t) n ≢ 0 → Dec (n ≡ t)
        → (2 ≤ num_of (added s t) n) × (num_of (added s t) n < s.tail + 1) ×
        (node_of (added s t) (num_of (added s t) n) ≡ n)
    the n h (yes a) = rw (a, here) (low v, omega arith, node_here)
    the n h (no a) =
        let w = v.there n (λ q. h (other n a ∙ q)) in
        rw (other n a) (
          omega (arith, w),
          omega (arith, w),
          node_other (num_of s n)
              (omega (arith, w)) ∙ w.2,
        )

    bac : (k : ℕ) → 2 ≤ k → k < s.tail + 1 → Dec (k ≡ s.tail)
        → num_of (added s t) (node_of (added s t) k) ≡ k
    bac k a b (yes q) = rw (q, node_here) here
    bac k a b (no q) =
        let w : num_of s (node_of s k) ≡ k = v.back k a (omega arith) in
        rw (node_other k q) (other (node_of s k) (λ e. omega (arith, w, ap (num_of s) e, z)) ∙ w)

pub kept_visit : {m : ℕ} {s : Met} (t : ℕ) → Kept m s → Kept m (visit m t s)
kept_visit {m} {s} t v = go (visited m t s)
  where
    go : {s' : Met} → Visited m t s s' → Kept m s'
    go (nowhere a) = v
    go (before a b) = v
    go (newly a b c d) = kept_added t v a b d

pub kept_edges : {m : ℕ} (es : List (List ℕ)) (n : ℕ) {s : Met} → Kept m s
    → Kept m (visit_edges m es n s)
unfolding visit_edges
kept_edges [] n v = v
kept_edges (row ∷ rows) n v = kept_edges rows n (kept_visit (get_or row n 0) v)

-- the node of a number
pub node_inside : {m : ℕ} {s : Met} → Kept m s → (k : ℕ) → 2 ≤ k → k < s.tail
    → (num_of s (node_of s k) ≢ 0) × (node_of s k < m)
node_inside {s = s} v k a b =
    let ne : num_of s (node_of s k) ≢ 0 = λ q. omega (arith, v.back k a b) in
    (ne, (v.inside (node_of s k) ne).1)

-- what has a number keeps it
pub record Grows (s s' : Met) : Type 0 where
  pub num : (n : ℕ) → num_of s n ≢ 0 → num_of s' n ≡ num_of s n
  pub order : (k : ℕ) → k < s.tail → node_of s' k ≡ node_of s k
  pub tail : s.tail ≤ s'.tail

pub grows_same : (s : Met) → Grows s s
grows_same s = record { num = λ n h. refl; order = λ k h. refl; tail = omega arith }

pub grows_on : {a b c : Met} → Grows a b → Grows b c → Grows a c
grows_on u v = record {
  num = λ n h. v.num n (λ q. h (sym (u.num n h) ∙ q)) ∙ u.num n h;
  order = λ k h. v.order k (omega (arith, u.tail)) ∙ u.order k h;
  tail = omega (arith, u.tail, v.tail);
}

pub grows_visit : (m t : ℕ) (s : Met) → Grows s (visit m t s)
grows_visit m t s = go (visited m t s)
  where
    go : {s' : Met} → Visited m t s s' → Grows s s'
    go (nowhere a) = grows_same s
    go (before a b) = grows_same s
    go (newly a b c d) = record {
      num = λ n h. added_other s t n (λ q. h (rw q d));
      order = λ k h. get_or-set_other s.order s.tail k t 0 (omega arith);
      tail = omega arith;
    }

pub grows_edges : (m : ℕ) (es : List (List ℕ)) (n : ℕ) (s : Met) → Grows s (visit_edges m es n s)
unfolding visit_edges
grows_edges m [] n s = grows_same s
grows_edges m (row ∷ rows) n s = grows_on (grows_visit m (get_or row n 0) s)
    (grows_edges m rows n (visit m (get_or row n 0) s))
