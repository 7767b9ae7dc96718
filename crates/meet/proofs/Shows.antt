-- A visit keeps that marks and queue stand for the numbering.
use mathlib.Core.Path.{◌≡◌, refl, sym, ap, ◌∙◌}
use mathlib.Core.Logic.{◌≢◌}
use mathlib.Core.Bool.{true, false}
use mathlib.Core.List.{List}
use Prim.Native.Nat.{ℕ, ◌+◌, ◌-◌, ◌≤◌, ◌<◌}
use native.Mathlib.Decide.{ℕ_discrete}
use native.Mathlib.Omega.{arith}
use lib.ListN.{length, get_or, set}
use lib.Seq.{get_or-set_same, get_or-set_other}
use Rattle.base.proofs.Tests.{pick_yes, pick_no, le_no, eq_no, or_first, or_skip}
use Rattle.rules.specs.Table.{bad_edge}
use Rattle.rules.specs.Meet.{Met, met, num_of, node_of, blank, visit, visit_slots}
use Rattle.reach.specs.Numbered.{one, good, Kept}
use Rattle.reach.proofs.Counts.{one_no, one_yes}
use Rattle.reach.proofs.Kept.{added, Visited, nowhere, before, newly, visited, room, low}
use Rattle.reach.proofs.Kept.{added_here, added_other, kept_visit}
use Rattle.reach.proofs.Meets.{blank_at, kept_blank, slots_next}
use Rattle.meet.specs.Shown.{Shown}

-- an edge to NIL or a bad one leads nowhere
pub nil_visit : (m e : ℕ) (s : Met) → e ≡ 0 → visit m e s ≡ s
nil_visit m e s h = go (visited m e s)
  where
    go : {z : Met} → Visited m e s z → z ≡ s
    go (nowhere a) = refl
    go (before a b) = refl
    go (newly a b c d) = absurd (omega arith)

pub bad_visit : (m e : ℕ) (s : Met) → true ≡ bad_edge m e → visit m e s ≡ s
unfolding visit
bad_visit m e s h = sym (pick_yes _ _ _ _ (or_first _ _ h) refl)

pub node_good : (m n : ℕ) → n < m → n ≢ 1 → false ≡ bad_edge m n
unfolding bad_edge
node_good m n a b = or_skip _ _ _ (le_no m n a) (eq_no n 1 b)

-- any other: the node is marked, and written behind the last
module _ {m : ℕ} {marks order : List ℕ} {tail : ℕ} {s : Met} (v : Shown m marks order tail s)
    (e : ℕ) (good-e : false ≡ bad_edge m e) (some : e ≢ 0) (wide : e < length marks)
    (long : tail < length order) where
  good_self : good m e ≡ e
  unfolding good
  good_self = sym (pick_no _ _ _ _ (or_skip _ _ _ good-e (eq_no e 0 some)) refl)

  here : get_or (set marks e 1) e 0 ≡ 1
  here = get_or-set_same marks e 1 0 wide

  other : (n : ℕ) → n ≢ e → get_or (set marks e 1) n 0 ≡ get_or marks n 0
  other n q = get_or-set_other marks e n 1 0 q

  last : get_or (set order tail e) tail 0 ≡ e
  last = get_or-set_same order tail e 0 long

  earlier : (k : ℕ) → k ≢ tail → get_or (set order tail e) k 0 ≡ get_or order k 0
  earlier k q = get_or-set_other order tail k e 0 q

  pub shown_visit : Shown m (set marks e 1) (set order tail e) (tail + 1 - get_or marks e 0)
      (visit m e s)
  shown_visit = go (visited m e s) (kept_visit e v.kept)
    where
      go : {z : Met} → Visited m e s z → Kept m z
          → Shown m (set marks e 1) (set order tail e) (tail + 1 - get_or marks e 0) z
      go (nowhere a) w = absurd (some (sym good_self ∙ a))
      go (before a b) w =
          let q : get_or marks e 0 ≡ 1 = v.mark e ∙ one_yes _ b in
          record {
            kept = w;
            mark = λ n. marked n (ℕ_discrete n e);
            node = λ k x y. earlier k (omega (arith, q)) ∙ v.node k x (omega (arith, q));
            end = omega (arith, q, v.end);
          }
        where
          marked : (n : ℕ) → Dec (n ≡ e) → get_or (set marks e 1) n 0 ≡ one (num_of s n)
          marked n (yes p) = rw p (here ∙ sym (one_yes _ b))
          marked n (no p) = other n p ∙ v.mark n
      go (newly lo hi a z) w =
          let q : get_or marks e 0 ≡ 0 = v.mark e ∙ one_no _ z in
          record {
            kept = w;
            mark = λ n. marked n (ℕ_discrete n e);
            node = λ k x y. noded k x (omega (arith, q)) (ℕ_discrete k tail);
            end = omega (arith, q, v.end);
          }
        where
          marked : (n : ℕ) → Dec (n ≡ e) → get_or (set marks e 1) n 0 ≡ one (num_of (added s e) n)
          marked n (yes p) =
              let t = added_here v.kept e hi in
              rw p (here ∙ sym (one_yes _ (λ x. omega (arith, low v.kept, t))))
          marked n (no p) = other n p ∙ v.mark n ∙ ap one (sym (added_other s e n p))

          noded : (k : ℕ) → 2 ≤ k → k < tail + 1 → Dec (k ≡ tail)
              → get_or (set order tail e) k 0 ≡ node_of (added s e) k
          noded k x y (yes p) =
              rw (p, v.end)
              ((rw v.end at last) ∙ sym (get_or-set_same s.order s.tail e 0
              (omega (arith, v.kept.long, room v.kept e lo hi z))))
          noded k x y (no p) =
              earlier k p ∙ v.node k x (omega arith)
              ∙ sym (get_or-set_other s.order s.tail k e 0 (omega (arith, v.end)))

-- for the loop over the slots' nodes: nothing is marked at first, and then one node after the other
pub shown_none : (m : ℕ) (marks order : List ℕ) → m ≤ 4096 → ((n : ℕ) → get_or marks n 0 ≡ 0)
    → Shown m marks order 2 (visit_slots m (2 - 2) (met blank blank 2))
unfolding visit_slots
shown_none m marks order h z = record {
  kept = kept_blank h;
  mark = λ n. z n ∙ sym (one_no _ (blank_at n));
  node = λ k a b. absurd (omega arith);
  end = refl;
}

pub slot_other : (marks : List ℕ) (n j : ℕ) → n + 1 ≤ j
    → get_or (set marks n 1) j 0 ≡ get_or marks j 0
slot_other marks n j h = get_or-set_other marks n j 1 0 (omega arith)

pub shown_slot : {m : ℕ} {marks order : List ℕ} {n : ℕ}
    → Shown m marks order n (visit_slots m (n - 2) (met blank blank 2)) → 2 ≤ n → n < m
    → n < length marks → n < length order → get_or marks n 0 ≡ 0
    → Shown m (set marks n 1) (set order n n) (n + 1)
    (visit_slots m (n + 1 - 2) (met blank blank 2))
shown_slot {m} {marks} {order} {n} v lo hi wide long z =
    let at : n + 1 - 2 ≡ n - 2 + 1 = omega arith in
    let of : n - 2 + 2 ≡ n = omega arith in
    let on : n + 1 - get_or marks n 0 ≡ n + 1 = omega (arith, z) in
    rw (at, slots_next, of)
    (rw on at (shown_visit v n (node_good m n hi (omega arith)) (omega arith) wide long))
