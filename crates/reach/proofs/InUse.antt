-- In use answers what Counted says: what has a number is what slots reach along good edges, so the
-- lowest hurt node among these is found; and where none is hurt, good edges are the edges, and the
-- numbers beyond the slots' are as many as the nodes in use.
use Prim.Native.Nat.{ℕ, ◌+◌, ◌-◌, ◌≤◌, ◌<◌}
use mathlib.Core.Bool.{Bool, true, false, true≢false, not}
use mathlib.Core.List.{List, [], ◌∷◌}
use mathlib.Core.Path.{◌≡◌, refl, sym, ap, ap₂, ◌∙◌}
use mathlib.Core.Logic.{◌≢◌, ◌⊎◌, inl, inr}
use native.Mathlib.Decide.{ℕ_discrete, dec_lt}
use native.Mathlib.Omega.{arith}
use lib.ListN.{length, get_or}
use lib.Dec.{eqb, leb}
use borrow.Author.Tests.{leb-true, ltb-true, ltb-false, eqb-true, eqb-false}
use Rattle.base.specs.Choice.{every}
use Rattle.base.proofs.Tests.{eq_yes, eq_no, pick_yes, pick_no, each, facts, split}
use Rattle.rules.specs.Table.{State, NIL, FREE, edge_of, bad_edge}
use Rattle.rules.specs.Check.{size_ok, check_of, check}
use Rattle.rules.specs.Meet.{Met, num_of, meet, first_side}
use Rattle.rules.specs.InUse.{is_hurt, first_hurt, hurt_at, count_met, in_use}
use Rattle.rules.specs.declared.Answer.{Answer}
use Rattle.rules.specs.declared.Answer.TheVariants.{Counted, Refused}
use Rattle.rules.proofs.Checked.{passes}
use Rattle.theory.specs.Reach.{Reach, Slot}
use Rattle.theory.proofs.Reaches.{reach_on, reach_back}
use Rattle.reach.specs.Numbered.{good_edge, GoodReaches, nonzero, Numbered}
use Rattle.reach.specs.Judged.{Lowest}
use Rattle.reach.specs.Counted.{Number, read_edge, InUse, BadEdge, BadEdges, Hurt, HurtNode}
use Rattle.reach.specs.Counted.{Counts, bad_size, bad_record, damaged, counted, InUseCounts}
use Rattle.reach.specs.Counted.{InUseReached}
use Rattle.reach.proofs.Counts.{nonzero_split, nonzero_all, number_from, number_once}
use Rattle.reach.proofs.Kept.{not_bad}
use Rattle.reach.proofs.Meets.{meet_numbers}
use Rattle.reach.proofs.Lowests.{Passes, lowest_passes, either, any_yes, any_no}
use Rattle.reach.proofs.Lowests.{first_passes}
use Rattle.reach.proofs.Given.{every_two}
use Rattle.reach.proofs.Judges.{lowest_once, at_good}

-- [Damage 1] a bad edge
abbrev Bad : ℕ → ℕ → Type 0
Bad m e = (m ≤ e) ⊎ (e ≡ FREE)

is_bad : (m e : ℕ) → bad_edge m e ≡ true → Bad m e
unfolding bad_edge
is_bad m e h = go (either (leb m e) (eqb e FREE) h)
  where
    go : (leb m e ≡ true) ⊎ (eqb e FREE ≡ true) → Bad m e
    go (inl a) = inl (leb-true _ _ a)
    go (inr a) = inr (eqb-true _ _ a)

none_bad : (m e : ℕ) → bad_edge m e ≡ false → ¬ Bad m e
none_bad m e h (inl a) = omega (arith, not_bad m e h)
none_bad m e h (inr a) = (not_bad m e h).1 a

-- the second of two tests, of which the first is passed
second : (a c : Bool) → a ≡ true → every (a ∷ c ∷ []) ≡ false → c ≡ false
unfolding every
second true true p q = absurd (true≢false q)
second true false p q = refl
second false c p q = absurd (true≢false (sym p))

-- [In use 2] the test: met, and with a bad edge
module _ (m : ℕ) (es : List (List ℕ)) (num : List ℕ) (n : ℕ) where
  hurt_yes : is_hurt m es num n ≡ true → (get_or num n 0 ≢ 0) × BadEdges m es n
  unfolding is_hurt
  hurt_yes h =
      let w = every_two _ _ h in
      let e = any_yes (bad_edge m) es n (every_two _ _ w.1).0 in
      (some _ w.0, (e.0, (e.1, is_bad m _ e.2)))
    where
      some : (x : ℕ) → not (eqb x 0) ≡ true → x ≢ 0
      some x e q = true≢false (sym e ∙ ap not (sym (eq_yes x 0 q)))

  hurt_no : is_hurt m es num n ≡ false → get_or num n 0 ≢ 0 → ¬ BadEdges m es n
  unfolding is_hurt
  hurt_no h ne b =
      none_bad m _
      (any_no (bad_edge m) es n (second _ _ (ap not (sym (eq_no (get_or num n 0) 0 ne))) h) b.0
      b.1.0) b.1.1

  -- and the first side on which the node has such an edge
  hurt_side : is_hurt m es num n ≡ true → Lowest (BadEdge m es n) (first_side (bad_edge m) es n)
  unfolding is_hurt
  hurt_side h =
      let w = first_passes (bad_edge m) es n (every_two _ _ (every_two _ _ h).1).0 in (
        (w.0, is_bad m _ (w.1.passes w.0)),
        λ side l b. none_bad m _ (w.1.below side (omega arith) l) b.1,
      )

module _ (m r : ℕ) (es : List (List ℕ)) (room : r + 2 ≤ m) (few : m ≤ 4096) where
  abbrev z : Met
  z = meet m r es

  num : Numbered m r es z
  num = meet_numbers m r es room few

  hurt_found : Passes (is_hurt m es z.num) 0 m (first_hurt m es z.num)
  unfolding first_hurt
  hurt_found = lowest_passes _ m

  below : (n : ℕ) → n < first_hurt m es z.num → ¬ Hurt m r es n
  below n l h =
      hurt_no m es z.num n (hurt_found.below n (omega arith) l)
      (num.complete n h.0 h.2) h.3

  hit : first_hurt m es z.num < m → Lowest (Hurt m r es) (first_hurt m es z.num)
  hit h =
      let k = hurt_yes m es z.num (first_hurt m es z.num) (hurt_found.passes h) in
      let low = num.kept.inside _ k.0 in
      ((omega (arith, low), h, num.sound _ k.0, k.1), below)

  hit_side : first_hurt m es z.num < m → Lowest (BadEdge m es (first_hurt m es z.num))
      (first_side (bad_edge m) es (first_hurt m es z.num))
  hit_side h = hurt_side m es z.num (first_hurt m es z.num) (hurt_found.passes h)

  none_hurt : m ≤ first_hurt m es z.num → (n : ℕ) → ¬ Hurt m r es n
  none_hurt h n u = below n (omega (arith, u.1)) u

  -- where no node is hurt
  module _ (none : (n : ℕ) → ¬ Hurt m r es n) where
    same_edge : (p side : ℕ) → side < length es → GoodReaches m r es p
        → read_edge es side p ≡ good_edge m es side p
    unfolding read_edge good_edge
    same_edge p side l x = go (ℕ_discrete p NIL)
      where
        fine : p ≢ NIL → ¬ Bad m (edge_of es side p)
        fine ne b =
            let i = num.kept.inside p (num.complete p ne x) in
            none p (ne, i.1, x, (side, (l, b)))

        inside : ¬ Bad m (edge_of es side p) → Dec (edge_of es side p < m) → edge_of es side p < m
        inside h (yes a) = a
        inside h (no a) = absurd (h (inl (omega arith)))

        go : Dec (p ≡ NIL) → read_edge es side p ≡ good_edge m es side p
        go (yes q) = sym (pick_yes _ _ _ _ (eq_yes p NIL q) refl)
            ∙ pick_yes _ _ _ _ (eq_yes p NIL q) refl
        go (no q) = sym (pick_no _ _ _ _ (eq_no p NIL q) refl)
            ∙ pick_no _ _ _ _ (eq_no p NIL q)
            (sym (at_good m (edge_of es side p) (inside (fine q) (dec_lt _ m))
            (λ e. fine q (inr e))))

    to_own : {n : ℕ} → GoodReaches m r es n → Reach (length es) (Slot (r + 2)) (read_edge es) n
    to_own = reach_on same_edge

    of_own : {n : ℕ} → Reach (length es) (Slot (r + 2)) (read_edge es) n → GoodReaches m r es n
    of_own = reach_back (λ p side l x. inl (same_edge p side l x))

    beyond : z.tail - (r + 2) ≡ nonzero (num_of z) (2 + r) (m - (r + 2))
    beyond =
        let q : m - 2 ≡ r + (m - (r + 2)) = omega arith in
        let a = ap (nonzero (num_of z) 2) q in
        let b = nonzero_split (num_of z) 2 r (m - (r + 2)) in
        let c = nonzero_all (num_of z) 2 r
        (λ n lo hi e. omega (arith, num.slots n (lo, omega arith))) in
        omega (arith, num.kept.count)

    number : Number (InUse r es) m (z.tail - (r + 2))
    number =
        let q : 2 + r + (m - (r + 2)) ≡ m = omega arith in
        rw beyond (rw q at (number_from (InUse r es) (num_of z) (2 + r)
        (λ n l u. omega (arith, u.0)) (m - (r + 2))
        (λ n lo hi. (
          λ x. (omega arith, to_own (num.sound n x)),
          λ u. num.complete n (omega arith) (of_own u.1),
        ))))

-- [Codes 1] [Codes 2] no other code is checked
check_is : (s : State) → (check s ≡ 0) ⊎ (check s ≡ 1) ⊎ (check s ≡ 2)
unfolding check_of
check_is s =
    split (λ (c : ℕ). (c ≡ 0) ⊎ (c ≡ 1) ⊎ (c ≡ 2)) _ _ _
    (λ p. split (λ (c : ℕ). (c ≡ 0) ⊎ (c ≡ 1) ⊎ (c ≡ 2)) _ _ _ (λ q. inl refl)
    (λ q. inr (inr refl)))
    (λ p. inr (inl refl))

checked_sizes : (s : State) → check s ≡ 0 → (s.rec.r + 2 ≤ s.rec.m) × (s.rec.m ≤ 4096)
unfolding size_ok
checked_sizes s q =
    let w = each _ (passes _ _ s.rec (sym q)).0 in
    omega facts

counts_met : (s : State) → check s ≡ 0 → Counts s
    (count_met s.rec.m s.rec.r s.edges (meet s.rec.m s.rec.r s.edges))
unfolding count_met hurt_at
counts_met s q =
    split (Counts s) _ _ _
    (λ b. damaged q (hit m r s.edges k.0 k.1 (ltb-true _ _ b))
    (hit_side m r s.edges k.0 k.1 (ltb-true _ _ b)))
    (λ b. let none = none_hurt m r s.edges k.0 k.1 (ltb-false _ _ b) in
    counted q none (number m r s.edges k.0 k.1 none))
  where
    m : ℕ
    m = s.rec.m

    r : ℕ
    r = s.rec.r

    k : (r + 2 ≤ m) × (m ≤ 4096)
    k = checked_sizes s q

pub in_use_counted : (s : State) → Counts s (in_use s)
unfolding in_use
in_use_counted s =
    split (Counts s) _ _ _ (λ q. counts_met s (eqb-true _ _ q))
    (λ q. go (eqb-false _ _ q) (check_is s))
  where
    go : check s ≢ 0 → (check s ≡ 0) ⊎ (check s ≡ 1) ⊎ (check s ≡ 2)
        → Counts s (Refused (check s) 0 0)
    go ne (inl q) = absurd (ne q)
    go ne (inr (inl q)) = rw q (bad_size q)
    go ne (inr (inr q)) = rw q (bad_record q)

-- no two answers are right
counts_once : {s : State} {a b : Answer} → Counts s a → Counts s b → a ≡ b
counts_once (bad_size p) (bad_size q) = refl
counts_once (bad_size p) (bad_record q) = absurd (omega arith)
counts_once (bad_size p) (damaged q l d) = absurd (omega arith)
counts_once (bad_size p) (counted q n k) = absurd (omega arith)
counts_once (bad_record p) (bad_size q) = absurd (omega arith)
counts_once (bad_record p) (bad_record q) = refl
counts_once (bad_record p) (damaged q l d) = absurd (omega arith)
counts_once (bad_record p) (counted q n k) = absurd (omega arith)
counts_once (damaged p l d) (bad_size q) = absurd (omega arith)
counts_once (damaged p l d) (bad_record q) = absurd (omega arith)
counts_once {s} (damaged {n = n} {side = i} p l d) (damaged {n = k} {side = j} q h e) =
    let same = lowest_once (HurtNode s) n k l h in
    ap₂ (Refused 7) same
    (lowest_once (BadEdge s.rec.m s.edges n) i j d (rw (sym same) at e))
counts_once (damaged {n = n} p l d) (counted q h k) = absurd (h n l.0)
counts_once (counted p h j) (bad_size q) = absurd (omega arith)
counts_once (counted p h j) (bad_record q) = absurd (omega arith)
counts_once (counted p h j) (damaged {n = n} q l d) = absurd (h n l.0)
counts_once (counted p h j) (counted q g k) = ap Counted (number_once j k)

pub in_use_counts : InUseCounts
in_use_counts s a = record {
  only = λ q. rw q at (in_use_counted s);
  always = λ c. counts_once (in_use_counted s) c;
}

pub in_use_reached : InUseReached
unfolding read_edge
in_use_reached r es nil n = record {
  reached = λ u. reach_on (λ p side l x. sym (same p side)) u.1;
  in_use = λ lo x. (lo, reach_on (λ p side l y. same p side) x);
}
  where
    same : (p side : ℕ) → read_edge es side p ≡ edge_of es side p
    same p side = split (λ (x : ℕ). x ≡ edge_of es side p) _ _ _
        (λ q. sym (rw (eqb-true p NIL q) (nil side))) (λ q. refl)
