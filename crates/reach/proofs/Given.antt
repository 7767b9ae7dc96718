-- The sizes and the edges that Load is given: [Codes 11] is answered with the lowest node that has
-- a bad edge, and where none has, edges are good.
use Prim.Native.Nat.{ℕ, zero, suc, ◌+◌, ◌≤◌, ◌<◌}
use mathlib.Core.Bool.{Bool, true, false, true≢false, false≢true, not, ◌||◌}
use mathlib.Core.List.{List, [], ◌∷◌, map}
use mathlib.Core.Path.{◌≡◌, refl, sym, ap, ◌∙◌}
use mathlib.Core.Logic.{◌≢◌, ◌⊎◌, inl, inr}
use native.Mathlib.Decide.{ℕ_discrete, dec_lt}
use native.Mathlib.Omega.{arith}
use lib.ListN.{length, get_or-eq_default}
use lib.Dec.{eqb, leb}
use borrow.Author.Tests.{leb-true, eqb-true}
use Rattle.base.specs.Choice.{every}
use Rattle.base.proofs.Tests.{eq_yes, eq_no, not_is, every_skip, every_last}
use Rattle.rules.specs.Table.{NIL, FREE, edge_of, bad_edge}
use Rattle.rules.specs.Check.{size_ok}
use Rattle.rules.specs.Meet.{any_edge, first_side}
use Rattle.rules.specs.Load.{load_size_of, bad_given}
use Rattle.reach.specs.Judged.{Lowest, BadSide, BadNode, GoodEdges}
use Rattle.reach.proofs.Kept.{neither, not_bad}
use Rattle.reach.proofs.Lowests.{either, any_yes, any_no, first_passes}

-- the sizes, as facts
pub record Sizes (m r : ℕ) (given : List (List ℕ)) : Type 0 where
  pub low : 3 ≤ m
  pub high : m ≤ 4096
  pub slots : (1 ≤ r) × (r ≤ 64)
  pub room : r + 2 ≤ m
  pub rows : every (map (λ n. eqb n m) (map length given)) ≡ true

pub every_two : (b : Bool) (bs : List Bool) → every (b ∷ bs) ≡ true → (b ≡ true) × (every bs ≡ true)
unfolding every
every_two true bs h = (refl, h)
every_two false bs h = absurd (false≢true h)

pub sizes : (m r : ℕ) (given : List (List ℕ)) (edges : List ℕ) (colours : ℕ)
    → load_size_of m r (map length given) edges colours ≡ true → Sizes m r given
unfolding load_size_of size_ok
sizes m r given edges colours h =
    let w = every_two _ _ h in
    let low = every_two _ _ w.0 in
    let high = every_two _ _ low.1 in
    let some = every_two _ _ high.1 in
    let few = every_two _ _ some.1 in
    let room = every_two _ _ few.1 in
    record {
      low = leb-true _ _ low.0;
      high = leb-true _ _ high.0;
      slots = (leb-true _ _ some.0, leb-true _ _ few.0);
      room = leb-true _ _ room.0;
      rows = w.1;
    }

-- a list has no edge from m on, nor on a side that there is not
pub outside : (m : ℕ) (es : List (List ℕ)) → every (map (λ n. eqb n m) (map length es)) ≡ true
    → (side n : ℕ) → (length es ≤ side) ⊎ (m ≤ n)
    → edge_of es side n ≡ 0
unfolding edge_of
outside m [] h side n o = refl
outside m (row ∷ rows) h zero n (inl o) = absurd (omega arith)
outside m (row ∷ rows) h zero n (inr o) = get_or-eq_default row 0 {n = n}
    (omega (arith, eqb-true (length row) m (every_two _ _ h).0))
outside m (row ∷ rows) h (suc side) n (inl o) = outside m rows (every_two _ _ h).1 side n
    (inl (omega arith))
outside m (row ∷ rows) h (suc side) n (inr o) = outside m rows (every_two _ _ h).1 side n (inr o)

-- [Codes 11] one edge
abbrev BadEdge : ℕ → ℕ → ℕ → Type 0
BadEdge m n e = (m ≤ e) ⊎ (e ≡ FREE) ⊎ ((n ≡ NIL) × (e ≢ 0))

given_yes : (m n e : ℕ) → bad_given m n e ≡ true → BadEdge m n e
unfolding bad_given bad_edge
given_yes m n e h = go (either (leb m e || eqb e FREE) _ h)
  where
    bad : (leb m e ≡ true) ⊎ (eqb e FREE ≡ true) → BadEdge m n e
    bad (inl a) = inl (leb-true _ _ a)
    bad (inr a) = inr (inl (eqb-true _ _ a))

    none : not (eqb e 0) ≡ true → e ≢ 0
    none a q = true≢false (sym a ∙ ap not (sym (eq_yes e 0 q)))

    go : ((leb m e || eqb e FREE) ≡ true) ⊎ (every (eqb n NIL ∷ not (eqb e 0) ∷ []) ≡ true)
        → BadEdge m n e
    go (inl a) = bad (either (leb m e) (eqb e FREE) a)
    go (inr a) =
        let w = every_two _ _ a in
        inr (inr (eqb-true _ _ w.0, none (every_two _ _ w.1).0))

given_no : (m n e : ℕ) → bad_given m n e ≡ false → ¬ BadEdge m n e
unfolding bad_given
given_no m n e h (inl a) = omega (arith, not_bad m e (neither (bad_edge m e) _ h).0)
given_no m n e h (inr (inl a)) = (not_bad m e (neither (bad_edge m e) _ h).0).1 a
given_no m n e h (inr (inr a)) = true≢false
    (every_skip _ _ _ (eq_yes n NIL a.0) (every_last _ _ (not_is _ (eq_no e 0 a.1)))
    ∙ (neither (bad_edge m e) _ h).1)

module _ {m : ℕ} (es : List (List ℕ)) (n : ℕ) where
  pub bad_yes : n < m → any_edge (bad_given m n) es n ≡ true → BadNode m es n
  bad_yes l h =
      let w = any_yes (bad_given m n) es n h in
      (l, (w.0, (w.1, given_yes m n _ w.2)))

  pub bad_no : any_edge (bad_given m n) es n ≡ false → ¬ BadNode m es n
  bad_no h b =
      let e = b.1.1 in
      given_no m n _ (any_no (bad_given m n) es n h b.1.0 e.0) e.1

  -- and the first side on which the node has such an edge
  pub bad_side : any_edge (bad_given m n) es n ≡ true
      → Lowest (BadSide m es n) (first_side (bad_given m n) es n)
  bad_side h =
      let w = first_passes (bad_given m n) es n h in (
        (w.0, given_yes m n _ (w.1.passes w.0)),
        λ side l b. given_no m n _ (w.1.below side (omega arith) l) b.1,
      )

module _ {m r : ℕ} {es : List (List ℕ)} (z : Sizes m r es) where
  -- no node has a bad edge
  pub all_good : ((n : ℕ) → n < m → ¬ BadNode m es n) → GoodEdges m es
  all_good h = record {
    good =
        λ side n. (below side n (in_table side n), not_free side n (in_table side n));
    nil = λ side.
        nil side (in_table side NIL);
  }
    where
      in_table : (side n : ℕ) → ((side < length es) × (n < m)) ⊎ (edge_of es side n ≡ 0)
      in_table side n = go (dec_lt side (length es)) (dec_lt n m)
        where
          go : Dec (side < length es) → Dec (n < m)
              → ((side < length es) × (n < m)) ⊎ (edge_of es side n ≡ 0)
          go (yes a) (yes b) = inl (a, b)
          go (yes a) (no b) = inr (outside m es z.rows side n (inr (omega arith)))
          go (no a) b = inr (outside m es z.rows side n (inl (omega arith)))

      below : (side n : ℕ) → ((side < length es) × (n < m)) ⊎ (edge_of es side n ≡ 0)
          → edge_of es side n < m
      below side n (inr q) = omega (arith, z.low)
      below side n (inl a) = go (dec_lt (edge_of es side n) m)
        where
          go : Dec (edge_of es side n < m) → edge_of es side n < m
          go (yes b) = b
          go (no b) = absurd (h n a.1 (a.1, (side, (a.0, inl (omega arith)))))

      not_free : (side n : ℕ) → ((side < length es) × (n < m)) ⊎ (edge_of es side n ≡ 0)
          → edge_of es side n ≢ FREE
      not_free side n (inr q) e = omega arith
      not_free side n (inl a) e = h n a.1 (a.1, (side, (a.0, inr (inl e))))

      nil : (side : ℕ) → ((side < length es) × (NIL < m)) ⊎ (edge_of es side NIL ≡ 0)
          → edge_of es side NIL ≡ 0
      nil side (inr q) = q
      nil side (inl a) = go (ℕ_discrete (edge_of es side NIL) 0)
        where
          go : Dec (edge_of es side NIL ≡ 0) → edge_of es side NIL ≡ 0
          go (yes b) = b
          go (no b) = absurd (h NIL a.1 (a.1, (side, (a.0, inr (inr (refl, b))))))

pub good_none : {m : ℕ} {es : List (List ℕ)} → GoodEdges m es → (n : ℕ) → ¬ BadNode m es n
good_none {m} {es} g n b = go b.1.1.1
  where
    go : BadEdge m n (edge_of es b.1.0 n) → ⊥
    go (inl a) = omega (arith, (g.good b.1.0 n).0)
    go (inr (inl a)) = (g.good b.1.0 n).1 a
    go (inr (inr a)) = a.1 (rw a.0 (g.nil b.1.0))
