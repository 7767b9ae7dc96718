-- The free chain: what it comes to is one, a chain that ends has no node that breaks it, and its
-- nodes are the free list.
use Prim.Native.Nat.{ℕ, ◌+◌, ◌≤◌, ◌<◌}
use mathlib.Core.List.{List, [], ◌∷◌}
use mathlib.Core.Path.{◌≡◌, refl, sym, ap, subst, ◌∙◌}
use mathlib.Core.Logic.{◌≢◌, ◌⊎◌, inl, inr}
use native.Mathlib.Decide.{ℕ_discrete, dec_lt}
use native.Mathlib.Omega.{arith}
use lib.ListN.{length}
use Rattle.rules.specs.Table.{FREE, left, right, edge_of}
use Rattle.theory.specs.Free.{Chain, Mem, Distinct, last_of}
use Rattle.theory.proofs.Chains.{chain_distinct}
use Rattle.reach.specs.Judged.{GoodEdges, Breaks, right_edge, to_slot, to_passed, Comes}
use Rattle.reach.specs.Judged.{first, next, FreeChain}

-- where it came by: the node does not break it, and its left edge goes on
record By (r : ℕ) (es : List (List ℕ)) (k : ℕ) : Type 0 where
  passed : List ℕ
  node : ℕ
  comes : Comes r es passed node
  many : length passed ≡ k
  whole : ¬ Breaks r es passed node
  on : edge_of es left node ≢ 0

-- an end: the chain comes to n, which does not break it and has no left edge
pub record Ends (r : ℕ) (es : List (List ℕ)) (n : ℕ) : Type 0 where
  pub passed : List ℕ
  pub comes : Comes r es passed n
  pub whole : ¬ Breaks r es passed n
  pub stop : edge_of es left n ≡ 0

-- the nodes passed, from FREE on
record Unwound (es : List (List ℕ)) (ps : List ℕ) (n : ℕ) (gs : List ℕ) : Type 0 where
  list : List ℕ
  chain : Chain (edge_of es) FREE list
  end : last_of FREE list ≡ last_of n gs
  in_list : (t : ℕ) → Mem t (n ∷ ps) ⊎ Mem t gs → Mem t (FREE ∷ list)
  in_passed : (t : ℕ) → Mem t (FREE ∷ list) → Mem t (n ∷ ps) ⊎ Mem t gs

-- the free chain of a chain that ends, and its nodes are those passed
pub record Found (r : ℕ) (es : List (List ℕ)) (n : ℕ) (ps : List ℕ) : Type 0 where
  pub free : List ℕ
  pub chain : FreeChain r es free
  pub end : n ≡ last_of FREE free
  pub passed : (t : ℕ) → Mem t free → Mem t (n ∷ ps)
  pub all : (t : ℕ) → Mem t (n ∷ ps) → t ≢ FREE → Mem t free

module _ {r : ℕ} {es : List (List ℕ)} where
  -- the chain does not come to NIL
  comes_some : {ps : List ℕ} {n : ℕ} → Comes r es ps n → (t : ℕ) → Mem t (n ∷ ps) → t ≢ 0
  comes_some first t (inl e) q = omega arith
  comes_some first t (inr a) q = elim a [ ]
  comes_some (next c b e ne) t (inl a) q = ne (sym a ∙ q)
  comes_some (next c b e ne) t (inr a) q = comes_some c t a q

  -- to one node after so many
  comes_same : {ps qs : List ℕ} {n k : ℕ} → Comes r es ps n → Comes r es qs k → length ps
      ≡ length qs → (ps ≡ qs) × (n ≡ k)
  comes_same first first h = (refl, refl)
  comes_same first (next c b e ne) h = absurd (omega arith)
  comes_same (next c b e ne) first h = absurd (omega arith)
  comes_same (next {p = p} c b e ne) (next {p = q} c' b' e' ne') h =
      let w = comes_same c c' (omega arith) in
      let z : p ≡ q = w.1 in
      (rw (z, w.0), sym e ∙ ap (edge_of es left) z ∙ e')

  comes_by : {ps : List ℕ} {n : ℕ} (k : ℕ) → Comes r es ps n → k < length ps → By r es k
  comes_by k first h = absurd (omega arith)
  comes_by k (next {ps = ps} {p = p} c b e ne) h = go (ℕ_discrete k (length ps)) (comes_by k c)
    where
      go : Dec (k ≡ length ps) → (k < length ps → By r es k) → By r es k
      go (yes q) rec = record {
        passed = ps;
        node = p;
        comes = c;
        many = sym q;
        whole = b;
        on = λ z.
            ne (sym e ∙ z);
      }
      go (no q) rec = rec (omega arith)

  -- the first node that breaks it is one
  pub breaks_once : {ps qs : List ℕ} {n k : ℕ} → Comes r es ps n → Breaks r es ps n
      → Comes r es qs k → Breaks r es qs k → n ≡ k
  breaks_once {ps} {qs} {n} {k} c b c' b' =
      go (dec_lt (length ps) (length qs)) (dec_lt (length qs) (length ps))
    where
      short : {ps qs : List ℕ} {n k : ℕ} → Comes r es ps n → Breaks r es ps n → Comes r es qs k
          → length ps < length qs → ⊥
      short {ps} c b c' h =
          let y = comes_by (length ps) c' h in
          let w = comes_same c y.comes (sym y.many) in
          y.whole (rw (w.0, w.1) at b)

      go : Dec (length ps < length qs) → Dec (length qs < length ps) → n ≡ k
      go (yes h) d = absurd (short c b c' h)
      go (no h) (yes g) = absurd (short c' b' c g)
      go (no h) (no g) = (comes_same c c' (omega arith)).1

  -- and a chain that ends has none
  pub ends_whole : {qs : List ℕ} {n k : ℕ} → Ends r es n → Comes r es qs k → Breaks r es qs k → ⊥
  ends_whole {qs} {n} {k} d c b =
      go (dec_lt (length d.passed) (length qs)) (dec_lt (length qs) (length d.passed))
    where
      go : Dec (length d.passed < length qs) → Dec (length qs < length d.passed) → ⊥
      go (yes h) _ =
          let y = comes_by (length d.passed) c h in
          let w = comes_same d.comes y.comes (sym y.many) in
          y.on (rw w.1 at d.stop)
      go (no h) (yes g) =
          let y = comes_by (length qs) d.comes g in
          let w = comes_same c y.comes (sym y.many) in
          y.whole (rw (w.0, w.1) at b)
      go (no h) (no g) =
          let w = comes_same c d.comes (omega arith) in
          d.whole (rw (w.0, w.1) at b)

  -- a node whose left edge ends the chain or goes to a new node that is no root does not break it
  pub whole_end : {ps : List ℕ} {n : ℕ} → Comes r es ps n → edge_of es right n ≡ 0
      → edge_of es left n ≡ 0 → ¬ Breaks r es ps n
  whole_end c z e (right_edge a) = a z
  whole_end c z e (to_slot a) = omega arith
  whole_end c z e (to_passed a) = comes_some c _ a e

  pub whole_next : {ps : List ℕ} {n : ℕ} → edge_of es right n ≡ 0 → r + 2 ≤ edge_of es left n
      → ¬ Mem (edge_of es left n) (n ∷ ps) → ¬ Breaks r es ps n
  whole_next z h k (right_edge a) = a z
  whole_next z h k (to_slot a) = omega arith
  whole_next z h k (to_passed a) = k a

  -- a free chain comes to its end
  chain_ends : {ps : List ℕ} (n : ℕ) (fs : List ℕ) → Comes r es ps n → Chain (edge_of es) n fs
      → Distinct fs → ((t : ℕ) → Mem t fs → ¬ Mem t (n ∷ ps))
      → ((t : ℕ) → Mem t fs → r + 2 ≤ t) → ((t : ℕ) → Mem t (n ∷ fs) → edge_of es right t ≡ 0)
      → Ends r es (last_of n fs)
  chain_ends {ps} n [] c h d new high bare = record
      { passed = ps; comes = c; whole = whole_end c (bare n (inl refl)) h; stop = h }
  chain_ends {ps} n (f ∷ fs) c h d new high bare =
      chain_ends f fs
      (next c (whole_next (bare n (inl refl)) (rw h.1 (high f (inl refl)))
      (subst (λ x. ¬ Mem x (n ∷ ps)) (sym h.1) (new f (inl refl)))) h.1 h.0)
      h.2 d.1 again (λ t a. high t (inr a)) (λ t a. bare t (inr a))
    where
      again : (t : ℕ) → Mem t fs → ¬ Mem t (f ∷ n ∷ ps)
      again t a (inl q) = d.0 (rw q at a)
      again t a (inr q) = new t (inr a) q

  pub free_ends : {fs : List ℕ} → FreeChain r es fs → Ends r es (last_of FREE fs)
  free_ends {fs} w =
      chain_ends FREE fs first w.chained.chain w.chained.distinct new high w.bare
    where
      high : (t : ℕ) → Mem t fs → r + 2 ≤ t
      high t a = go (dec_lt t (r + 2))
        where
          go : Dec (t < r + 2) → r + 2 ≤ t
          go (yes h) = absurd (w.no_root t a h)
          go (no h) = omega arith

      new : (t : ℕ) → Mem t fs → ¬ Mem t (FREE ∷ [])
      new t a (inl q) = omega (arith, high t a)
      new t a (inr q) = q

  unwind : {ps : List ℕ} {n : ℕ} (gs : List ℕ) → Comes r es ps n → Chain (edge_of es) n gs
      → Unwound es ps n gs
  unwind gs first h = record { list = gs; chain = h; end = refl; in_list = there; in_passed = back }
    where
      there : (t : ℕ) → Mem t (FREE ∷ []) ⊎ Mem t gs → Mem t (FREE ∷ gs)
      there t (inl (inl q)) = inl q
      there t (inl (inr q)) = absurd q
      there t (inr q) = inr q

      back : (t : ℕ) → Mem t (FREE ∷ gs) → Mem t (FREE ∷ []) ⊎ Mem t gs
      back t (inl q) = inl (inl q)
      back t (inr q) = inr q
  unwind gs (next {ps = ps} {p = p} {n = n} c b e ne) h =
      let w = unwind (n ∷ gs) c (ne, e, h) in
      record {
        list =
            w.list;
        chain = w.chain;
        end = w.end;
        in_list = λ t a. w.in_list t (there t a);
        in_passed = λ t a. back t (w.in_passed t a);
      }
    where
      there : (t : ℕ) → Mem t (n ∷ p ∷ ps) ⊎ Mem t gs → Mem t (p ∷ ps) ⊎ Mem t (n ∷ gs)
      there t (inl (inl q)) = inr (inl q)
      there t (inl (inr q)) = inl q
      there t (inr q) = inr (inr q)

      back : (t : ℕ) → Mem t (p ∷ ps) ⊎ Mem t (n ∷ gs) → Mem t (n ∷ p ∷ ps) ⊎ Mem t gs
      back t (inl q) = inl (inr q)
      back t (inr (inl q)) = inl (inl q)
      back t (inr (inr q)) = inr q

  -- every node passed is FREE or no root, and has no right edge
  bare_node : {ps : List ℕ} {n : ℕ} → ¬ Breaks r es ps n → edge_of es right n ≡ 0
  bare_node {n = n} b = go (ℕ_discrete (edge_of es right n) 0)
    where
      go : Dec (edge_of es right n ≡ 0) → edge_of es right n ≡ 0
      go (yes q) = q
      go (no q) = absurd (b (right_edge q))

  bare_passed : {ps : List ℕ} {n : ℕ} → Comes r es ps n → (t : ℕ) → Mem t ps
      → edge_of es right t ≡ 0
  bare_passed first t a = absurd a
  bare_passed (next c b e ne) t (inl q) = rw q (bare_node b)
  bare_passed (next c b e ne) t (inr q) = bare_passed c t q

  high_next : {m : ℕ} → GoodEdges m es → {ps : List ℕ} {p n : ℕ} → ¬ Breaks r es ps p
      → edge_of es left p ≡ n → n ≢ 0 → r + 2 ≤ n
  high_next g {p = p} {n} b e ne = go (dec_lt n (r + 2))
    where
      go : Dec (n < r + 2) → r + 2 ≤ n
      go (no h) = omega arith
      go (yes h) = absurd (b (to_slot (rw e (omega (arith, (g.good left p).1), h))))

  high_passed : {m : ℕ} → GoodEdges m es → {ps : List ℕ} {n : ℕ} → Comes r es ps n → (t : ℕ)
      → Mem t (n ∷ ps) → (t ≡ FREE) ⊎ (r + 2 ≤ t)
  high_passed g first t (inl q) = inl q
  high_passed g first t (inr q) = absurd q
  high_passed g (next c b e ne) t (inl q) = inr (rw q (high_next g b e ne))
  high_passed g (next c b e ne) t (inr q) = high_passed g c t q

  pub found : {m : ℕ} → GoodEdges m es → {n : ℕ} (d : Ends r es n) → Found r es n d.passed
  found g {n} d = record {
    free = u.list;
    chain = record {
      chained = record { chain = u.chain; distinct = once.1 };
      no_root = root;
      bare = λ t a. bare t (u.in_passed t a);
    };
    end = sym u.end;
    passed = λ t a. seen t (u.in_passed t (inr a));
    all = λ t a ne. later t ne (u.in_list t (inl a));
  }
    where
      u : Unwound es d.passed n []
      u = unwind [] d.comes d.stop

      once : Distinct (FREE ∷ u.list)
      once = chain_distinct (edge_of es) FREE u.list u.chain

      seen : (t : ℕ) → Mem t (n ∷ d.passed) ⊎ ⊥ → Mem t (n ∷ d.passed)
      seen t (inl a) = a
      seen t (inr a) = absurd a

      later : (t : ℕ) → t ≢ FREE → Mem t (FREE ∷ u.list) → Mem t u.list
      later t ne (inl q) = absurd (ne q)
      later t ne (inr q) = q

      root : (t : ℕ) → Mem t u.list → ¬ (t < r + 2)
      root t a h = go (high_passed g d.comes t (seen t (u.in_passed t (inr a))))
        where
          go : (t ≡ FREE) ⊎ (r + 2 ≤ t) → ⊥
          go (inl q) = once.0 (rw q at a)
          go (inr q) = omega arith

      bare : (t : ℕ) → Mem t (n ∷ d.passed) ⊎ ⊥ → edge_of es right t ≡ 0
      bare t (inl (inl q)) = rw q (bare_node d.whole)
      bare t (inl (inr q)) = bare_passed d.comes t q
      bare t (inr q) = absurd q
