-- The lowest node with a bad edge: a visit of one node more keeps it, and in the end it is the
-- first hurt node of all. What is left of the walk comes to the same after each visit.
use mathlib.Core.Path.{◌≡◌, refl, sym, ap, ◌∙◌}
use mathlib.Core.Logic.{◌≢◌, ◌⊎◌, inl, inr}
use mathlib.Core.Bool.{Bool, true, false, true≢false, not, ◌||◌}
use mathlib.Core.List.{List}
use Prim.Native.Nat.{ℕ, ◌+◌, ◌-◌, ◌≤◌, ◌<◌}
use native.Mathlib.Decide.{ℕ_discrete, dec_lt}
use native.Mathlib.Omega.{arith}
use lib.ListN.{get_or}
use lib.Dec.{eqb}
use Rattle.std.specs.Prelude.{Option, Some, None, unwrap_or, min}
use Rattle.base.specs.Choice.{pick}
use Rattle.base.proofs.Tests.{pick_yes, pick_no, eq_yes, eq_no, not_is, every_skip}
use Rattle.base.proofs.Tests.{every_last}
use Rattle.rules.specs.Table.{bad_edge}
use Rattle.rules.specs.Meet.{Met, num_of, node_of, visit_edges, visit_from, any_edge}
use Rattle.rules.specs.InUse.{is_hurt, first_hurt}
use Rattle.reach.specs.Numbered.{Kept}
use Rattle.reach.proofs.Kept.{kept_edges, node_inside, top, Grows, grows_edges}
use Rattle.reach.proofs.Meets.{from_next, from_stop}
use Rattle.reach.proofs.Lowests.{Passes, lowest_passes}
use Rattle.reach.proofs.Given.{every_two}
use Rattle.meet.specs.Shown.{Shown, lowest, Hurt, Gone, Told}

-- of a node and the lowest before: it, or that
lowest_of : (n m : ℕ) (o : Option ℕ) → n < m
    → ((lowest n o ≡ n) × (n ≤ unwrap_or o m)) ⊎ ((o ≡ Some (lowest n o)) × (lowest n o ≤ n))
lowest_of n m None l = inl (refl, omega arith)
lowest_of n m (Some h) l = go (dec_lt h n)
  where
    go : Dec (h < n) → ((min n h ≡ n) × (n ≤ h)) ⊎ ((Some h ≡ Some (min n h)) × (min n h ≤ n))
    go (yes k) =
        let e : h ≡ min n h = omega arith in
        inr (ap Some e, omega arith)
    go (no k) = inl (omega arith, omega arith)

lowest_again : (n : ℕ) (o : Option ℕ) → lowest n (Some (lowest n o)) ≡ lowest n o
lowest_again n None = omega arith
lowest_again n (Some h) = omega arith

-- of two edges of node n, one after the other
pub hurt_both : (a b : Bool) (n : ℕ) (h g k : Option ℕ) → g ≡ pick a (Some (lowest n h)) h
    → k ≡ pick b (Some (lowest n g)) g → k ≡ pick (a || (b || false)) (Some (lowest n h)) h
unfolding pick
hurt_both true true n h g k p q =
    q ∙ ap (λ (o : Option ℕ). Some (lowest n o)) p ∙ ap Some (lowest_again n h)
hurt_both true false n h g k p q = q ∙ p
hurt_both false true n h g k p q = q ∙ ap (λ (o : Option ℕ). Some (lowest n o)) p
hurt_both false false n h g k p q = q ∙ p

-- a node that is told is below m; where none is told, m stands for it
some_of : (h : Option ℕ) (m x : ℕ) → x ≡ unwrap_or h m → x < m → h ≡ Some x
some_of None m x e l = absurd (omega arith)
some_of (Some y) m x e l = ap Some (sym e)

high : (h : Option ℕ) (m : ℕ) → ((n : ℕ) → h ≡ Some n → n < m) → unwrap_or h m ≤ m
high None m f = omega arith
high (Some y) m f = omega (arith, f y refl)

-- no node is visited yet
pub hurt_none : {m : ℕ} {s : Met} (es : List (List ℕ)) → Kept m s → Hurt m es s 2 None
hurt_none es v = record {
  there = λ n e. absurd (cc e);
  least = λ n a b c. absurd (omega (arith, v.there n a));
}

-- the node with number k is visited
module _ {m : ℕ} {es : List (List ℕ)} {s : Met} {k : ℕ} {h : Option ℕ} (v : Kept m s)
    (u : Hurt m es s k h) (lo : 2 ≤ k) (hi : k < s.tail) where
  abbrev n : ℕ
  n = node_of s k

  abbrev z : Met
  z = visit_edges m es n s

  here : (num_of s n ≢ 0) × (n < m)
  here = node_inside v k lo hi

  grows : Grows s z
  grows = grows_edges m es n s

  stays : (x : ℕ) → num_of s x ≢ 0 → num_of z x ≢ 0
  stays x a q = a (sym (grows.num x a) ∙ q)

  -- its number is what it was
  older : (x : ℕ) → num_of z x ≢ 0 → num_of z x < k + 1
      → (num_of s x ≡ num_of z x) × (node_of s (num_of z x) ≡ x)
  older x a b =
      let t = (kept_edges es n v).there x a in
      let q : node_of s (num_of z x) ≡ x =
      sym (grows.order (num_of z x) (omega arith)) ∙ t.2 in
      (ap (num_of s) (sym q) ∙ v.back (num_of z x) t.0 (omega arith), q)

  -- a node visited by now that has a bad edge: an earlier one, or n
  least : (g : ℕ) → g ≤ unwrap_or h m → (any_edge (bad_edge m) es n ≡ true → g ≤ n) → (x : ℕ) → num_of z x ≢ 0
      → num_of z x < k + 1 → any_edge (bad_edge m) es x ≡ true → g ≤ x
  least g a b x c d e = go (ℕ_discrete (num_of z x) k)
    where
      o : (num_of s x ≡ num_of z x) × (node_of s (num_of z x) ≡ x)
      o = older x c d

      go : Dec (num_of z x ≡ k) → g ≤ x
      go (yes q) =
          let p : n ≡ x = ap (node_of s) (sym q) ∙ o.1 in
          omega (arith, p, b (rw p e))
      go (no q) = omega (
        arith,
        a,
        u.least x (λ y. c (sym o.0 ∙ y)) (omega (arith, o.0)) e,
      )

  still : (g : Option ℕ) → g ≡ h
      → (any_edge (bad_edge m) es n ≡ true → unwrap_or h m ≤ n) → Hurt m es z (k + 1) g
  still g q b = rw q record {
    there = λ x e.
        let t = u.there x e in
        (t.0, stays x t.1, t.2);
    least = least (unwrap_or h m) (omega arith) b;
  }

  pub hurt_next : (g : Option ℕ)
      → g ≡ pick (any_edge (bad_edge m) es n) (Some (lowest n h)) h → Hurt m es z (k + 1) g
  hurt_next g e = go (any_edge (bad_edge m) es n) refl
    where
      bad : any_edge (bad_edge m) es n ≡ true → g ≡ Some (lowest n h)
      bad q = e ∙ sym (pick_yes _ _ _ _ (sym q) refl)

      here_is : any_edge (bad_edge m) es n ≡ true → g ≡ Some n → (x : ℕ) → g ≡ Some x
          → (x < m) × (num_of z x ≢ 0) × (any_edge (bad_edge m) es x ≡ true)
      here_is q p x a =
          let i : n ≡ x = cc (p, a) in
          rw (← i) (here.1, stays n here.0, q)

      found : any_edge (bad_edge m) es n ≡ true
          → ((lowest n h ≡ n) × (n ≤ unwrap_or h m))
          ⊎ ((h ≡ Some (lowest n h)) × (lowest n h ≤ n)) → Hurt m es z (k + 1) g
      found q (inl p) =
          let i = bad q ∙ ap Some p.0 in
          record {
            there = here_is q i;
            least = rw i (least n p.1 (λ y. omega arith));
          }
      found q (inr p) = still g (bad q ∙ sym p.0)
          (λ y. omega (arith, p.1, ap (λ o. unwrap_or o m) p.0))

      go : (b : Bool) → any_edge (bad_edge m) es n ≡ b → Hurt m es z (k + 1) g
      go true q = found q (lowest_of n m h here.1)
      go false q = still g (e ∙ sym (pick_no _ _ _ _ (sym q) refl))
          (λ y. absurd (true≢false (sym y ∙ q)))

-- all are visited
module _ (m : ℕ) (es : List (List ℕ)) (s : Met) (k : ℕ) (h : Option ℕ) (v : Kept m s)
    (u : Hurt m es s k h) (all : s.tail ≤ k) where
  abbrev f : ℕ
  f = first_hurt m es s.num

  w : Passes (is_hurt m es s.num) 0 m f
  unfolding first_hurt
  w = lowest_passes _ m

  hurt_yes : (n : ℕ) → num_of s n ≢ 0 → any_edge (bad_edge m) es n ≡ true
      → true ≡ is_hurt m es s.num n
  unfolding is_hurt
  hurt_yes n a b = every_skip _ _ _ (not_is _ (eq_no _ 0 a)) (every_last _ _ (sym b))

  is_hurt_lem : (n : ℕ) → is_hurt m es s.num n ≡ true
      → (num_of s n ≢ 0) × (any_edge (bad_edge m) es n ≡ true)
  unfolding is_hurt
  is_hurt_lem n q =
      let e = every_two _ _ q in
      (some _ e.0, (every_two _ _ e.1).0)
    where
      some : (x : ℕ) → not (eqb x 0) ≡ true → x ≢ 0
      some x e p = true≢false (sym e ∙ ap not (sym (eq_yes x 0 p)))

  abbrev told : ℕ
  told = unwrap_or h m

  pub hurt_all : told ≡ f
  hurt_all = go (dec_lt f m) (dec_lt told f)
    where
      under : f < m → told ≤ f
      under l =
          let i = is_hurt_lem f (w.passes l) in
          u.least f i.0 (omega (arith, v.there f i.0)) i.1

      go : Dec (f < m) → Dec (told < f) → told ≡ f
      go a (yes l) =
          let t = u.there told (some_of h m told refl (omega (arith, w.to))) in
          absurd (true≢false (hurt_yes told t.1 t.2 ∙ w.below told (omega arith) l))
      go (yes a) (no l) = omega (arith, under a)
      go (no a) (no l) = omega (arith, w.to, high h m (λ n e. (u.there n e).0))

-- what is left of a walk
pub gone_none : {m : ℕ} {es : List (List ℕ)} {k : ℕ} {s : Met} {marks order : List ℕ} {tail : ℕ}
    {h : Option ℕ} → Shown m marks order tail s → Hurt m es s k h → Gone m es k s marks order tail k h
gone_none v u = record { at = _; shown = v; hurt = u; rest = refl }

pub gone_next : {m : ℕ} {es : List (List ℕ)} {k : ℕ} {s : Met} {marks order : List ℕ}
    {tail j : ℕ} {h : Option ℕ} (v : Gone m es k s marks order tail j h) → 2 ≤ m → 2 ≤ j → j < tail
    → (marks' order' : List ℕ) (tail' : ℕ) (g : Option ℕ) (n : ℕ) → n ≡ get_or order j 0
    → ((x : Met) → Shown m marks order tail x → Shown m marks' order' tail' (visit_edges m es n x))
    → g ≡ pick (any_edge (bad_edge m) es n) (Some (lowest n h)) h
    → Gone m es k s marks' order' tail' (j + 1) g
gone_next {m} {es} {j = j} {h} v two lo hi marks' order' tail' g n e f q =
    let a = v.at in
    let b : j < a.tail = omega (arith, v.shown.end) in
    let p : n ≡ node_of a j = e ∙ v.shown.node j lo hi in
    let t = top v.shown.kept two in
    record {
      at = visit_edges m es (node_of a j) a;
      shown = rw p at (f a v.shown);
      hurt = hurt_next v.shown.kept v.hurt lo b g (rw p at q);
      rest = v.rest ∙ from_next m es j a b (omega (arith, t));
    }

pub gone_told : {m : ℕ} {es : List (List ℕ)} {k : ℕ} {s : Met} {marks order : List ℕ}
    {tail j : ℕ} {h : Option ℕ} → Gone m es k s marks order tail j h → tail ≤ j
    → Told m es marks tail h (visit_from m es (m - k) k s)
gone_told {m} {es} {j = j} {h} v all =
    let a = v.at in
    let hi : a.tail ≤ j = omega (arith, v.shown.end) in
    let q = v.rest ∙ sym (from_stop m es (m - j) j a hi) in
    rw q record {
      mark = v.shown.mark;
      end = v.shown.end;
      first = hurt_all m es a j h v.shown.kept v.hurt hi;
      inside = λ n e. (v.hurt.there n e).0;
    }

-- a longer queue with the same entries
pub shown_longer : {m : ℕ} {marks few : List ℕ} {tail : ℕ} {s : Met} (order : List ℕ)
    → ((k : ℕ) → k < tail → get_or order k 0 ≡ get_or few k 0) → Shown m marks few tail s
    → Shown m marks order tail s
shown_longer order e v = record {
  kept = v.kept;
  mark = v.mark;
  node = λ k a b. e k b ∙ v.node k a b;
  end = v.end;
}
