-- A visit that makes one node gray, and the looks up to it.
use Prim.Native.Nat.{ℕ, zero, suc, ◌+◌, ◌-◌, ◌*◌, ◌%◌, ◌≤◌, ◌<◌}
use mathlib.Core.Path.{◌≡◌, refl, sym, ◌∙◌}
use mathlib.Core.Bool.{Bool, true, false}
use mathlib.Core.List.{List}
use lib.ListN.{length, get_or, set, length-set}
use lib.Seq.{get_or-set_same, get_or-set_other}
use lib.Dec.{ltb}
use borrow.Author.Tests.{ltb-true, ltb-false}
use native.Mathlib.Omega.{arith}
use native.Mathlib.Nat.{mod-eq_of_lt}
use Rattle.base.proofs.Tests.{pick_yes, pick_no, eq_yes, eq_no}
use Rattle.rules.specs.declared.Record.{Record}
use Rattle.rules.specs.Table.{shade_in}
use Rattle.rules.proofs.Changes.{one_grayed}
use Rattle.skim.proofs.NoStops.{round, nowhere, towards}
use Rattle.ahead.specs.Leads.{Room}
use Rattle.scanning.specs.declared.ScanAt.{ScanAt}
use Rattle.scanning.specs.declared.Chain.{Chain}
use Rattle.scanning.specs.Marking.{Valid, ScanLeads}
use Rattle.scanning.specs.Chains.{along, Follows, OneGray, CanFollow}
use Rattle.scanning.proofs.Marks.{at, goes_on, looks_on, visits, gray_stop, grayed_more}
use Rattle.scanning.proofs.Marks.{few_left}

-- the node after the one before i
pub placed : (m i n : ℕ) → i < m → (i ≡ 0 → n + 1 ≡ m) → (0 < i → n + 1 ≡ i) → (n + 1) % m ≡ i
placed m zero n h f g =
    let z = f refl in let y = round m (n + 1) (omega arith) (omega arith) in omega arith
placed m (suc i) n h f g = let z = g (omega arith) in rw z (mod-eq_of_lt h)

-- t is e nodes behind the one before i
record Reached (m i t e : ℕ) : Type 0 where
  pub inside : i < m
  pub low : 1 ≤ e
  pub high : e ≤ m
  pub on : i ≤ t → i + (e - 1) ≡ t
  pub over : t < i → i + (e - 1) ≡ t + m
  pub lands : t ≡ (i + (e - 1)) % m

reached : (m n t e : ℕ) → n < m → t < m → (n < t → n + e ≡ t) → (t ≤ n → n + e ≡ t + m)
    → Reached m ((n + 1) % m) t e
reached m n t e h k f g = go (ltb n t) refl (ltb (n + 1) m) refl
  where
    straight : n + 1 < m → 1 ≤ e → e ≤ m → (n + 1 ≤ t → n + e ≡ t) → (t ≤ n → n + e ≡ t + m)
        → t ≡ (n + 1 + (e - 1)) % m → Reached m ((n + 1) % m) t e
    straight v a b p q w =
        let z : (n + 1) % m ≡ n + 1 = mod-eq_of_lt v in
        rw z (record {
          inside = v;
          low = a;
          high = b;
          on = λ y. let x = p y in omega arith;
          over = λ y. let x = q (omega arith) in omega arith;
          lands = w;
        })

    go : (u : Bool) → ltb n t ≡ u → (v : Bool) → ltb (n + 1) m ≡ v → Reached m ((n + 1) % m) t e
    go true u true v =
        let u' = ltb-true n t u in
        let w = f u' in
        let y : n + 1 + (e - 1) ≡ t = omega arith in
        straight (ltb-true (n + 1) m v) (omega arith) (omega arith) (λ p. w)
        (λ p. absurd (omega arith)) (rw y (sym (mod-eq_of_lt k)))
    go true u false v =
        let u' = ltb-true n t u in let v' = ltb-false (n + 1) m v in absurd (omega arith)
    go false u true v =
        let u' = ltb-false n t u in
        let w = g u' in
        let y : n + 1 + (e - 1) ≡ t + m = omega arith in
        let x = round m (t + m) (omega arith) (omega arith) in
        straight (ltb-true (n + 1) m v) (omega arith) (omega arith) (λ p. absurd (omega arith))
        (λ p. w) (rw y (omega arith))
    go false u false v =
        let u' = ltb-false n t u in
        let v' = ltb-false (n + 1) m v in
        let w = g u' in
        let x = round m (n + 1) v' (omega arith) in
        let z : (n + 1) % m ≡ 0 = omega arith in
        let y : 0 + (e - 1) ≡ t = omega arith in
        rw z (record {
          inside = omega arith;
          low = omega arith;
          high = omega arith;
          on = λ p. y;
          over = λ p. absurd (omega arith);
          lands = rw y (sym (mod-eq_of_lt k));
        })

-- e is white and f is not
one_left : (c : List ℕ) (e f : ℕ) → get_or c e 0 ≡ 0 → (get_or c f 0 ≡ 0 → ⊥)
    → (shade_in c e ≡ set c e 1) × (shade_in (set c e 1) f ≡ set c e 1)
unfolding shade_in
one_left c e f h k = (
  sym (pick_yes _ _ _ _ (eq_yes _ _ h) refl),
  sym (pick_no _ _ _ _ (eq_no _ _ (λ z. k (sym (get_or-set_other c e f 1 0 differ) ∙ z))) refl),
)
  where
    differ : f ≡ e → ⊥
    differ q = k (rw q h)

-- a chain begins
pub begins_chain : (l k c : List ℕ) (x : Record) (cap : ℕ) (s : ScanAt) (q : Chain)
    → Valid l k c x cap s → Room x cap → OneGray c x cap s → (s.i ≡ 0 → q.last + 1 ≡ x.m)
    → (0 < s.i → q.last + 1 ≡ s.i) → q.gray ≡ s.grayed → q.d ≡ s.d
    → q.blackened ≡ s.blackened → Follows l k c x cap s c q
begins_chain l k c x cap s q p b o f g gray' d' blackened' =
    let a = at l k c x s p.passes in
    let y = placed x.m s.i q.last a.i f g in
    let z : s.i + 0 ≡ s.i = omega arith in
    let u : (s.i + 0) % x.m ≡ s.i = rw z (mod-eq_of_lt a.i) in
    record {
      leads =
          looks_on l k c x cap s (along x s q) 0 p b (nowhere _ _ _) a.low (omega (
            arith,
            p.within,
          ))
          (y ∙ sym u) (omega (arith, o.k)) blackened' (omega arith) (sym o.stops) gray'
          (omega arith);
      gray = rw gray' o.gray;
      last = go s.i a.i f g;
      low = omega arith;
    }
  where
    go : (i : ℕ) → i < x.m → (i ≡ 0 → q.last + 1 ≡ x.m) → (0 < i → q.last + 1 ≡ i)
        → q.last < x.m
    go zero h f g = let z = f refl in omega arith
    go (suc i) h f g = let z = g (omega arith) in omega arith

module _ (l k c : List ℕ) (x : Record) (cap : ℕ) (s : ScanAt) (c' : List ℕ) (q : Chain)
    (p : Follows l k c x cap s c' q) (b : Room x cap) (e : ℕ)
    (f : q.last < q.gray → q.last + e ≡ q.gray)
    (g : q.gray ≤ q.last → q.last + e ≡ q.gray + x.m) (room : q.d + (x.m + 5) ≤ cap) where
  -- the position at the gray node
  abbrev there : ScanAt
  there = record {
    i = q.gray;
    k = x.m - (e - 1);
    blackened = q.blackened;
    d = q.d + (e - 1);
    stops = 1;
    grayed = q.gray;
    changed = s.changed + 2 * (q.blackened - s.blackened);
  }

  up_to : ScanLeads l k c' x cap (along x s q) c' there
  up_to =
      let v = p.leads.valid in
      let a = at l k c' x (along x s q) v.passes in
      let r = reached x.m q.last q.gray e p.last v.grayed f g in
      let few = v.few in
      let h = r.high in
      let o = r.low in
      let n = a.sizes.colours in
      looks_on l k c' x cap (along x s q) there (e - 1) v b
      (towards c' x.m ((q.last + 1) % x.m) q.gray (e - 1) few (omega arith) r.inside
      v.grayed (gray_stop _ p.gray) r.on r.over) (omega arith) (omega arith) r.lands
      refl refl refl refl refl refl

  pub follows_on : (r : Chain) (c'' : List ℕ) → q.blackened < x.m
      → CanFollow x.m c' (get_or l q.gray 0) (get_or k q.gray 0)
      → c'' ≡ set (set c' (get_or l q.gray 0) 1) q.gray 2 → r.last ≡ q.gray
      → r.gray ≡ get_or l q.gray 0 → r.d ≡ q.d + 5 + e → r.blackened ≡ q.blackened + 1
      → Follows l k c x cap s c'' r
  follows_on r c'' more w colour' last' gray' d' blackened' =
      let t = q.gray in
      let e₁ = get_or l t 0 in
      let f₁ = get_or k t 0 in
      let v = up_to.valid in
      let a = at l k c' x there v.passes in
      let low = p.low in
      let o = reached x.m q.last t e p.last v.grayed f g in
      let o₁ = o.low in
      let o₂ = o.high in
      let n = a.sizes.colours in
      let below = w.left.below in
      let inside : e₁ < length c' = omega arith in
      let one = one_left c' e₁ f₁ w.white w.other in
      let both : shade_in (shade_in c' e₁) f₁ ≡ set c' e₁ 1 = rw (one.0, one.1) in
      let same = length-set c' e₁ 1 in
      let visit = visits l k c' x cap there v
      (record {
        room = omega arith;
        blackened = more;
        gray = p.gray;
        left = w.left;
        right = w.right;
      }) b (along x s r) c'' 1 (rw both colour') (rw (colour', length-set, length-set))
      (few_left c' (set c' e₁ 1) (set c' e₁ 1) c'' e₁ f₁ t 1 0 same same (omega arith) p.gray
      (sym one.0) (sym one.1) colour' (grayed_more c' e₁ inside) (omega arith))
      (omega arith) (rw last') refl blackened' (omega arith) (omega arith) (rw gray' below)
      (omega arith) (rw both (one_grayed c' e₁ inside w.white)) in
      record {
        leads =
            goes_on l k c x cap s c' (along x s q) c'' (along x s r) p.leads
            (goes_on l k c' x cap (along x s q) c' there c'' (along x s r) up_to visit);
        gray = next r c'' inside w.white colour' gray';
        last = rw last' v.grayed;
        low = omega arith;
      }
    where
      next : (r : Chain) (c'' : List ℕ) → get_or l q.gray 0 < length c'
          → get_or c' (get_or l q.gray 0) 0 ≡ 0
          → c'' ≡ set (set c' (get_or l q.gray 0) 1) q.gray 2 → r.gray ≡ get_or l q.gray 0
          → get_or c'' r.gray 0 ≡ 1
      next r c'' h z colour' gray' =
          rw (gray', colour')
          (get_or-set_other (set c' (get_or l q.gray 0) 1) q.gray (get_or l q.gray 0) 2 0
          (λ y. let u = rw y at z in let i = p.gray in absurd (omega arith))
          ∙ get_or-set_same c' (get_or l q.gray 0) 1 0 h)
