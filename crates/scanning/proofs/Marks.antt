-- Looks and visits put together.
use Prim.Native.Nat.{ℕ, ◌+◌, ◌-◌, ◌%◌, ◌≤◌, ◌<◌}
use mathlib.Core.Path.{◌≡◌, refl}
use mathlib.Core.List.{List}
use lib.ListN.{length, get_or, set, length-set}
use native.Mathlib.Omega.{arith}
use borrow.Author.Tests.{eqb-true}
use Rattle.base.specs.Choice.{pick}
use Rattle.base.proofs.Tests.{split}
use Rattle.rules.specs.declared.Record.{Record}
use Rattle.rules.specs.declared.Phase.TheVariants.{Scan}
use Rattle.rules.specs.Table.{State, state, shade_in}
use Rattle.rules.specs.Facts.{many_steps}
use Rattle.rules.specs.Changes.{differing}
use Rattle.rules.proofs.Changes.{one_grayed, shaded_most, two_shaded}
use Rattle.rules.proofs.Checked.{good, inside}
use Rattle.skim.specs.Stops.{stop, stops, NoStop}
use Rattle.skim.proofs.Counts.{changed, counts}
use Rattle.ahead.specs.Leads.{Passes, Room, Leads}
use Rattle.ahead.proofs.Strides.{Sized, sized, on}
use Rattle.ahead.proofs.Looks.{looks}
use Rattle.ahead.proofs.Visits as strides
use Rattle.ahead.proofs.Visits.{gray_kept}
use Rattle.scanning.specs.declared.ScanAt.{ScanAt}
use Rattle.scanning.specs.Marking.{standing, Valid, ScanLeads, CanVisit}

-- what a position whose record passes tells
pub record At (ll rl cl : ℕ) (x : Record) (s : ScanAt) : Type 0 where
  pub i : s.i < x.m
  pub low : 1 ≤ s.k
  pub high : s.k ≤ x.m
  pub blackened : s.blackened ≤ x.m
  pub steps : x.steps + s.d < many_steps
  pub sizes : Sized x.m ll rl cl

pub at : (l k c : List ℕ) (x : Record) (s : ScanAt) → Passes (state l k c (standing x s))
    → At (length l) (length k) (length c) x s
unfolding standing
at l k c x s p =
    let g = good _ _ _ (standing x s) p.code in
    let h = inside _ _ (standing x s) p.code in
    record {
      i =
          h.0;
      low = h.2;
      high = h.1;
      blackened = g.blackened;
      steps = g.steps;
      sizes = sized l k c (standing x s) p;
    }

pub goes_on : (l k c : List ℕ) (x : Record) (cap : ℕ) (s : ScanAt) (c' : List ℕ) (t : ScanAt)
    (c'' : List ℕ) (r : ScanAt) → ScanLeads l k c x cap s c' t
    → ScanLeads l k c' x cap t c'' r → ScanLeads l k c x cap s c'' r
goes_on l k c x cap s c' t c'' r p q =
    let a = p.low in
    let b = q.low in
    let v = p.counted in
    let w = q.counted in
    record {
      low = omega arith;
      counted = omega arith;
      leads = on _ _ _ _ _ _ _ _ _ a b v w p.leads q.leads;
      valid = q.valid;
    }

-- e looks
pub looks_on : (l k c : List ℕ) (x : Record) (cap : ℕ) (s r : ScanAt) (e : ℕ) → Valid l k c x cap s
    → Room x cap → NoStop c x.m s.i e → e < s.k
    → s.d + e ≤ cap → r.i ≡ (s.i + e) % x.m → r.k ≡ s.k - e
    → r.blackened ≡ s.blackened → r.d ≡ s.d + e → r.stops ≡ s.stops → r.grayed ≡ s.grayed
    → r.changed ≡ s.changed → ScanLeads l k c x cap s c r
unfolding standing
looks_on l k c x cap s r e p b m h q i' k' blackened' d' stops' grayed' changed' =
    let z = b.steps in
    let n : r.d - s.d ≡ e = omega arith in
    let v : r.changed - s.changed ≡ 0 = omega arith in
    let w : x.steps + (s.d + e) ≡ x.steps + s.d + e = omega arith in
    let a : Leads (state l k c (standing x s)) (r.d - s.d) (r.changed - s.changed)
    (state l k c (standing x r)) = rw
    (n, v, i', k', blackened', d', w) (looks l k c (standing x s) s.i s.k p.passes refl e h
    (omega arith) m) in
    record {
      low = omega arith;
      counted = omega arith;
      leads = a;
      valid = record {
        passes =
            a.passes;
        within = omega arith;
        few = rw stops' p.few;
        most = omega (arith, p.most);
        grayed = rw grayed' p.grayed;
        told = omega (arith, p.told);
      };
    }

pub gray_stop : (v : ℕ) → v ≡ 1 → 1 ≤ stop v
unfolding stop pick
gray_stop v h = rw h (omega arith)

-- a node that is made gray counts
pub grayed_more : (c : List ℕ) (n : ℕ) → n < length c
    → stops (set c n 1) 0 (length (set c n 1)) ≤ stops c 0 (length c) + 1
unfolding stop pick
grayed_more c n h = let w = changed c n 1 (length c) h (omega arith) in rw length-set (omega arith)

-- shading a node adds as many stops, at most, as it changes colours
pub shaded_more : (c : List ℕ) (n : ℕ) → n < length c
    → stops (shade_in c n) 0 (length (shade_in c n)) ≤ stops c 0 (length c)
    + differing c (shade_in c n)
unfolding shade_in
shaded_more c n h =
    split (λ (d : List ℕ). stops d 0 (length d) ≤ stops c 0 (length c) + differing c d)
    _ _ _
    (λ q.
    let e = eqb-true _ _ q in
    let a = one_grayed c n h e in
    let b = grayed_more c n h in
    omega arith)
    (λ q. omega arith)

pub few_shaded : (c d : List ℕ) (n v : ℕ) → n < length c → d ≡ shade_in c n → v ≡ differing c d
    → (v ≤ 1) × (stops d 0 (length d) ≤ stops c 0 (length c) + v)
few_shaded c d n v h p w = rw (w, p) (shaded_most c n, shaded_more c n h)

-- two nodes are shaded one after the other
pub both_counted : (c c₁ c₂ : List ℕ) (e f a b : ℕ) → e < length c → f < length c
    → c₁ ≡ shade_in c e → c₂ ≡ shade_in c₁ f → a ≡ differing c c₁ → b ≡ differing c₁ c₂
    → a + b ≡ differing c (shade_in (shade_in c e) f)
both_counted c c₁ c₂ e f a b h k p q v w = rw (v, w, q, p) (two_shaded c e f h k)

-- the six steps at a gray node leave one colour fewer that stops a look, but for those that they
-- make gray
pub few_left : (c c₁ c₂ c₃ : List ℕ) (e f i a b : ℕ) → length c₁ ≡ length c → length c₂ ≡ length c
    → i < length c → get_or c i 0 ≡ 1 → c₁ ≡ shade_in c e
    → c₂ ≡ shade_in c₁ f → c₃ ≡ set c₂ i 2 → stops c₁ 0 (length c₁) ≤ stops c 0 (length c) + a
    → stops c₂ 0 (length c₂) ≤ stops c₁ 0 (length c₁) + b
    → stops c₃ 0 (length c₃) + 1 ≤ stops c 0 (length c) + (a + b)
unfolding stop pick
few_left c c₁ c₂ c₃ e f i a b n₁ n₂ h g p q t u v =
    let g₁ : get_or c₁ i 0 ≡ 1 = rw p (gray_kept c e i g) in
    let g₂ : get_or c₂ i 0 ≡ 1 = rw q (gray_kept c₁ f i g₁) in
    let w = rw g₂ at (changed c₂ i 2 (length c₂) (omega arith) (omega arith)) in
    rw (t, length-set) (omega arith)

module _ (l k c : List ℕ) (x : Record) (cap : ℕ) (s : ScanAt) (p : Valid l k c x cap s)
    (w : CanVisit l k c x cap s) where
  -- a gray node counts
  pub one : 1 ≤ s.stops
  unfolding stop pick
  one =
      let g = at l k c x s p.passes in
      let z : 0 + s.i ≡ s.i = omega arith in
      let h = rw (z, w.gray) at (counts c 0 x.m s.i g.i) in
      omega (arith, p.few)

  pub visits : (b : Room x cap) (r : ScanAt) (c' : List ℕ) (n : ℕ) → c'
      ≡ set (shade_in (shade_in c (get_or l s.i 0)) (get_or k s.i 0)) s.i 2
      → length c' ≡ length c → stops c' 0 (length c') + 1 ≤ stops c 0 (length c) + n → n ≤ 2 → r.i
      ≡ (s.i + 1) % x.m → r.k ≡ x.m
      → r.blackened ≡ s.blackened + 1 → r.d ≡ s.d + 6 → r.stops ≡ s.stops + n - 1
      → r.grayed < x.m → r.changed ≡ s.changed + n + 1
      → n ≡ differing c (shade_in (shade_in c (get_or l s.i 0)) (get_or k s.i 0))
      → ScanLeads l k c x cap s c' r
  unfolding standing
  visits b r c' n e len f q i' k' blackened' d' stops' grayed' changed' count =
      let g = at l k c x s p.passes in
      let z = b.steps in
      let y = w.room in
      let t : r.d - s.d ≡ 6 = omega arith in
      let u : r.changed - s.changed ≡ n + 1 = omega arith in
      let o : x.steps + (s.d + 6) ≡ x.steps + s.d + 6 = omega arith in
      let v = rw (len, g.sizes.colours) at f in
      let a : Leads (state l k c (standing x s)) (r.d - s.d) (r.changed - s.changed)
      (state l k c' (standing x r)) =
      rw (t, u, count, i', k', blackened', d', o, e)
      (strides.visits l k c (standing x s) s.i s.k p.passes refl w.gray w.left
      w.right (omega arith) w.blackened) in
      record {
        low = omega arith;
        counted = omega arith;
        leads = a;
        valid = record {
          passes =
              a.passes;
          within = omega arith;
          few = omega (arith, p.few);
          most = omega
              (arith, p.most);
          grayed = grayed';
          told = omega (arith, p.told);
        };
      }

-- the position that stands for x
module _ (x : Record) (i k n : ℕ) (h : x.phase ≡ Scan i k) where
  abbrev first : ScanAt
  first =
      record { i = i; k = k; blackened = x.blackened; d = 0; stops = n; grayed = 0; changed = 0 }

  start : standing x first ≡ x
  unfolding standing
  start = let s : x.steps + 0 ≡ x.steps = omega arith in rw (s, ← h)

  pub begins : (l r c : List ℕ) (cap : ℕ) → Passes (state l r c x) → stops c 0 (length c) ≤ n
      → n ≤ length c → Valid l r c x cap first
  begins l r c cap p f m =
      let g = sized l r c x p in
      record {
        passes =
            rw start p;
        within = omega arith;
        few = rw g.colours at f;
        most = omega arith;
        grayed =
            omega arith;
        told = omega arith;
      }

  pub ends : (l r c : List ℕ) (t : State) (d v : ℕ)
      → Leads (state l r c (standing x first)) (d - 0) (v - 0) t → Leads (state l r c x) d v t
  ends l r c t d v w =
      let z : d - 0 ≡ d = omega arith in let y : v - 0 ≡ v = omega arith in rw (z, y, start) at w
