-- Steps of Roots and of Append put together.
use Prim.Native.Nat.{ℕ, ◌+◌, ◌-◌, ◌≤◌, ◌<◌}
use mathlib.Core.Path.{◌≡◌, refl}
use mathlib.Core.List.{List}
use lib.ListN.{length, get_or, set}
use native.Mathlib.Omega.{arith}
use Rattle.base.proofs.Tests.{each, facts}
use Rattle.rules.specs.declared.Record.{Record}
use Rattle.rules.specs.declared.Phase.TheVariants.{Roots, Append}
use Rattle.rules.specs.Table.{state, shade_in, most_nodes}
use Rattle.rules.specs.Facts.{many_steps}
use Rattle.rules.specs.Phases.{position}
use Rattle.rules.specs.Check.{free_ok, bound}
use Rattle.rules.specs.Changes.{differing}
use Rattle.rules.proofs.Changes.{shaded_most}
use Rattle.rules.proofs.Checked.{good, inside}
use Rattle.ahead.specs.Leads.{Passes, Room, Leads}
use Rattle.ahead.proofs.Strides.{Sized, sized, stay, then, fewer, free_fits}
use Rattle.ahead.proofs.Sweeps as strides
use Rattle.in_order.specs.declared.AppendAt.{AppendAt}
use Rattle.in_order.specs.Sweeping.{rooted, Shades, swept, CanAppend, AppendLeads}
use Rattle.in_order.specs.Sweeping.{Whitens}

rooted_none : (x : Record) (i : ℕ) → x.phase ≡ Roots i → rooted x i 0 ≡ x
unfolding rooted
rooted_none x i h =
    let a : i + 0 ≡ i = omega arith in let s : x.steps + 0 ≡ x.steps = omega arith in
    rw (a, s, ← h)

pub shades_none : (c : List ℕ) (i cap : ℕ) → Shades c i cap 0 0 c
shades_none c i cap =
    record { leads = λ l k x p h b n. rw (rooted_none x i h) (stay _ 0 0 refl refl p) }

pub shades_more : (c c' c'' : List ℕ) (i cap d v e : ℕ) → Shades c i cap d v c' → d < cap
    → get_or c' (i + d) 0 ≤ 2 → c'' ≡ shade_in c' (i + d) → e ≡ differing c' c''
    → Shades c i cap (d + 1) (v + e) c''
unfolding rooted
shades_more c c' c'' i cap d v e w q u f g =
    record {
      leads = λ l k x p h b n.
          let t = w.leads l k x p h b n in
          let z = b.steps in
          let a : i + d + 1 ≡ i + (d + 1) = omega arith in
          let s : x.steps + d + 1 ≡ x.steps + (d + 1) = omega arith in
          rw f (then _ _ _ d 1 _ v e _ refl refl t (rw (a, s) at
          (strides.roots l k c' (rooted x i d) (i + d) t.passes (omega arith) e refl
          (omega arith) u (rw f at g))));
    }

-- a shading changes no more colours than it makes steps
pub shades_few : (v d e : ℕ) (c c'' : List ℕ) (n : ℕ) → v ≤ d → c'' ≡ shade_in c n
    → e ≡ differing c c'' → v + e ≤ d + 1
shades_few v d e c c'' n h f g = let z = shaded_most c n in let y = rw f at g in omega arith

-- what a record that passes tells at Roots i
pub record AtRoots (ll rl cl : ℕ) (x : Record) (i : ℕ) : Type 0 where
  pub root : i ≤ x.r + 1
  pub room : x.r + 2 ≤ x.m
  pub sizes : Sized x.m ll rl cl

pub at_roots : (l k c : List ℕ) (x : Record) (i : ℕ) → Passes (state l k c x) → x.phase ≡ Roots i
    → AtRoots (length l) (length k) (length c) x i
at_roots l k c x i p h =
    let g = good _ _ _ x p.code in
    let f = rw h at (inside _ _ x p.code) in
    record { root = f.0; room = g.room; sizes = sized l k c x p }

-- what a record that passes tells at Append i
pub record AtAppend (x : Record) (i : ℕ) : Type 0 where
  pub below : i < x.m
  pub free : x.free ≤ x.m
  pub high : x.m ≤ most_nodes

pub at_append : (l k c : List ℕ) (x : Record) (i : ℕ) → Passes (state l k c x)
    → x.phase ≡ Append i → AtAppend x i
at_append l k c x i p h =
    let g = good _ _ _ x p.code in
    let f = rw h at (inside _ _ x p.code) in
    record { below = f.0; free = g.free; high = g.m_high }

-- what a position whose record passes tells
pub record At (ll rl cl : ℕ) (x : Record) (s : AppendAt) : Type 0 where
  pub i : s.i < x.m
  pub last : s.last < x.m
  pub free : s.free + (x.r + 2) ≤ x.m
  pub steps : x.steps + (s.i - position x.phase) < many_steps
  pub sizes : Sized x.m ll rl cl

pub at : (l k c : List ℕ) (x : Record) (s : AppendAt) → Passes (state l k c (swept x s))
    → At (length l) (length k) (length c) x s
unfolding swept free_ok
at l k c x s p =
    let g = good _ _ _ (swept x s) p.code in
    let h = inside _ _ (swept x s) p.code in
    let f = each _ (free_fits p) in
    record {
      i = h.0;
      last = g.last_high;
      free = omega (facts, g.room);
      steps = g.steps;
      sizes = sized l k c (swept x s) p;
    }

-- the position i, where no more nodes are free than at s
abbrev pub up_to : AppendAt → ℕ → AppendAt
up_to s i = record { i = i; last = s.last; free = s.free }

-- the position that stands for x
abbrev pub begun : Record → ℕ → AppendAt
begun x i = record { i = i; last = x.last; free = x.free }

start : (x : Record) (i : ℕ) → x.phase ≡ Append i → swept x (begun x i) ≡ x
unfolding swept
start x i h =
    let s : x.steps + (i - position (Append i)) ≡ x.steps = omega arith in rw (h, s, ← h)

pub begins : (l k c : List ℕ) (x : Record) (i cap end : ℕ) → x.phase ≡ Append i
    → Passes (state l k c x) → Room x cap → i ≤ end → end - i ≤ cap → end < x.m
    → CanAppend l k c x end (begun x i)
begins l k c x i cap end h p b a e q =
    let z : position x.phase ≡ i = rw h in
    record {
      passes = rw (start x i h) p;
      begun = omega arith;
      low = a;
      high = q;
      room = fewer _ _ _ (omega arith) b;
    }

pub ends : (l k c : List ℕ) (x : Record) (i : ℕ) (l' k' c' : List ℕ) (r : AppendAt)
    → x.phase ≡ Append i → AppendLeads l k c x (begun x i) l' k' c' r
    → Leads (state l k c x) (r.i - i) (r.i + x.free - (i + r.free))
    (state l' k' c' (swept x r))
ends l k c x i l' k' c' r h w = rw (start x i h) at w.leads

-- steps and the steps after them
pub goes_on : (l k c : List ℕ) (x : Record) (s : AppendAt) (l' k' c' : List ℕ) (t : AppendAt)
    (l'' k'' c'' : List ℕ) (r : AppendAt) → AppendLeads l k c x s l' k' c' t
    → AppendLeads l' k' c' x t l'' k'' c'' r → AppendLeads l k c x s l'' k'' c'' r
goes_on l k c x s l' k' c' t l'' k'' c'' r p q =
    let a = p.low in
    let b = q.low in
    let f = p.few in
    let g = q.few in
    record {
      low = omega arith;
      few = omega arith;
      leads = then _ _ _ _ _ _ _ _ _ (omega arith) (omega arith) p.leads q.leads;
    }

-- and where they lead, more may be made
pub can : (l k c : List ℕ) (x : Record) (s : AppendAt) (end : ℕ) (l' k' c' : List ℕ) (r : AppendAt)
    → CanAppend l k c x end s → r.i ≤ end → AppendLeads l k c x s l' k' c' r
    → CanAppend l' k' c' x end r
can l k c x s end l' k' c' r p h q =
    let a = q.low in
    let b = p.begun in
    record {
      passes = q.leads.passes;
      begun = omega arith;
      low = h;
      high = p.high;
      room = p.room;
    }

-- the same up to an earlier end
pub nearer : (l k c : List ℕ) (x : Record) (s : AppendAt) (end e : ℕ)
    → CanAppend l k c x end s → s.i ≤ e → e ≤ end → CanAppend l k c x e s
nearer l k c x s end e p h q =
    let a = p.high in
    record {
      passes = p.passes;
      begun = p.begun;
      low = h;
      high = omega arith;
      room = fewer _ _ _ (omega arith) p.room;
    }

-- no step
pub stays : (l k c : List ℕ) (x : Record) (s : AppendAt) → Passes (state l k c (swept x s))
    → AppendLeads l k c x s l k c s
stays l k c x s p =
    record {
      low = omega arith;
      few = omega arith;
      leads = stay _ _ _ (omega arith) (omega arith) p;
    }

module _ (l k c : List ℕ) (x : Record) (end : ℕ) (s : AppendAt) (p : CanAppend l k c x end s)
    (r : AppendAt) (q : s.i < end) (i : r.i ≡ s.i + 1) where
  -- one step more
  counts : x.steps + (s.i + 1 - position x.phase) ≡ x.steps + (s.i - position x.phase) + 1
  counts = let a = p.begun in omega arith

  below : x.steps + (s.i - position x.phase) + 1 < bound 2 x.m x.r
  below = let z = p.room.steps in let a = p.begun in omega arith

  inner : s.i + 1 < x.m
  inner = let y = p.high in omega arith

  pub whitens : r.last ≡ s.last → r.free ≡ s.free → get_or c s.i 0 ≡ 2
      → AppendLeads l k c x s l k (set c s.i 0) r
  unfolding swept
  whitens e u v =
      let n : s.i + 1 - s.i ≡ 1 = omega arith in
      let o : s.i + 1 + s.free - (s.i + s.free) ≡ 1 = omega arith in
      record {
        low = omega arith;
        few = omega arith;
        leads = rw (i, e, u, n, o, counts) (strides.whitens l k c (swept x s) s.i p.passes
            below refl inner v);
      }

  pub appends : r.last ≡ s.i → r.free ≡ s.free + 1 → get_or c s.i 0 ≡ 0 → x.r + 1 < s.i
      → (s.i ≡ s.last → ⊥) → s.free + (x.r + 2) < x.m
      → AppendLeads l k c x s (set (set l s.i 0) s.last s.i) (set k s.i 0) c r
  unfolding swept
  appends e u v f g h =
      let n : s.i + 1 - s.i ≡ 1 = omega arith in
      let o : s.i + 1 + s.free - (s.i + (s.free + 1)) ≡ 0 = omega arith in
      record {
        low = omega arith;
        few = omega arith;
        leads = rw (i, e, u, n, o, counts) (strides.appends l k c (swept x s) s.i p.passes
            below refl inner v f g (omega arith));
      }

pub whitens_none : (c : List ℕ) (end : ℕ) (s : AppendAt) → Whitens c end s c s
whitens_none c end s = record { leads = λ l k x p. stays l k c x s p.passes }

pub whitens_more : (c c' : List ℕ) (end : ℕ) (s t r : AppendAt) → Whitens c end s c' t
    → t.i < end → r.i ≡ t.i + 1 → r.last ≡ t.last → r.free ≡ t.free
    → get_or c' t.i 0 ≡ 2 → Whitens c end s (set c' t.i 0) r
whitens_more c c' end s t r w q i e u v =
    record {
      leads = λ l k x p.
          let a = w.leads l k x p in
          let b = can l k c x s end l k c' t p (omega arith) a in
          goes_on _ _ _ _ _ _ _ _ _ _ _ _ _ a (whitens l k c' x end t b r q i e u v);
    }
