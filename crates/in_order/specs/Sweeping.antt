-- Roots and Append on plain numbers.
use Rattle.std.specs.Prelude.{ℕ, ◌+◌, ◌-◌, ◌≤◌, ◌<◌, ◌≡◌, List}
use Rattle.rules.specs.Table.{state}
use Rattle.rules.specs.Phases.{position}
use Rattle.rules.specs.Records.{with_phase, with_last, with_steps, with_free}
use Rattle.rules.specs.declared.Record.{Record}
use Rattle.rules.specs.declared.Phase.TheVariants.{Roots, Append}
use Rattle.ahead.specs.Leads.{Passes, Room, Leads}
use Rattle.in_order.specs.declared.AppendAt.{AppendAt}

-- the record d steps after x, which is at Roots i
unfoldable pub rooted : Record → ℕ → ℕ → Record
rooted x i d = with_phase (with_steps x (x.steps + d)) (Roots (i + d))

-- d steps from Roots i on, where at most cap may be made, turn the colours c into c' and change v
-- of them
pub record Shades (c : List ℕ) (i cap d v : ℕ) (c' : List ℕ) : Type 0 where
  pub leads :
      (l k : List ℕ) (x : Record) → Passes (state l k c x) → x.phase ≡ Roots i → Room x cap
      → i + cap ≤ x.r + 1
      → Leads (state l k c x) d v (state l k c' (rooted x i d))

-- the record at s, where x is at the Append from which the steps are counted
unfoldable pub swept : Record → AppendAt → Record
swept x s =
    let counted = with_free (with_steps x (x.steps + (s.i - position x.phase))) s.free in
    with_phase (with_last counted s.last) (Append s.i)

-- from s on, steps of Append up to end stay before the last node and below B
pub record CanAppend (l k c : List ℕ) (x : Record) (end : ℕ) (s : AppendAt) : Type 0 where
  pub passes : Passes (state l k c (swept x s))
  pub begun : position x.phase ≤ s.i
  pub low : s.i ≤ end
  pub high : end < x.m
  pub room : Room x (end - position x.phase)

-- steps lead from s to r: each moves i by one, and appends a node or changes a colour
pub record AppendLeads (l k c : List ℕ) (x : Record) (s : AppendAt) (l' k' c' : List ℕ)
    (r : AppendAt) : Type 0
  where
    pub low : s.i ≤ r.i
    pub few : s.i + r.free ≤ r.i + s.free
    pub leads : Leads (state l k c (swept x s)) (r.i - s.i)
        (r.i + s.free - (s.i + r.free)) (state l' k' c' (swept x r))

-- with any edges and record, whitening nodes from s on turns the colours c into c' and leads to r,
-- if steps up to end may be made
pub record Whitens (c : List ℕ) (end : ℕ) (s : AppendAt) (c' : List ℕ) (r : AppendAt) : Type 0
  where
    pub leads : (l k : List ℕ) (x : Record) → CanAppend l k c x end s
        → AppendLeads l k c x s l k c' r
