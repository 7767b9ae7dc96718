-- What codes 1 and 2 being 0 tells, as plain facts: what the inner functions rely on. No promise
-- rests on this file.
use Rattle.std.specs.Prelude.{ℕ, zero, suc, ◌+◌, ◌≤◌, ◌<◌, ◌≡◌, ◌≢◌, true, false, eqb, Some, None}
use Rattle.rules.specs.Table.{most_nodes, most_slots}
use Rattle.base.specs.Choice.{pick}
use Rattle.rules.specs.Phases.{scan_tag, append_tag, tag_of, position, second, has_second}
use Rattle.rules.specs.declared.Record.{Record}
use Rattle.rules.specs.declared.Phase.{Phase}
use Rattle.rules.specs.Records.{Owed}

-- a number above any count of steps: B is smaller, whatever M and R are
abbrev pub many_steps : ℕ
many_steps = 20000000

-- a position inside its phase, by the phase's number: 0 is Roots
abbrev pub Inside : ℕ → ℕ → ℕ → ℕ → Type 0
Inside m r zero i = i ≤ r + 1
Inside m r (suc tag) i = i < m

-- what else a second number is: 1 is Scan; the last two are a number read
abbrev pub Limited : ℕ → ℕ → ℕ → Type 0
Limited m zero k = Unit {0}
Limited m (suc zero) k = 1 ≤ k
Limited m (suc (suc tag)) k = (has_second (suc (suc tag)) ≡ true) → (k ≢ 1) × (k < m)

-- a phase whose numbers are in their ranges
abbrev pub InRange : ℕ → ℕ → Phase → Type 0
InRange m r p =
    Inside m r (tag_of p) (position p) × (second p ≤ m) × Limited m (tag_of p) (second p)

-- so many steps, at least, come before the first of Append; m is M
unfoldable pub quiet : ℕ → Phase → ℕ
quiet m p = pick (eqb (tag_of p) scan_tag) (second p) (pick (eqb (tag_of p) append_tag) 0 m)

-- a step leads from q, which is not Append, to p: Append is nearer by one step at most
abbrev pub Nears : ℕ → Phase → Phase → Type 0
Nears m q p = (eqb (tag_of q) append_tag ≡ false) × (quiet m q ≤ suc (quiet m p))

-- nothing, or a node of the table
abbrev pub Owable : ℕ → Owed → Type 0
Owable m None = Unit {0}
Owable m (Some n) = n < m

-- what earlier cycles told, b being B
pub record Tells (x : Record) (b : ℕ) : Type 0 where
  pub last_blackened : x.lastblackened ≤ x.m
  pub took : x.took ≤ b

pub record Checked (ll rl cl : ℕ) (x : Record) : Type 0 where
  pub m_low : 3 ≤ x.m
  pub m_high : x.m ≤ most_nodes
  pub r_low : 1 ≤ x.r
  pub r_high : x.r ≤ most_slots
  pub room : x.r + 2 ≤ x.m
  pub lefts : ll ≡ x.m
  pub rights : rl ≡ x.m
  pub colours : cl ≡ x.m
  pub last_low : 1 ≤ x.last
  pub last_high : x.last < x.m
  pub free : x.free ≤ x.m
  pub blackened : x.blackened ≤ x.m
  pub steps : x.steps < many_steps
