-- Chains of nodes: each visit makes one node gray, and that is the next one to be visited.
use Rattle.std.specs.Prelude.{ℕ, ◌+◌, ◌-◌, ◌*◌, ◌%◌, ◌≤◌, ◌<◌, ◌≡◌, List, get_or}
use Rattle.rules.specs.declared.Record.{Record}
use Rattle.ahead.specs.Leads.{CanShade}
use Rattle.scanning.specs.declared.ScanAt.{ScanAt}
use Rattle.scanning.specs.declared.Chain.{Chain}
use Rattle.scanning.specs.Marking.{ScanLeads}

-- the position on a chain that is followed from s
abbrev pub along : Record → ScanAt → Chain → ScanAt
along x s q = record {
  i = (q.last + 1) % x.m;
  k = x.m;
  blackened = q.blackened;
  d = q.d;
  stops = 1;
  grayed = q.gray;
  changed = s.changed + 2 * (q.blackened - s.blackened);
}

-- steps lead from s along a chain to q
pub record Follows (l k c : List ℕ) (x : Record) (cap : ℕ) (s : ScanAt) (c' : List ℕ) (q : Chain)
    : Type 0
  where
    pub leads : ScanLeads l k c x cap s c' (along x s q)
    pub gray : get_or c' q.gray 0 ≡ 1
    pub last : q.last < x.m
    pub low : s.blackened ≤ q.blackened

-- a chain can be followed from s: the node made gray last is the only one
pub record OneGray (c : List ℕ) (x : Record) (cap : ℕ) (s : ScanAt) : Type 0 where
  pub stops : s.stops ≡ 1
  pub k : s.k ≡ x.m
  pub room : s.d + (x.m + 5) ≤ cap
  pub gray : get_or c s.grayed 0 ≡ 1

-- a visit can shade e and f, and makes e gray and no other node
pub record CanFollow (m : ℕ) (c : List ℕ) (e f : ℕ) : Type 0 where
  pub left : CanShade m c e
  pub right : CanShade m c f
  pub white : get_or c e 0 ≡ 0
  pub other : get_or c f 0 ≡ 0 → ⊥
