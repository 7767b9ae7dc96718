-- The marking on plain numbers.
use Rattle.std.specs.Prelude.{ℕ, ◌+◌, ◌-◌, ◌≤◌, ◌<◌, ◌≡◌, List, get_or}
use Rattle.rules.specs.declared.Record.{Record}
use Rattle.rules.specs.declared.Phase.TheVariants.{Scan}
use Rattle.rules.specs.Table.{state}
use Rattle.rules.specs.Records.{with_phase, with_steps, with_blackened}
use Rattle.skim.specs.Stops.{stops}
use Rattle.ahead.specs.Leads.{Passes, Leads, CanShade}
use Rattle.scanning.specs.declared.ScanAt.{ScanAt}

-- the record at s
unfoldable pub standing : Record → ScanAt → Record
standing x s =
    with_phase (with_blackened (with_steps x (x.steps + s.d)) s.blackened) (Scan s.i s.k)

-- what is known where the marking stands
pub record Valid (l k c : List ℕ) (x : Record) (cap : ℕ) (s : ScanAt) : Type 0 where
  pub passes : Passes (state l k c (standing x s))
  pub within : s.d ≤ cap
  pub few : stops c 0 x.m ≤ s.stops
  pub most : s.stops ≤ x.m + s.d
  pub grayed : s.grayed < x.m
  pub told : s.changed ≤ s.d

-- steps lead from s to r, which is known again
pub record ScanLeads (l k c : List ℕ) (x : Record) (cap : ℕ) (s : ScanAt) (c' : List ℕ)
    (r : ScanAt) : Type 0
  where
    pub low : s.d ≤ r.d
    pub counted : s.changed ≤ r.changed
    pub leads : Leads (state l k c (standing x s)) (r.d - s.d) (r.changed - s.changed)
        (state l k c' (standing x r))
    pub valid : Valid l k c' x cap r

-- node i is gray, and the six steps at it can be made
pub record CanVisit (l k c : List ℕ) (x : Record) (cap : ℕ) (s : ScanAt) : Type 0 where
  pub room : s.d + 6 ≤ cap
  pub blackened : s.blackened < x.m
  pub gray : get_or c s.i 0 ≡ 1
  pub left : CanShade x.m c (get_or l s.i 0)
  pub right : CanShade x.m c (get_or k s.i 0)
