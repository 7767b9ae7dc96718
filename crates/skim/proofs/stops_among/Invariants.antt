-- `stops_among` meets its contract: before each turn `found` is the count over the first j colours,
-- and so at most j, which a byte holds.
use Prim.Native.Nat.{◌≤◌}
use mathlib.Core.Path.{◌≡◌}
use Rattle.skim.specs.Stops.{stops}
use Rattle.skim.proofs.stops_among.Given as goal

abbrev pub invariant-loop-j : goal.invariant-loop-j
invariant-loop-j l = (l.found ≤ l.j) × (l.found ≡ stops l.colours 0 l.j)
