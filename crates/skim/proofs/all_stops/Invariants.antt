-- `all_stops` meets its contract: before each turn `found` is the count over the blocks that were
-- read.
use Prim.Native.Nat.{◌≤◌, ◌*◌}
use mathlib.Core.Path.{◌≡◌}
use Rattle.skim.specs.Stops.{stops, block}
use Rattle.skim.proofs.all_stops.Given as goal

abbrev pub invariant-loop-n : goal.invariant-loop-n
invariant-loop-n l =
    (l.found ≤ l.n * block) × (l.found ≡ stops l.colour 0 (l.n * block))
