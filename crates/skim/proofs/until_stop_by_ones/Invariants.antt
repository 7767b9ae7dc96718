-- `until_stop_by_ones` meets its contract: before each turn none of the first d colours stops a
-- look.
use mathlib.Core.Path.{◌≡◌}
use Rattle.skim.specs.Stops.{stops}
use Rattle.skim.proofs.until_stop_by_ones.Given as goal

abbrev pub invariant-loop-d : goal.invariant-loop-d
invariant-loop-d l = 0 ≡ stops l.run 0 l.d
