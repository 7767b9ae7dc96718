-- `until_stop_by_blocks` meets its contract: before each turn none of the first n blocks has a
-- colour that stops a look.
use Prim.Native.Nat.{◌*◌}
use mathlib.Core.Path.{◌≡◌}
use Rattle.skim.specs.Stops.{stops, block}
use Rattle.skim.proofs.until_stop_by_blocks.Given as goal

abbrev pub invariant-loop-n : goal.invariant-loop-n
invariant-loop-n l = 0 ≡ stops l.run 0 (l.n * block)
