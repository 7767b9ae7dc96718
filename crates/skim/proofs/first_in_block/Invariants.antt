-- `first_in_block` meets its contract: before each turn the colours before `first`, as far as they
-- were read, stop no look. `stop_at` is j where the next one stops a look, and `min` keeps the
-- smaller of the two.
use Prim.Native.Nat.{◌≤◌}
use Rattle.skim.specs.Stops.{Upto, block}
use Rattle.skim.proofs.first_in_block.Given as goal

abbrev pub invariant-loop-j : goal.invariant-loop-j
invariant-loop-j l =
    (l.first ≤ block) × Upto l.colours 0 l.j l.first
