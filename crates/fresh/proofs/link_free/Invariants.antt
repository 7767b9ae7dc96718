-- `link_free` meets its contract: from `node` on the edges are the definition's. The last free node
-- leads to 0, and each one below to the node above it, the one written before. At the end `node` is
-- R + 2, FREE's edge; where nothing is free that is 0, and all edges are there.
use Prim.Native.Nat.{◌+◌, ◌≤◌}
use mathlib.Core.Path.{◌≡◌}
use mathlib.Core.List.{◌++◌}
use lib.ListN.{length, drop}
use Rattle.rules.specs.Fresh.{tabulate, fresh_left}
use Rattle.fresh.proofs.link_free.Given as goal

abbrev pub invariant-loop-node : goal.invariant-loop-node
invariant-loop-node l =
    (l.r + 2 ≤ l.node) × (l.node + 1 ≤ l.m) × (length l.left ≡ l.m) ×
    (tabulate (fresh_left l.m l.r) l.node ++ drop l.node l.left ≡ tabulate (fresh_left l.m l.r) l.m)

abbrev pub decreases-loop-node : goal.decreases-loop-node
decreases-loop-node l = l.node
