-- `whitening` meets its contract: before each turn the steps that were made lead from the start to
-- i. A black node is made white, which is one step more; any other ends the loop.
use mathlib.Core.Path.{◌≡◌}
use lib.ListN.{length}
use Rattle.in_order.specs.Sweeping.{Whitens}
use Rattle.in_order.proofs.Sweeps.{up_to}
use Rattle.in_order.proofs.whitening.Given as goal

abbrev pub invariant-loop-i : goal.invariant-loop-i
invariant-loop-i l =
    (length l.colour ≡ length l.initial.colour) ×
    Whitens l.initial.colour l.end l.from l.colour (up_to l.from l.i)
