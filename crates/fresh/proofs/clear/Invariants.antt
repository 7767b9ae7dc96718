-- `clear` meets its contract: the edges from i up to n are 0, those from n on are as they were; at
-- i = 0 that is the contract.
use mathlib.Core.Path.{◌≡◌}
use mathlib.Core.List.{◌++◌}
use lib.ListN.{drop}
use Rattle.rules.specs.Fresh.{tabulate, no_edge}
use Rattle.fresh.proofs.clear.Given as goal

abbrev pub invariant-loop-i : goal.invariant-loop-i
invariant-loop-i l =
    tabulate no_edge l.i ++ drop l.i l.edges ≡ tabulate no_edge l.n ++ drop l.n l.initial.edges
