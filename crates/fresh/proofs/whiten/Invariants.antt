-- `whiten` meets its contract: the colours from n on are white, and at n = 0 these are all.
use mathlib.Core.Path.{◌≡◌}
use mathlib.Core.List.{◌++◌}
use lib.ListN.{length, drop}
use Rattle.rules.specs.Fresh.{tabulate, all_white}
use Rattle.fresh.proofs.whiten.Given as goal

abbrev pub invariant-loop-n : goal.invariant-loop-n
invariant-loop-n l =
    tabulate all_white l.n ++ drop l.n l.colour ≡ tabulate all_white (length l.initial.colour)
