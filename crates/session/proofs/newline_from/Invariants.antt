-- Each turn passes one byte that is no newline, so the search from the next position finds the
-- same.
use mathlib.Core.Path.{◌≡◌}
use lib.ListN.{drop}
use Rattle.session.specs.Feeding.{newline_from}
use Rattle.session.proofs.newline_from.Given as goal

abbrev pub invariant-loop-at : goal.invariant-loop-at
invariant-loop-at l =
    newline_from (drop l.i l.input) l.i ≡ newline_from (drop l.at l.input) l.at
