-- `until_stop_by_ones` meets its contract: the loop ends at the first colour that stops a look, or
-- behind the last.
use mathlib.Core.Path.{sym, ap, ◌∙◌}
use native.Mathlib.Omega.{arith}
use Rattle.skim.specs.Stops.{stops}
use Rattle.skim.proofs.Counts.{stops_none, stops_next}
use Rattle.skim.proofs.until_stop_by_ones.Goals as goal

pub loop-d-init : goal.loop-d-init
loop-d-init c = sym (stops_none _ _)

pub returns-then-stop-ne0 : goal.returns-then-stop-ne0
returns-then-stop-ne0 c = (omega arith, c.loop-d.invariant)

pub loop-d-preserved : goal.loop-d-preserved
loop-d-preserved c = rw stops_next (omega arith)

pub returns : goal.returns
returns c = (omega arith, c.loop-d.invariant ∙ ap (stops _ _) (omega arith))
