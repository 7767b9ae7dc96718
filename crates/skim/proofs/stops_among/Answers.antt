-- `stops_among` meets its contract: `stop` adds 1 or 0, as the definition does for one colour more.
use mathlib.Core.Path.{sym, ap, ◌∙◌}
use native.Mathlib.Omega.{arith}
use Rattle.skim.specs.Stops.{stops}
use Rattle.skim.proofs.Counts.{stops_none, stops_next}
use Rattle.skim.proofs.stops_among.Goals as goal

pub loop-j-init : goal.loop-j-init
loop-j-init c = (omega arith, sym (stops_none _ _))

pub loop-j-preserved : goal.loop-j-preserved
loop-j-preserved c = (omega arith, rw stops_next (omega arith))

pub returns : goal.returns
returns c = (omega arith, c.loop-j.invariant.1 ∙ ap (stops _ _) (omega arith))
