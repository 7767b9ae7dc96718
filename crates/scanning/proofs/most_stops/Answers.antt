-- `most_stops` meets its contract: of n colours at most n stop a look, whether they are counted or
-- not.
use native.Mathlib.Omega.{arith}
use Rattle.skim.proofs.Counts.{stops_most}
use Rattle.scanning.proofs.most_stops.Goals as goal

pub returns-then-cap-colour : goal.returns-then-cap-colour
returns-then-cap-colour c = (stops_most _ _ _, omega arith)

pub returns-else-cap-colour : goal.returns-else-cap-colour
returns-else-cap-colour c = let m = stops_most _ 0 _ in (omega arith, rw c.all_stops.ensures m)
