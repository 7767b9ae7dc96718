-- `quiet` meets its contract: in Scan the nodes to come are counted, in Append none are, and in any
-- other phase all are to come.
use Rattle.freed.proofs.Colours.{quiet_scan, quiet_append, quiet_other}
use Rattle.freed.proofs.quiet.Goals as goal

pub returns-in-Scan : goal.returns-in-Scan
returns-in-Scan c = rw c.in-Scan.is (quiet_scan _ _ _)

pub returns-in-Append : goal.returns-in-Append
returns-in-Append c = rw c.in-Append.is (quiet_append _ _)

pub returns-in_default : goal.returns-in_default
returns-in_default c = quiet_other _ _ c.in_default.not-Scan c.in_default.not-Append
