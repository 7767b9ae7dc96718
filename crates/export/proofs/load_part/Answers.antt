-- `load_part` meets its contract: the parts that are lent are the table and the lists, and what
-- lies behind the table stays.
use native.Mathlib.Omega.{arith}
use Rattle.session.proofs.Parts.{lent}
use Rattle.export.proofs.Filled.{replaced}
use Rattle.export.proofs.load_part.Goals as goal

pub returns : goal.returns
returns c =
    replaced _ _ _ _ _ _ _ _ _ _ _ _ _ _ _ _ _ _ _
    (lent _ _ _ _ c.min-a.ensures (omega arith))
    (lent _ _ _ _ c.min-b.ensures (omega arith))
    (lent _ _ _ _ c.min-c.ensures (omega arith)) c.min-d.ensures
    c.min-e.ensures c.load.ensures
