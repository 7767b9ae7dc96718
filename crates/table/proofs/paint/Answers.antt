-- One write changes one entry, if another number stood there.
use native.Mathlib.Omega.{arith}
use mathlib.Core.Path.{◌∙◌}
use Rattle.table.proofs.Painted.{painted}
use Rattle.table.proofs.paint.Goals as goal

pub returns-clause-value : goal.returns-clause-value
returns-clause-value c =
    c.from-changed.ensures
    ∙ painted _ _ _ (omega (arith, c.from-at.ensures, c.requires))
