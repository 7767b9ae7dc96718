-- `first` meets its contract: `opened` goes by what the line says, as the code does.
use mathlib.Core.Path.{◌∙◌}
use Rattle.lines.proofs.Firsts.{not_first}
use Rattle.lines.proofs.first.Goals as goal

pub returns-in-Do : goal.returns-in-Do
returns-in-Do c =
    rw (← c.read.ensures) (c.refused.ensures _ _ _ ∙ not_first _ _ _ _ c.in-Do.is)
