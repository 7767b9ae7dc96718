-- `load` meets its contract: it is what Load answers.
use Rattle.lines.specs.Lines.{loaded}
use Rattle.lines.proofs.load.Goals as goal

pub returns : goal.returns
unfolding loaded
returns c =
    let e = rw (c.from-m.ensures, c.from-r.ensures) at c.load.ensures.colour_value in
    rw (← e) (c.from.ensures _ _ _)
