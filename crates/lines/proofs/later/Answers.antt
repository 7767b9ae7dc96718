-- What the line says decides, by the definition's cases, and each case is one call's contract.
use Rattle.lines.specs.Lines.{later}
use Rattle.lines.proofs.Firsts.{not_later}
use Rattle.lines.proofs.later.Goals as goal

pub returns-in-Do : goal.returns-in-Do
unfolding later
returns-in-Do c =
    rw (← c.read.ensures, c.in-Do.is, ← c.step.ensures.colour_value) (c.from.ensures _ _ _)

pub returns-in-Collect : goal.returns-in-Collect
unfolding later
returns-in-Collect c = rw (← c.read.ensures, c.in-Collect.is) c.collect.ensures

pub returns-in-First : goal.returns-in-First
returns-in-First c = rw (← c.read.ensures) (not_later _ _ c.in-First.is)
