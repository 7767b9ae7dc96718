-- `first_shared` meets its contract: marked are the nodes that have a number in the definition's
-- numbering.
use mathlib.Core.Path.{ap, ◌∙◌}
use Rattle.load.specs.GoodEdges.{found}
use Rattle.load.proofs.Answers.{shared_same}
use Rattle.load.proofs.first_shared.Goals as goal

pub returns : goal.returns
returns g c =
    c.lowest_shared.ensures ∙ ap (found c.args.graph.m) (shared_same c.meet.ensures _)
