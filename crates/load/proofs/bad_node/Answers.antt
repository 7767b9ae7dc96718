-- `bad_node` meets its contract: the left edge is judged, then the right one.
use mathlib.Core.Path.{sym, ◌∙◌}
use Rattle.base.proofs.Tests.{or_first, or_skip}
use Rattle.rules.specs.Meet.{any_edge}
use Rattle.load.proofs.Laws.{or_last}
use Rattle.load.proofs.bad_node.Goals as goal

pub returns-then-bad_given : goal.returns-then-bad_given
unfolding any_edge
returns-then-bad_given c =
    let bad = c.if-bad_given.true in
    bad ∙ or_first _ _ (sym bad ∙ c.bad_given.ensures)

pub returns-else-bad_given : goal.returns-else-bad_given
unfolding any_edge
returns-else-bad_given c =
    or_skip _ _ _ (sym c.if-bad_given.false
    ∙ c.bad_given.ensures) (or_last _ _ c.bad_given-else-bad_given.ensures)
