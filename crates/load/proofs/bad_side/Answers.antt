-- `bad_side` meets its contract: the left edge is judged; where it is good, the bad one is the
-- right one.
use mathlib.Core.Path.{sym, ◌∙◌}
use Rattle.reach.proofs.Lowests.{first_left, first_right}
use Rattle.load.proofs.bad_side.Goals as goal

pub returns-then-bad_given : goal.returns-then-bad_given
returns-then-bad_given c = λ rights h.
    first_left _ _ rights _ (sym c.if-bad_given.true ∙ c.bad_given.ensures)

pub returns-else-bad_given : goal.returns-else-bad_given
returns-else-bad_given c = λ rights h.
    first_right _ _ rights _ (sym c.if-bad_given.false ∙ c.bad_given.ensures) h
