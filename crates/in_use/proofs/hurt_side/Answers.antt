-- `hurt_side` meets its contract: the left edge is judged; where it is good, the bad one is the
-- right one.
use mathlib.Core.Path.{sym, ◌∙◌}
use Rattle.reach.proofs.Lowests.{first_left, first_right}
use Rattle.in_use.proofs.hurt_side.Goals as goal

pub returns-then-bad_edge : goal.returns-then-bad_edge
returns-then-bad_edge c = λ right h.
    first_left _ _ right _ (rw c.from.ensures at (sym c.if-bad_edge.true ∙ c.bad_edge.ensures))

pub returns-else-bad_edge : goal.returns-else-bad_edge
returns-else-bad_edge c = λ right h.
    first_right _ _ right _ (rw c.from.ensures at (sym c.if-bad_edge.false ∙ c.bad_edge.ensures)) h
