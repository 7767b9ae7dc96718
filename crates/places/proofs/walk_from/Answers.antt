-- A turn keeps the invariant by the law of one turn, and an edge that is not bad leads to a node
-- of the table. After the last turn nothing is left of the walk.
use mathlib.Core.Path.{refl, sym, ◌∙◌}
use native.Mathlib.Omega.{arith}
use borrow.Author.Rules.{rules}
use Rattle.base.proofs.Tests.{tests, pick_yes, pick_no, eq_no}
use Rattle.rules.proofs.Laws.{fine_edge}
use Rattle.rules.proofs.Walks.{turn, arrived}
use Rattle.places.proofs.walk_from.Goals as goal

pub returns-then-n-eq0 : goal.returns-then-n-eq0
returns-then-n-eq0 c =
    rw (c.loop.invariant.1, turn _ _ _ _ _ _ _ c.loop-test.true) (search (tests, rules) depth 12)

pub returns-then-bad_edge : goal.returns-then-bad_edge
returns-then-bad_edge c =
    rw (c.loop.invariant.1, turn _ _ _ _ _ _ _ c.loop-test.true, ← c.edge-e.ensures)
    (pick_no _ _ _ _ (eq_no _ _ c.if-n-eq0.false)
    (pick_yes _ _ _ _ (sym c.if-bad_edge.true ∙ c.bad_edge.ensures) refl))

pub loop-preserved : goal.loop-preserved
loop-preserved c = (
  fine_edge _ _ (sym c.if-bad_edge.false ∙ c.bad_edge.ensures),
  c.loop.invariant.1
      ∙ sym
      (rw (turn _ _ _ _ _ _ _ c.loop-test.true, ← c.edge-e.ensures)
      (pick_no _ _ _ _ (eq_no _ _ c.if-n-eq0.false)
      (pick_no _ _ _ _ (sym c.if-bad_edge.false ∙ c.bad_edge.ensures) refl))),
)

pub returns : goal.returns
returns c = rw c.loop.invariant.1 (arrived _ _ _ _ _ _ (omega (arith, c.loop-test.false)))
