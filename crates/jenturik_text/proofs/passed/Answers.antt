-- The two tests stand in the definition's order.
use mathlib.Core.Path.{refl, sym, ◌∙◌}
use native.Mathlib.Omega.{arith}
use Rattle.base.proofs.Tests.{pick_yes, pick_no, eq_yes, eq_no}
use Rattle.jenturik_text.specs.Turning.{judged}
use Rattle.jenturik_text.proofs.passed.Goals as goal

pub returns-then-not-is_session-clause-err : goal.returns-then-not-is_session-clause-err
unfolding judged
returns-then-not-is_session-clause-err c = (
  pick_no _ _ _ _ (sym c.if-not-is_session.true ∙ c.is_session.ensures) refl,
  λ z. omega (arith, z),
)

pub returns-then-n-ne-LINE-clause-err : goal.returns-then-n-ne-LINE-clause-err
unfolding judged
returns-then-n-ne-LINE-clause-err c = (
  pick_yes _ _ _ _ (sym c.if-not-is_session.false ∙ c.is_session.ensures)
      (pick_no _ _ _ _ (eq_no _ _ c.if-n-ne-LINE.true) refl),
  λ z. omega (arith, z),
)

pub returns-clause-ok : goal.returns-clause-ok
unfolding judged
returns-clause-ok c = (
  c.session_of.ensures,
  pick_yes _ _ _ _ (sym c.if-not-is_session.false ∙ c.is_session.ensures)
      (pick_yes _ _ _ _ (eq_yes _ _ c.if-n-ne-LINE.false) refl),
)
