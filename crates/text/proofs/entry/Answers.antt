-- The line is short enough, of the form, and of the node: the definition's tests, in its order.
use mathlib.Core.Path.{refl}
use Rattle.base.proofs.Tests.{pick_yes, pick_no, lt_yes, lt_no, eq_yes, eq_no}
use Rattle.text.specs.Grammar.{entry}
use Rattle.text.proofs.entry.Goals as goal

pub returns-then-line-gt-LONGEST : goal.returns-then-line-gt-LONGEST
unfolding entry
returns-then-line-gt-LONGEST c =
    pick_yes _ _ _ _ (lt_yes _ _ c.if-line-gt-LONGEST.true) refl

pub returns-in_err-row : goal.returns-in_err-row
unfolding entry
returns-in_err-row c =
    rw (c.from_residual.ensures, ← c.entry_line.ensures, ← c.whole.ensures, c.in_err-row.was)
    (pick_no _ _ _ _ (lt_no _ _ c.if-line-gt-LONGEST.false) refl)

pub returns-then-row-n : goal.returns-then-row-n
unfolding entry
returns-then-row-n c =
    rw (← c.entry_line.ensures, ← c.whole.ensures, c.in_ok-row.was)
    (pick_no _ _ _ _ (lt_no _ _ c.if-line-gt-LONGEST.false)
    (pick_yes _ _ _ _ (eq_yes _ _ c.if-row-n.true) refl))

pub returns-else-row-n : goal.returns-else-row-n
unfolding entry
returns-else-row-n c =
    rw (← c.entry_line.ensures, ← c.whole.ensures, c.in_ok-row.was)
    (pick_no _ _ _ _ (lt_no _ _ c.if-line-gt-LONGEST.false)
    (pick_no _ _ _ _ (eq_no _ _ c.if-row-n.false) refl))
