-- A dash is no turns, a first byte that is no letter is nothing, and else the letters are read: the
-- definition's three cases.
use mathlib.Core.Path.{refl, ap}
use Rattle.std.specs.Prelude.{Some}
use Rattle.base.proofs.Tests.{pick_yes, pick_no, eq_yes, eq_no}
use Rattle.text.specs.Grammar.{turns_at}
use Rattle.text.proofs.Lines.{no_bytes}
use Rattle.text.proofs.turns_at.Goals as goal

pub returns-in_err-b : goal.returns-in_err-b
unfolding turns_at
returns-in_err-b c = rw (c.from_residual.ensures, no_bytes _ c.in_err-b.ensures.cases)

pub returns-then-b-eq45 : goal.returns-then-b-eq45
unfolding turns_at
returns-then-b-eq45 c =
    rw c.in_ok-b.ensures.cases.0 (pick_yes _ _ _ _ (eq_yes _ _ c.if-b-eq45.true) refl)

pub returns-in_err-side_at : goal.returns-in_err-side_at
unfolding turns_at
returns-in_err-side_at c =
    let s = rw c.in_ok-b.ensures.cases.0 at c.in_err-side_at.ensures in
    rw (c.from_residual-in_err-side_at.ensures, c.in_ok-b.ensures.cases.0)
    (pick_no _ _ _ _ (eq_no _ _ c.if-b-eq45.false) (rw (← s)))

pub returns : goal.returns
unfolding turns_at
returns c =
    let s = rw c.in_ok-b.ensures.cases.0 at c.in_ok-side_at.ensures in
    let l = rw c.in_ok-b.ensures.cases.0 at c.letters_at.ensures in
    rw c.in_ok-b.ensures.cases.0
    (pick_no _ _ _ _ (eq_no _ _ c.if-b-eq45.false) (rw (← s) (ap Some l)))
