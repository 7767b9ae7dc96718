-- The tests for a digit and for a leading zero are the definition's, around the digits that were
-- read.
use mathlib.Core.Path.{refl, ap}
use Rattle.std.specs.Prelude.{Some}
use Rattle.base.proofs.Tests.{pick_yes, pick_no, eq_yes, eq_no}
use Rattle.text.specs.Grammar.{number_at}
use Rattle.text.proofs.Lines.{no_bytes, a_digit, no_digit}
use Rattle.text.proofs.number_at.Goals as goal

pub returns-in_err-b : goal.returns-in_err-b
unfolding number_at
returns-in_err-b c = rw (c.from_residual.ensures, no_bytes _ c.in_err-b.ensures.cases)

pub returns-then-not-is_ascii_digit : goal.returns-then-not-is_ascii_digit
unfolding number_at
returns-then-not-is_ascii_digit c =
    let d = no_digit _ _ c.is_ascii_digit.ensures.value c.if-not-is_ascii_digit.true in
    rw c.in_ok-b.ensures.cases.0 (pick_no _ _ _ _ d refl)

pub returns-then-b-eq48 : goal.returns-then-b-eq48
unfolding number_at
returns-then-b-eq48 c =
    let d = a_digit _ _ c.is_ascii_digit.ensures.value c.if-not-is_ascii_digit.false in
    rw c.in_ok-b.ensures.cases.0
    (pick_yes _ _ _ _ d (pick_yes _ _ _ _ (eq_yes _ _ c.if-b-eq48.true) refl))

pub returns : goal.returns
unfolding number_at
returns c =
    let n = rw c.in_ok-b.ensures.cases.0 at c.digits_at.ensures in
    let d = a_digit _ _ c.is_ascii_digit.ensures.value c.if-not-is_ascii_digit.false in
    rw c.in_ok-b.ensures.cases.0
    (pick_yes _ _ _ _ d (pick_no _ _ _ _ (eq_no _ _ c.if-b-eq48.false) (ap Some n)))
