-- Each turn passes one byte that is no newline, so the search from the next position finds the
-- same.
use mathlib.Core.Path.{◌≡◌, refl, sym, ◌∙◌}
use native.Mathlib.Omega.{arith}
use lib.ListN.{length}
use Rattle.base.proofs.Tests.{pick_yes, pick_no, eq_yes, eq_no}
use Rattle.session.proofs.Feeds.{newline_turn, newline_none}
use Rattle.session.proofs.newline_from.Goals as goal

pub loop-at-init : goal.loop-at-init
loop-at-init c = refl

pub returns-then-input-at-eq-NEWLINE : goal.returns-then-input-at-eq-NEWLINE
returns-then-input-at-eq-NEWLINE c =
    rw (
      c.loop-at.invariant,
      newline_turn _ _
          c.loop-at-test.true,
    ) (pick_yes _ _ _ _ (eq_yes _ _ c.if-input-at-eq-NEWLINE.true) refl)

pub loop-at-preserved : goal.loop-at-preserved
loop-at-preserved c =
    c.loop-at.invariant
    ∙ sym (rw (newline_turn _ _ c.loop-at-test.true)
    (pick_no _ _ _ _ (eq_no _ _ c.if-input-at-eq-NEWLINE.false) refl))

pub returns-then-i-input : goal.returns-then-i-input
returns-then-i-input c = newline_none _ _ c.if-i-input.true

pub returns : goal.returns
returns c =
    let e : length c.args.input.now ≡ c.loop-at.at = omega arith in
    e ∙ newline_none _ _ c.loop-at-test.false ∙ sym c.loop-at.invariant
