-- Where the place's code is 0 too, the slot is one and the record is good, so the walk can be made;
-- what it answers is what the definition takes apart.
use mathlib.Core.Path.{refl, sym, ◌∙◌}
use native.Mathlib.Omega.{arith}
use Rattle.base.proofs.Tests.{zeros, first_skip, first_last}
use Rattle.rules.specs.Editor.{look}
use Rattle.rules.proofs.Changes.{told_none}
use Rattle.rules.proofs.Checked.{good}
use Rattle.rules.proofs.Laws.{unless_done, unless_refused, step_looking}
use Rattle.rules.proofs.Walks.{slot_below}
use Rattle.places.proofs.Arrivals.{arrives, stops}
use Rattle.editor.proofs.look_passed.Goals as goal

pub returns-then-code-ne0 : goal.returns-then-code-ne0
unfolding look
returns-then-code-ne0 c =
    let code = first_skip _ 0 _ _ c.requires refl
    (first_last _ _ c.place_code-code.ensures) in
    told_none _ _ _ _ _ (rw (step_looking, c.refusal.ensures)
    (unless_refused _ _ _ _ code c.if-code-ne0.true)) (rw c.refusal.ensures)

pub walk-requires : goal.walk-requires
walk-requires c =
    let code = first_skip _ 0 _ _ c.requires refl
    (first_last _ _ c.place_code-code.ensures) in
    let z = zeros _ (sym c.if-code-ne0.false ∙ code) in
    let g = good _ _ _ _ z.0 in
    let k = slot_below _ _ _ z.1.0 in omega arith

pub returns-in-Ok : goal.returns-in-Ok
unfolding look
returns-in-Ok c =
    let code = first_skip _ 0 _ _ c.requires refl (first_last _ _ c.place_code-code.ensures) in
    told_none _ _ _ _ _ (rw step_looking (unless_done _ _ _ _ _ code
    c.if-code-ne0.false
    (arrives _ _ _ _ _ _ c.walk.ensures
    c.in-Ok.is refl))) refl

pub returns-in-Err : goal.returns-in-Err
unfolding look
returns-in-Err c =
    let code = first_skip _ 0 _ _ c.requires refl (first_last _ _ c.place_code-code.ensures) in
    told_none _ _ _ _ _ (rw (step_looking, c.refusal_with.ensures) (unless_done _ _ _ _ _
    code c.if-code-ne0.false
    (stops _ _ _ _ _ c.walk.ensures
    c.in-Err.is)))
    (rw c.refusal_with.ensures)
