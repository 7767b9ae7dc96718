-- The codes come in the definition's order; a target's there is none. Where all are 0, the record
-- is
-- good and the slot and the side are in range, which is all that `take_from` asks.
use mathlib.Core.Path.{refl, sym, ◌∙◌}
use native.Mathlib.Omega.{arith}
use Rattle.base.proofs.Tests.{zeros, first_skip}
use Rattle.rules.specs.Editor.{take}
use Rattle.rules.proofs.Changes.{told, told_none}
use Rattle.rules.proofs.Checked.{good}
use Rattle.rules.proofs.Laws.{unless_done, unless_refused, step_taking}
use Rattle.rules.proofs.Walks.{slot_below, side_below}
use Rattle.places.proofs.Arrivals.{no_target}
use Rattle.take.proofs.take_passed.Goals as goal

pub returns-then-code-ne0 : goal.returns-then-code-ne0
unfolding take
returns-then-code-ne0 c =
    let code = first_skip _ 0 _ _ c.requires refl
    (c.edit_code-code.ensures ∙ no_target _ _ _) in
    told_none _ _ _ _ _ (rw (step_taking, c.refusal.ensures)
    (unless_refused _ _ _ _ code c.if-code-ne0.true)) (rw c.refusal.ensures)

pub take_from-requires : goal.take_from-requires
take_from-requires c =
    let code = first_skip _ 0 _ _ c.requires refl (c.edit_code-code.ensures ∙ no_target _ _ _) in
    let z = zeros _ (sym c.if-code-ne0.false ∙ code) in
    let g = good _ _ _ _ z.0 in
    let p = slot_below _ _ _ z.1.1.0 in let d = side_below _ _ z.1.0 in omega arith

pub returns : goal.returns
unfolding take
returns c =
    let code = first_skip _ 0 _ _ c.requires refl
    (c.edit_code-code.ensures ∙ no_target _ _ _) in
    let done = c.take_from.ensures in
    told _ _ _ _ _ _ (rw step_taking (unless_done _ _ _ _ _ code
    c.if-code-ne0.false
    done.colour_value))
    done.changed_value
