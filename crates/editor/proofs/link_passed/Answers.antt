-- The codes come in the definition's order. Where all are 0, the record is good and the slots and
-- the
-- side are in range, which is all that `link_from` asks.
use mathlib.Core.Path.{refl, sym, ◌∙◌}
use native.Mathlib.Omega.{arith}
use Rattle.base.proofs.Tests.{zeros, first_skip}
use Rattle.rules.specs.Editor.{link}
use Rattle.rules.proofs.Changes.{told_none}
use Rattle.rules.proofs.Checked.{good}
use Rattle.rules.proofs.Laws.{unless_done, unless_refused, step_linking}
use Rattle.rules.proofs.Walks.{slot_below, side_below}
use Rattle.places.specs.Sources.{edit_code}
use Rattle.editor.proofs.link_passed.Goals as goal

pub returns-then-code-ne0 : goal.returns-then-code-ne0
unfolding link edit_code
returns-then-code-ne0 c =
    let code = first_skip _ 0 _ _ c.requires
    refl (rw c.place_code-target.ensures at
    c.edit_code-code.ensures) in
    told_none _ _ _ _ _ (rw (step_linking, c.refusal.ensures)
    (unless_refused _ _ _ _ code c.if-code-ne0.true)) (rw c.refusal.ensures)

pub link_from-requires : goal.link_from-requires
unfolding edit_code
link_from-requires c =
    let code = first_skip _ 0 _ _ c.requires refl (rw c.place_code-target.ensures at
    c.edit_code-code.ensures) in
    let z = zeros _ (sym c.if-code-ne0.false ∙ code) in
    let g = good _ _ _ _ z.0 in let p = slot_below _ _ _ z.1.1.0 in
    let q = slot_below _ _ _ z.1.1.1.0 in let d = side_below _ _ z.1.0 in omega arith

pub returns : goal.returns
unfolding link edit_code
returns c =
    let code = first_skip _ 0 _ _ c.requires refl (rw
    c.place_code-target.ensures
    at c.edit_code-code.ensures) in
    let done = c.link_from.ensures in
    told_none _ _ _ _ _ (rw step_linking (unless_done _ _ _ _ _ code
    c.if-code-ne0.false
    (done.by_index _))) done.changed_value
