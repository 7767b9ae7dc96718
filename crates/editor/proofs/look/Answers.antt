-- Codes 1 and 2 come first, as in the definition; where neither is given, the rest is one call.
use mathlib.Core.Path.{refl, sym, ◌∙◌}
use Rattle.base.proofs.Tests.{first_here}
use Rattle.rules.specs.Editor.{look}
use Rattle.rules.proofs.Changes.{told_none}
use Rattle.rules.proofs.Laws.{unless_refused, step_looking}
use Rattle.editor.proofs.look.Goals as goal

pub returns-then-code-ne0 : goal.returns-then-code-ne0
unfolding look
returns-then-code-ne0 c =
    let code = first_here _ _ _ _ c.check-code.ensures
    c.if-code-ne0.true refl in
    told_none _ _ _ _ _ (rw (step_looking, c.refusal.ensures)
    (unless_refused _ _ _ _ code c.if-code-ne0.true)) (rw c.refusal.ensures)

pub look_passed-requires : goal.look_passed-requires
look_passed-requires c = sym c.if-code-ne0.false ∙ c.check-code.ensures

pub returns : goal.returns
returns c = c.look_passed.ensures
