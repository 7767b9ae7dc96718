-- Codes 1 and 2 come first, as in the definition; where neither is given, the rest is one call.
use mathlib.Core.Path.{refl, sym, ◌∙◌}
use Rattle.base.proofs.Tests.{first_here}
use Rattle.rules.specs.Editor.{take}
use Rattle.rules.proofs.Changes.{told_none}
use Rattle.rules.proofs.Laws.{unless_refused, step_taking}
use Rattle.take.proofs.take.Goals as goal

pub returns-then-code-ne0 : goal.returns-then-code-ne0
unfolding take
returns-then-code-ne0 c =
    let code = first_here _ _ _ _ c.check-code.ensures
    c.if-code-ne0.true refl in
    told_none _ _ _ _ _ (rw (step_taking, c.refusal.ensures)
    (unless_refused _ _ _ _ code c.if-code-ne0.true)) (rw c.refusal.ensures)

pub take_passed-requires : goal.take_passed-requires
take_passed-requires c = sym c.if-code-ne0.false ∙ c.check-code.ensures

pub returns : goal.returns
returns c = c.take_passed.ensures
