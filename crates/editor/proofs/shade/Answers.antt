-- Codes 1 and 2 come first, as in the definition; where neither is given, the rest is one call.
use mathlib.Core.Path.{sym, ◌∙◌}
use Rattle.rules.specs.Editor.{shade_owed}
use Rattle.rules.proofs.Changes.{told_none}
use Rattle.rules.proofs.Laws.{unless_refused, step_shading}
use Rattle.editor.proofs.shade.Goals as goal

pub returns-then-code-ne0 : goal.returns-then-code-ne0
unfolding shade_owed
returns-then-code-ne0 c =
    let code = c.check-code.ensures in
    told_none _ _ _ _ _ (rw (step_shading, c.refusal.ensures)
    (unless_refused _ _ _ _ code c.if-code-ne0.true)) (rw c.refusal.ensures)

pub shade_passed-requires : goal.shade_passed-requires
shade_passed-requires c = sym c.if-code-ne0.false ∙ c.check-code.ensures

pub returns : goal.returns
returns c = c.shade_passed.ensures
