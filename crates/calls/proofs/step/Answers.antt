-- A code refuses any step. Else `step_passed` makes it.
use Rattle.rules.proofs.Changes.{told_none}
use Rattle.calls.proofs.Named.{none_passes}
use Rattle.calls.proofs.step.Goals as goal

pub returns-then-code-ne0 : goal.returns-then-code-ne0
returns-then-code-ne0 c =
    told_none _ _ _ _ _ (rw c.refusal.ensures
    (none_passes _ _ _ c.check-code.ensures c.if-code-ne0.true))
    (rw c.refusal.ensures)

pub returns : goal.returns
returns c = let done = c.step_passed.ensures in
    record { colour_value = done.colour_value; changed_value = done.changed_value }
