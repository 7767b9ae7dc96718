-- `after` meets its contract: the answer's code decides, in the definition as in the code.
use Rattle.base.proofs.Tests.{pick_yes, pick_no, code_yes, code_no}
use Rattle.schedule.specs.Stands.{after}
use Rattle.schedule.proofs.after.Goals as goal

pub returns-else-code-eq0 : goal.returns-else-code-eq0
unfolding after
returns-else-code-eq0 c = let e =
    c.code-code.ensures in
    pick_no _ _ _ _ (code_no _ _ _ e c.if-code-eq0.false) cc

pub returns-then-code-eq0 : goal.returns-then-code-eq0
unfolding after
returns-then-code-eq0 c =
    let more = c.from.ensures in
    pick_yes _ _ _ _ (code_yes _ _ _ c.code-code.ensures c.if-code-eq0.true) cc
