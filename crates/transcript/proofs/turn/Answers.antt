-- `turn` meets its contract: no byte is the end of the input, and else the part that is lent is
-- what was read.
use Rattle.std.proofs.lemmas.List.{take_min}
use Rattle.base.proofs.Tests.{pick_yes, pick_no, eq_yes, eq_no}
use Rattle.session.specs.Feeding.{turn}
use Rattle.transcript.proofs.turn.Goals as goal

pub returns-then-n-eq0 : goal.returns-then-n-eq0
unfolding turn
returns-then-n-eq0 c =
    pick_yes _ _ _ _ (eq_yes _ _ c.if-n-eq0.true) c.finish.ensures

pub returns : goal.returns
unfolding turn
returns c =
    pick_no _ _ _ _ (eq_no _ _ c.if-n-eq0.false)
    (rw (c.min-end.ensures, take_min) at c.block.ensures)
