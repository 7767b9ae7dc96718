-- `start` meets its contract: Fresh makes the table in the parts that are lent, and what lies
-- behind them is as it was.
use Rattle.lines.proofs.start.Goals as goal

pub returns : goal.returns
returns c = rw (← c.fresh.ensures.colour_value) (c.from.ensures _ _ _)
