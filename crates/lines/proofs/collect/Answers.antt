-- A count of 0 is the empty schedule, which judges codes 1 and 2; any other count is what
-- `collect_some` promises.
use Rattle.lines.proofs.Collects.{nothing}
use Rattle.lines.proofs.collect.Goals as goal

pub returns : goal.returns
returns c =
    nothing _ _ _ c.if-n-gt0.false c.collect_many-none.ensures
