-- All steps but the last, then the last, are the schedule of all; where the first part is refused,
-- nothing follows, as in the definition.
use native.Mathlib.Omega.{arith}
use Rattle.lines.proofs.Collects.{most, stopped, last}
use Rattle.lines.proofs.collect_some.Goals as goal

pub returns-then-most-ne0 : goal.returns-then-most-ne0
returns-then-most-ne0 c =
    stopped _ _ _ c.requires _ _ c.collect_many-most.ensures
    c.position-i.ensures c.if-most-ne0.true
    c.start_of.ensures

pub overflow_add-most : goal.overflow_add-most
overflow_add-most c =
    let a =
    most _ _ _ c.collect_many-most.ensures in
    let b = most _ _ _ c.collect_many-last.ensures in
    omega (arith, c.requires)

pub returns : goal.returns
returns c =
    last _ _ _ c.requires _ _ c.collect_many-most.ensures
    c.position-i.ensures _ c.collect_many-last.ensures
    c.if-most-ne0.false c.start_of-2.ensures
