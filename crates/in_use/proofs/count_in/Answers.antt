-- `count_in` meets its contract: the first hurt node decides, and what is beyond the slots' numbers
-- is counted; there are at least these, so nothing wraps.
use native.Mathlib.Omega.{arith}
use Rattle.in_use.proofs.Laws.{tail_fits, hurt_has, met_hurt, met_whole}
use Rattle.in_use.proofs.count_in.Goals as goal

pub overflow_cast-result : goal.overflow_cast-result
overflow_cast-result g c =
    let r = c.args.graph.r in
    omega (arith, tail_fits r c.meet-met.ensures (omega arith) (omega arith))

pub overflow_sub-result : goal.overflow_sub-result
overflow_sub-result g c =
    let r = c.args.graph.r in
    omega (arith, tail_fits r c.meet-met.ensures (omega arith) (omega arith))

pub returns-in-Some : goal.returns-in-Some
returns-in-Some g c =
    let w = c.meet-met.ensures in
    let r = c.args.graph.r in
    let n = c.in-Some.n in
    rw c.refused_with.ensures (met_hurt r w n c.in-Some.is _
    (c.hurt_side.ensures _ (hurt_has r w n c.in-Some.is)))

pub returns-in-None : goal.returns-in-None
returns-in-None g c = met_whole c.args.graph.r c.meet-met.ensures c.in-None.is
