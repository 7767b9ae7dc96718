-- `all_stops` meets its contract: a block's count is added to that of the blocks before it, and at
-- the end that of the few colours which are left.
use mathlib.Core.Path.{refl, sym, ◌∙◌}
use native.Mathlib.Omega.{arith}
use Rattle.skim.proofs.Counts.{stops_none, counted_more, counted_all}
use Rattle.skim.proofs.all_stops.Goals as goal

pub loop-n-init : goal.loop-n-init
loop-n-init c = (omega arith, sym (stops_none _ _))

pub loop-n-preserved : goal.loop-n-preserved
loop-n-preserved c =
    let made = c.as_chunks.ensures in
    counted_more c.args.colour.now c.as_chunks.result.0.now _ c.loop-n.n _ _
    made.front made.front_len refl c.loop-n-test.true c.loop-n.invariant.0
    c.loop-n.invariant.1 (c.from-found.ensures ∙ c.stops_among.ensures.1)

pub returns : goal.returns
returns c =
    let made = c.as_chunks.ensures in
    counted_all c.args.colour.now c.as_chunks.result.1.now c.loop-n.n _ _ _
    made.back made.back_len refl (omega arith) (omega arith) c.loop-n.invariant.1
    (c.from.ensures ∙ c.stops_among-2.ensures.1)
