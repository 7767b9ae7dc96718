-- `until_stop_by_blocks` meets its contract: a block without a stop leaves the count over the
-- blocks at 0, and a block with one is read again up to its first. Where no block has one, the last
-- colours are read with some of those that are known: two runs that overlap, each without a stop,
-- are one.
use Prim.Native.Nat.{◌-◌}
use mathlib.Core.Path.{refl, sym}
use native.Mathlib.Omega.{arith}
use lib.ListN.{length}
use Rattle.skim.specs.Stops.{block}
use Rattle.skim.proofs.Counts.{stops_none, stops_less, stops_then, block_passed, block_then}
use Rattle.skim.proofs.until_stop_by_blocks.Goals as goal

pub loop-n-init : goal.loop-n-init
loop-n-init c = sym (stops_none _ _)

pub returns-then-stops_among-ne0 : goal.returns-then-stops_among-ne0
returns-then-stops_among-ne0 c =
    let made = c.as_chunks.ensures in
    block_then c.args.run.now c.as_chunks.result.0.now _ c.loop-n.n _ made.front made.front_len refl
    c.loop-n-test.true c.loop-n.invariant c.first_in_block.ensures.0 c.first_in_block.ensures.1

pub loop-n-preserved : goal.loop-n-preserved
loop-n-preserved c =
    let made = c.as_chunks.ensures in
    block_passed c.args.run.now c.as_chunks.result.0.now _ c.loop-n.n _ made.front made.front_len refl
    c.loop-n-test.true c.loop-n.invariant c.stops_among.ensures.1 c.if-stops_among-ne0.false

pub returns : goal.returns
returns c =
    let run = c.args.run.now in
    let known =
    stops_less run 0 _ (length run - block) (omega arith) c.loop-n.invariant in (
      omega (arith, c.first_in_block-2.ensures.0),
      stops_then run _ _ _ known (omega arith) c.first_in_block-2.ensures.1,
    )
