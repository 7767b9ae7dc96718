-- `append_each` meets its contract: before each turn the steps that were made lead from the start
-- to s. `append_one` adds one step or none; the loop ends where it adds none, so the measure, what
-- is left up to end, falls. Each step appends at most one node, so one more may be free before end.
use borrow.Author.Rules.{rules}
use native.Mathlib.Omega.{arith}
use Rattle.in_order.proofs.Sweeps.{goes_on, can}
use Rattle.in_order.proofs.append_each.Goals as goal

pub returns-in-loop-s : goal.returns-in-loop-s
returns-in-loop-s c =
    let inv = c.loop-s.invariant in
    (inv.3.low, goes_on _ _ _ _ _ _ _ _ _ _ _ _ _ inv.4 (search rules))

pub loop-s-preserved : goal.loop-s-preserved
loop-s-preserved c =
    let inv = c.loop-s.invariant in
    let next = c.in-Some.ensures.0 in
    let step = c.in-Some.ensures.1 in (
      omega arith,
      omega arith,
      omega arith,
      can _ _ _ _ _ _ _ _ _ _ inv.3 (omega arith) step,
      goes_on _ _ _ _ _ _ _ _ _ _ _ _ _ inv.4 step,
    )
