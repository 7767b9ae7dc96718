-- `appending` meets its contract: before each turn the steps that were made lead from the start to
-- s. `whitening` and `append_some` add steps or none; the loop ends where they add none, so the
-- measure, what is left up to end, falls.
use native.Mathlib.Omega.{arith}
use Rattle.in_order.proofs.Sweeps.{at, goes_on, can}
use Rattle.in_order.proofs.appending.Goals as goal

pub whitening-whitened-requires : goal.whitening-whitened-requires
whitening-whitened-requires c =
    let inv = c.loop-s.invariant in
    let g = at _ _ _ _ _ inv.3.passes in
    let a = inv.3.low in
    let b = inv.3.high in record { i_le_end = omega arith; end_in_bounds = omega arith }

pub returns-then-t-s : goal.returns-then-t-s
returns-then-t-s c =
    let inv = c.loop-s.invariant in (
      c.append_some-t.ensures.0,
      goes_on _ _ _ _ _ _ _ _ _ _ _ _ _ inv.4
          (goes_on _ _ _ _ _ _ _ _ _ _ _ _ _
          (c.whitening-whitened.ensures.1.leads _ _ _ inv.3)
          c.append_some-t.ensures.1),
    )

pub loop-s-preserved : goal.loop-s-preserved
loop-s-preserved c =
    let inv = c.loop-s.invariant in
    let steps = goes_on _ _ _ _ _ _ _ _ _ _ _ _ _
    (c.whitening-whitened.ensures.1.leads _ _ _ inv.3)
    c.append_some-t.ensures.1 in (
      omega arith,
      omega arith,
      omega arith,
      can _ _ _ _ _ _ _ _ _ _ inv.3 c.append_some-t.ensures.0 steps,
      goes_on _ _ _ _ _ _ _ _ _ _ _ _ _ inv.4 steps,
    )
