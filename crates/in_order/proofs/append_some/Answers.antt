-- `append_some` meets its contract: behind the roots `append_each` goes on for no more nodes than
-- may still be free. Else nothing is done.
use native.Mathlib.Omega.{arith}
use Rattle.in_order.proofs.Sweeps.{at}
use Rattle.in_order.proofs.append_some.Goals as goal

pub limit-near-requires : goal.limit-near-requires
limit-near-requires c =
    let can = c.requires in
    let g = at _ _ _ _ _ can.passes in
    let h = can.high in
    let n = can.low in record {
      i_le_end = omega arith;
      end_le_most_nodes = omega arith;
      r_bound = omega arith;
    }
