-- `link_free` meets its contract: from `node` on the edges are the definition's. The last free node
-- leads to 0, and each one below to the node above it, the one written before. At the end `node` is
-- R + 2, FREE's edge; where nothing is free that is 0, and all edges are there.
use Prim.Native.Nat.{◌+◌}
use native.Mathlib.Omega.{arith}
use mathlib.Core.Path.{◌≡◌}
use lib.ListN.{length-set}
use Rattle.rules.specs.Fresh.{fresh_left}
use Rattle.fresh.proofs.Fills.{ahead, down}
use Rattle.fresh.proofs.Lefts.{after_last, after, of_free}
use Rattle.fresh.proofs.link_free.Goals as goal

pub returns-then-m-roots : goal.returns-then-m-roots
returns-then-m-roots c =
    let m = c.args.m in
    let none : c.args.r + 2 ≡ m = omega arith in record {
      value = after_last _ _ (omega arith);
      left_value = rw none
          (ahead (fresh_left m c.args.r) c.args.left.now m (omega arith));
    }

pub loop-node-init : goal.loop-node-init
loop-node-init c =
    let m = c.args.m in
    let f = fresh_left m c.args.r in
    let left = c.args.left.now in (
      omega arith,
      omega arith,
      simp length-set (omega arith),
      rw c.from-last.ensures (down f left _ m _ _ (omega arith) (omega arith)
          (of_free _ _ _ _ (omega arith) (after_last _ _ (omega arith)))
          (ahead f left m (omega arith))),
    )

pub loop-node-preserved : goal.loop-node-preserved
loop-node-preserved c = (
  omega arith,
  omega arith,
  simp length-set (omega arith),
  rw c.from.ensures (down (fresh_left c.args.m c.args.r) _ _ _ _ _ (omega arith)
      (omega arith)
      (of_free _ _ _ _ (omega arith) (after _ _ _ (omega arith) (omega arith)))
      c.loop-node.invariant.3),
)

pub returns : goal.returns
returns c =
    let end : c.loop-node.node ≡ c.args.r + 2 = omega arith in
    record { value = after _ _ _ (omega arith) (omega arith); left_value = rw end at c.loop-node.invariant.3 }
