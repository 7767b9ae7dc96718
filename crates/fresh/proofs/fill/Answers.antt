-- `fill` meets its contract: from R + 2 on `link_free` leaves the definition's left edges; below,
-- all are cleared but FREE's, which leads to the first free node. Nothing else is written but 0.
use native.Mathlib.Omega.{arith}
use mathlib.Core.Path.{◌∙◌}
use lib.ListN.{length-set}
use Rattle.rules.specs.Fresh.{no_edge, fresh_state}
use Rattle.fresh.proofs.Fills.{ahead}
use Rattle.fresh.proofs.Lefts.{with_roots}
use Rattle.fresh.proofs.fill.Goals as goal

pub shape_of-left : goal.shape_of-left
shape_of-left c = simp length-set (omega arith)

pub returns : goal.returns
unfolding fresh_state
returns c =
    let m = c.args.m in
    let linked = c.link_free-first.ensures in
    let left = with_roots m c.args.r _ linked.value _ _ linked.left_value
    c.clear.ensures in
    let right = c.clear-2.ensures ∙ ahead no_edge c.args.right.now m
    (omega arith) in
    cc
