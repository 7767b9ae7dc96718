-- `visit_rest` meets its contract: before each turn what is left from the node with number `next`
-- on comes to the same as what was left at the start, for any numbering that marks and queue stood
-- for.
use mathlib.Core.Path.{refl}
use Prim.Native.Nat.{◌<◌}
use native.Mathlib.Omega.{arith}
use Rattle.reach.proofs.Kept.{top, node_inside}
use Rattle.meet.proofs.Hurts.{gone_none, gone_next}
use Rattle.meet.proofs.visit_rest.Goals as goal

pub loop-next-init : goal.loop-next-init
loop-next-init c = record {
  low = omega arith;
  room = omega arith;
  gone = λ s v u. gone_none v u;
}

pub returns-then-order-met-lt2 : goal.returns-then-order-met-lt2
returns-then-order-met-lt2 c =
    let w = c.requires.going in
    let inv = c.loop-next.invariant in
    let g = inv.gone w.some w.shown w.hurt in
    let t = top g.shown.kept (omega arith) in
    record {
      le_next = omega arith;
      tail_in_bounds = omega arith;
      tail_le_next = λ h. omega (arith, t, g.shown.end);
      gone = inv.gone;
    }

pub visit_edges-met-requires : goal.visit_edges-met-requires
visit_edges-met-requires c =
    let w = c.requires.going in
    let inv = c.loop-next.invariant in
    let g = inv.gone w.some w.shown w.hurt in
    let k = c.loop-next.next in
    let hi : k < g.at.tail = omega (arith, g.shown.end) in
    let n = node_inside g.shown.kept k (omega arith) hi in
    let q = g.shown.node k (omega arith) (omega arith) in
    record {
      n_in_bounds = omega (arith, n.1, q);
      m_in_bounds = omega arith;
      tail_in_bounds = omega arith;
      shows = record { some = g.at; shown = g.shown };
    }

pub loop-next-smaller : goal.loop-next-smaller
loop-next-smaller c =
    let w = c.requires.going in
    let inv = c.loop-next.invariant in
    let g = inv.gone w.some w.shown w.hurt in
    let t = top g.shown.kept (omega arith) in
    omega (arith, t, g.shown.end)

pub loop-next-preserved : goal.loop-next-preserved
loop-next-preserved c =
    let e = c.visit_edges-met.ensures in
    record {
      low = omega arith;
      room = omega (arith, e.tail_bound);
      gone = λ s v u. gone_next (c.loop-next.invariant.gone s v u) (omega arith) (omega arith)
          (omega arith) _ _ _ _ _ refl e.shown e.hurt_value;
    }

pub returns : goal.returns
returns c =
    record {
      le_next = omega arith;
      tail_in_bounds = omega arith;
      tail_le_next = λ h. omega arith;
      gone = c.loop-next.invariant.gone;
    }
