-- `shading` meets its contract: before each turn d steps of Roots lead from the colours at entry to
-- those now. A colour of at most 2 is shaded, which is one step more; a bad one ends the loop.
use mathlib.Core.Path.{refl, ◌∙◌, ◌≡◌}
use native.Mathlib.Omega.{arith}
use Rattle.in_order.proofs.Sweeps.{shades_none, shades_more, shades_few}
use Rattle.in_order.proofs.shading.Goals as goal

pub loop-d-init : goal.loop-d-init
loop-d-init c = (refl, omega arith, shades_none _ _ _)

pub loop-d-preserved : goal.loop-d-preserved
loop-d-preserved c =
    let shaded = c.shade_node-more.ensures in
    let more = c.from-changed.ensures ∙ shaded.value in (
      omega arith,
      shades_few _ _ _ _ _ _ c.loop-d.invariant.1 shaded.colour_value more,
      shades_more _ _ _ _ _ _ _ _ c.loop-d.invariant.2 (omega arith) (omega arith)
          shaded.colour_value more,
    )

pub returns : goal.returns
returns c =
    let at_end : c.loop-d.d ≡ c.args.cap = omega arith in
    (omega arith, rw at_end at c.loop-d.invariant.2)
