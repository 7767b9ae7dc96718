-- The three edges and the colour are written in the definition's order; the source's edge is known
-- by its contract, for any record beside the table, and the other two are left edges.
use mathlib.Core.Path.{refl}
use lib.ListN.{set}
use Rattle.rules.specs.Editor.{relink}
use Rattle.rules.proofs.Laws.{set_left}
use Rattle.take.proofs.relink.Goals as goal

pub returns : goal.returns
unfolding relink
returns c =
    let l = c.set_edge.new.left in
    let r = c.set_edge.new.right in
    let k = c.args.colour.now in
    record {
      x_value =
          λ y. rw (
            c.from.ensures,
            ← c.set_edge.ensures k y,
            ← set_left l r k y 0 1 c.args.g refl,
            ← set_left (set l 1 c.args.g) r k y 0 c.args.f 0 refl,
            ← c.shade_node.ensures.colour_value,
          );
      colour_value = c.shade_node.ensures.colour_value;
      value = c.shade_node.ensures.value;
    }
