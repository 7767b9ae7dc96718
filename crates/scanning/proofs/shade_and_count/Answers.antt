-- `shade_and_count` meets its contract: shading changes one colour at most, and the count of those
-- that stop a look grows by as many at most.
use mathlib.Core.Path.{◌∙◌}
use native.Mathlib.Omega.{arith}
use Rattle.scanning.proofs.Marks.{few_shaded}
use Rattle.scanning.proofs.shade_and_count.Goals as goal

pub returns : goal.returns
returns c =
    let shaded = c.shade_node.ensures in
    let value = c.from.ensures ∙ shaded.value in
    let few = few_shaded _ _ _ _ (omega (arith, c.requires)) shaded.colour_value value in
    record {
      upper_bound = (few.0, (shaded.colour_value, few.1));
      value = value;
    }
