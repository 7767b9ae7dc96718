-- The test is the definition's.
use mathlib.Core.Bool.{Bool, true, false}
use mathlib.Core.Path.{◌≡◌, refl, ◌∙◌}
use lib.Dec.{eqb}
use Rattle.base.specs.Choice.{pick}
use Rattle.std.specs.Int.{from_bool}
use Rattle.jenturik_c.proofs.one_done.Goals as goal

counts : (b : Bool) → from_bool b ≡ pick b 1 0
unfolding pick
counts true = refl
counts false = refl

pub returns : goal.returns
returns c = c.from.ensures ∙ counts (eqb c.args.code 0)
