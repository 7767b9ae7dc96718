-- The record that is made is the one of the definition.
use mathlib.Core.Path.{refl}
use Rattle.transcript.proofs.start.Goals as goal

pub returns : goal.returns
returns c = rw c.fresh.ensures refl
