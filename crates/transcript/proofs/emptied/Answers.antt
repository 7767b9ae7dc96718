-- `emptied` meets its contract: only the bytes of the output that are used change.
use mathlib.Core.Path.{refl}
use Rattle.session.specs.Feeding.{standing, emptied}
use Rattle.transcript.proofs.emptied.Goals as goal

pub returns : goal.returns
unfolding standing emptied
returns c = λ l r c₁ ls rs line out. refl
