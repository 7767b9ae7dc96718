-- The fields that change are stored to, and the phase is set last: what stands in the definition.
use borrow.Author.Rules.{rules}
use Rattle.scanning.specs.Marking.{standing}
use Rattle.scanning.proofs.standing.Goals as goal

pub returns : goal.returns
unfolding standing
returns c = search rules
