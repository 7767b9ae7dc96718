-- The fields that change are stored to, and the phase is set last: what stands in the definition.
use borrow.Author.Rules.{rules}
use Rattle.in_order.specs.Sweeping.{rooted}
use Rattle.in_order.proofs.rooted.Goals as goal

pub returns : goal.returns
unfolding rooted
returns c = search rules
