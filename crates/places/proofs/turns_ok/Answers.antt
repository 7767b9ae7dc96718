-- With at most 12 turns the shift is the division by a power of 2 that the definition has; a bit
-- is always a side of a table of two edges.
use borrow.Author.Rules.{rules}
use Rattle.base.proofs.Tests.{tests}
use Rattle.rules.specs.Places.{turns_ok}
use Rattle.rules.proofs.Walks.{two_sides}
use Rattle.places.proofs.turns_ok.Goals as goal

pub returns-then-p-le-MOST_TURNS : goal.returns-then-p-le-MOST_TURNS
unfolding turns_ok
returns-then-p-le-MOST_TURNS c = search (tests, two_sides, rules) depth 12

pub returns-else-p-le-MOST_TURNS : goal.returns-else-p-le-MOST_TURNS
unfolding turns_ok
returns-else-p-le-MOST_TURNS c = search (tests, rules) depth 12
