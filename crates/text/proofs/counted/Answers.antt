-- The one test, whether the count is too large, is the definition's.
use borrow.Author.Rules.{rules}
use Rattle.base.proofs.Tests.{tests}
use Rattle.text.specs.Grammar.{counted}
use Rattle.text.proofs.counted.Goals as goal

pub returns-then-n-le-COUNT : goal.returns-then-n-le-COUNT
unfolding counted
returns-then-n-le-COUNT c = search (tests, rules) depth 12

pub returns-else-n-le-COUNT : goal.returns-else-n-le-COUNT
unfolding counted
returns-else-n-le-COUNT c = search (tests, rules) depth 12
