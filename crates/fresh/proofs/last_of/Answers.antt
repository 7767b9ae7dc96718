-- One test, the definition's.
use borrow.Author.Rules.{rules}
use Rattle.base.proofs.Tests.{tests}
use Rattle.rules.specs.Fresh.{fresh_last}
use Rattle.fresh.proofs.last_of.Goals as goal

pub returns-then-r-m : goal.returns-then-r-m
unfolding fresh_last
returns-then-r-m c = search (tests, rules) depth 12

pub returns-else-r-m : goal.returns-else-r-m
unfolding fresh_last
returns-else-r-m c = search (tests, rules) depth 12
