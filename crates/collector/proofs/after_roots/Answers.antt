-- One test, the definition's; R is at most 64, so that the sums fit.
use borrow.Author.Rules.{rules}
use Rattle.base.proofs.Tests.{tests}
use Rattle.rules.specs.Collector.{after_roots}
use Rattle.collector.proofs.after_roots.Goals as goal

pub returns-then-i-r : goal.returns-then-i-r
unfolding after_roots
returns-then-i-r c = search (tests, rules) depth 12

pub returns-else-i-r : goal.returns-else-i-r
unfolding after_roots
returns-else-i-r c = search (tests, rules) depth 12
