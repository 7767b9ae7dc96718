-- The one test, whether a step was done, is the definition's.
use borrow.Author.Rules.{rules}
use Rattle.base.proofs.Tests.{tests}
use Rattle.lines.specs.Lines.{start_of}
use Rattle.lines.proofs.start_of.Goals as goal

pub returns-then-done-eq0 : goal.returns-then-done-eq0
unfolding start_of
returns-then-done-eq0 c = search (tests, rules) depth 12

pub returns-else-done-eq0 : goal.returns-else-done-eq0
unfolding start_of
returns-else-done-eq0 c = search (tests, rules) depth 12
