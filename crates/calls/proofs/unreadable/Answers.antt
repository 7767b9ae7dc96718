-- The tests stand in the order of the definition's list: the first code that is not 0 is
-- answered.
use borrow.Author.Rules.{rules}
use Rattle.base.proofs.Tests.{firsts}
use Rattle.calls.specs.Unreadable.{unreadable}
use Rattle.calls.proofs.unreadable.Goals as goal

pub returns-then-code-eq0 : goal.returns-then-code-eq0
unfolding unreadable
returns-then-code-eq0 c = search (firsts, rules) depth 12

pub returns-else-code-eq0 : goal.returns-else-code-eq0
unfolding unreadable
returns-else-code-eq0 c = search (firsts, rules) depth 12
