-- `Stage::after` meets its contract: the same test.
use Rattle.base.proofs.Tests.{tests}
use borrow.Author.Rules.{rules}
use Rattle.session.proofs.Stage.after.Goals as goal

pub returns-then-code-eq0 : goal.returns-then-code-eq0
returns-then-code-eq0 c = search (tests, rules) depth 12

pub returns-else-code-eq0 : goal.returns-else-code-eq0
returns-else-code-eq0 c = search (tests, rules) depth 12
