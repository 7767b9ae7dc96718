-- The two tests are the definition's two, in its order.
use borrow.Author.Rules.{rules}
use Rattle.base.proofs.Tests.{tests}
use Rattle.rules.specs.Table.{bad_edge}
use Rattle.table.proofs.bad_edge.Goals as goal

pub returns-then-m-e : goal.returns-then-m-e
unfolding bad_edge
returns-then-m-e c = search (tests, rules) depth 12

pub returns-else-m-e : goal.returns-else-m-e
unfolding bad_edge
returns-else-m-e c = search (tests, rules) depth 12
