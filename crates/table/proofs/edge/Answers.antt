-- The side is 0 or 1, and the entry read is that list's.
use borrow.Author.Rules.{rules}
use Rattle.rules.proofs.Laws.{on_left, on_right}
use Rattle.table.proofs.edge.Goals as goal

pub returns-then-side-eq0 : goal.returns-then-side-eq0
returns-then-side-eq0 c = search (on_left, rules)

pub returns-else-side-eq0 : goal.returns-else-side-eq0
returns-else-side-eq0 c = search (on_right, rules)
