-- The side is 0 or 1, and the entry written is that list's; the other lists stay.
use borrow.Author.Rules.{rules}
use Rattle.rules.proofs.Laws.{set_left, set_right}
use Rattle.table.proofs.set_edge.Goals as goal

pub returns-then-side-eq0 : goal.returns-then-side-eq0
returns-then-side-eq0 c = λ k y. search (set_left, rules)

pub returns-else-side-eq0 : goal.returns-else-side-eq0
returns-else-side-eq0 c = λ k y. search (set_right, rules)
