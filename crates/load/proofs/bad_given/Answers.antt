-- `bad_given` meets its contract: its tests are the definition's.
use borrow.Author.Rules.{rules}
use Rattle.base.proofs.Tests.{tests}
use Rattle.rules.specs.Table.{bad_edge}
use Rattle.rules.specs.Load.{bad_given}
use Rattle.load.proofs.bad_given.Goals as goal
use Rattle.load.proofs.bad_given.Goals.{then-m-e, else-m-e}

pub returns-then-e-eq1 : goal.returns-then-e-eq1
unfolding bad_given bad_edge
returns-then-e-eq1 c = elim c.if-m-e.branch [
  | then-m-e w ↦ search (tests, rules) depth 12
  | else-m-e w ↦ search (tests, rules) depth 12
]

pub returns-then-n-eq0 : goal.returns-then-n-eq0
unfolding bad_given bad_edge
returns-then-n-eq0 c = search (tests, rules) depth 12

pub returns-else-n-eq0 : goal.returns-else-n-eq0
unfolding bad_given bad_edge
returns-else-n-eq0 c = search (tests, rules) depth 12
