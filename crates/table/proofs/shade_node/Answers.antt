-- Only a white colour is written, and then gray, as the definition has it.
use borrow.Author.Rules.{rules}
use Rattle.base.proofs.Tests.{tests}
use Rattle.rules.specs.Table.{shade_in}
use Rattle.rules.proofs.Changes.{unchanged}
use Rattle.table.proofs.shade_node.Goals as goal

pub returns-then-colour-from-eq-WHITE-clause-colour_value :
    goal.returns-then-colour-from-eq-WHITE-clause-colour_value
unfolding shade_in
returns-then-colour-from-eq-WHITE-clause-colour_value c = search (tests, rules) depth 12

pub returns-else-colour-from-eq-WHITE-clause-colour_value :
    goal.returns-else-colour-from-eq-WHITE-clause-colour_value
unfolding shade_in
returns-else-colour-from-eq-WHITE-clause-colour_value c = search (tests, rules) depth 12

pub returns-else-colour-from-eq-WHITE-clause-value :
    goal.returns-else-colour-from-eq-WHITE-clause-value
returns-else-colour-from-eq-WHITE-clause-value c = unchanged _
