-- `zeros` judges the words without a use, and the definition chooses by it.
use borrow.Author.Rules.{rules}
use Rattle.base.proofs.Tests.{tests}
use Rattle.jenturik_c.specs.Flat.{kind_at}
use Rattle.jenturik_c.proofs.kind_of.Goals as goal

pub returns-then-zeros : goal.returns-then-zeros
unfolding kind_at
returns-then-zeros c = search (tests, rules) depth 12

pub returns-else-zeros : goal.returns-else-zeros
unfolding kind_at
returns-else-zeros c = search (tests, rules) depth 12
