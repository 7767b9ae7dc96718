-- Each return is a case of the definition.
use borrow.Author.Rules.{rules}
use Rattle.base.proofs.Tests.{tests}
use Rattle.jenturik_text.specs.Words.{most_entry}
use Rattle.jenturik_text.proofs.most_entry.Goals as goal

pub returns-then-tag-eq2 : goal.returns-then-tag-eq2
unfolding most_entry
returns-then-tag-eq2 c = search (tests, rules) depth 12

pub returns-else-tag-eq2 : goal.returns-else-tag-eq2
unfolding most_entry
returns-else-tag-eq2 c = search (tests, rules) depth 12
