-- The colour written and the record are the definition's; blackened is at most M, so that one
-- more fits.
use borrow.Author.Rules.{rules}
use Rattle.base.proofs.Tests.{tests}
use Rattle.rules.specs.Collector.{black_step}
use Rattle.rules.proofs.Laws.{same}
use Rattle.collector.proofs.black_step.Goals as goal

pub returns : goal.returns
unfolding black_step
returns c = record {
  by_index = λ es. search (same, tests, rules) depth 12;
  changed_value = search rules;
}
