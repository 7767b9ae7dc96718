-- A colour that is none is refused; else the node is shaded by `shade_node`'s contract.
use borrow.Author.Rules.{rules}
use Rattle.base.proofs.Tests.{tests}
use Rattle.rules.specs.Collector.{shade_step}
use Rattle.rules.proofs.Changes.{unchanged}
use Rattle.rules.proofs.Laws.{same}
use Rattle.collector.proofs.shade_step.Goals as goal

pub returns-then-colour-from-gt-BLACK : goal.returns-then-colour-from-gt-BLACK
unfolding shade_step
returns-then-colour-from-gt-BLACK c = record {
  by_index = λ es. rw c.refusal.ensures (search (tests, rules) depth 12);
  changed_value = rw c.refusal.ensures (unchanged _);
}

pub returns : goal.returns
unfolding shade_step
returns c = record {
  by_index = λ es. search (same, tests, rules) depth 12;
  changed_value = search rules;
}
