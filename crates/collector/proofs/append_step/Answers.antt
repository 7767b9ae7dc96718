-- The colour decides, as in the definition; a white node is `append_white`'s.
use mathlib.Core.Path.{◌∙◌}
use borrow.Author.Rules.{rules}
use Rattle.base.proofs.Tests.{tests}
use Rattle.rules.specs.Collector.{append_step}
use Rattle.rules.proofs.Changes.{unchanged}
use Rattle.rules.proofs.Laws.{same}
use Rattle.collector.proofs.append_step.Goals as goal

pub returns-in-2-clause-colour_value : goal.returns-in-2-clause-colour_value
unfolding append_step
returns-in-2-clause-colour_value c = search (same, tests, rules) depth 12

pub returns-in-0 : goal.returns-in-0
unfolding append_step
returns-in-0 c =
    let appended = c.append_white.ensures in
    record {
      colour_value = search (appended.by_index, tests, rules) depth 12;
      changed_value = appended.changed_value ∙ unchanged _;
    }

pub returns-in-1 : goal.returns-in-1
unfolding append_step
returns-in-1 c = record {
  colour_value = rw c.refusal_with.ensures (search (tests, rules) depth 12);
  changed_value = rw c.refusal_with.ensures (unchanged _);
}

pub returns-in_default : goal.returns-in_default
unfolding append_step
returns-in_default c = record {
  colour_value = rw c.refusal.ensures (search (tests, rules) depth 12);
  changed_value = rw c.refusal.ensures (unchanged _);
}
