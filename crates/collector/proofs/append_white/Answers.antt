-- Past the two refusals the three writes are those of the definition, in its order: node i and
-- last lie in the table.
use mathlib.Core.Path.{refl, ap, ◌∙◌}
use borrow.Author.Rules.{rules}
use Rattle.base.proofs.Tests.{tests}
use Rattle.rules.specs.Table.{with_edge, cleared}
use Rattle.rules.specs.Records.{more_free}
use Rattle.rules.specs.Collector.{append, append_white}
use Rattle.rules.proofs.Laws.{same}
use Rattle.collector.proofs.append_white.Goals as goal

pub returns-then-i-x : goal.returns-then-i-x
unfolding append_white
returns-then-i-x c =
    record {
      by_index = λ l. rw c.refusal_with.ensures (search (tests, rules) depth 12);
      changed_value = rw c.refusal_with.ensures;
    }

pub returns-then-i-x-2 : goal.returns-then-i-x-2
unfolding append_white
returns-then-i-x-2 c =
    record {
      by_index = λ l. rw c.refusal_with-then-i-x-2.ensures (search (tests, rules) depth 12);
      changed_value = rw c.refusal_with-then-i-x-2.ensures;
    }

pub returns : goal.returns
unfolding append_white append with_edge cleared
returns c =
    let grown = c.more_free.ensures ∙ ap more_free c.with_last.ensures
    in record {
      by_index = λ k. rw (← grown) (search (same, tests, rules) depth 12);
      changed_value = refl;
    }
