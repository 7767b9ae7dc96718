-- The tests stand in the definition's order, and each return is its case; `next` gives the node
-- after this one.
use borrow.Author.Rules.{rules}
use Rattle.base.proofs.Tests.{tests}
use Rattle.rules.specs.Collector.{scan_step}
use Rattle.rules.proofs.Laws.{same}
use Rattle.collector.proofs.scan_step.Goals as goal

pub returns-then-seen-gt-BLACK : goal.returns-then-seen-gt-BLACK
unfolding scan_step
returns-then-seen-gt-BLACK c =
    record {
      by_index = λ es. rw c.refusal.ensures (search (tests, rules) depth 12);
      changed_value = rw c.refusal.ensures;
    }

pub returns-then-seen-eq-GRAY : goal.returns-then-seen-eq-GRAY
unfolding scan_step
returns-then-seen-eq-GRAY c =
    record {
      by_index = λ es. rw c.looked.ensures (search (same, tests, rules) depth 12);
      changed_value = rw c.looked.ensures;
    }

pub returns-then-k-eq1 : goal.returns-then-k-eq1
unfolding scan_step
returns-then-k-eq1 c =
    record {
      by_index = λ es. rw c.looked-then-k-eq1.ensures (search (same, tests, rules) depth 12);
      changed_value = rw c.looked-then-k-eq1.ensures;
    }

pub returns-else-k-eq1 : goal.returns-else-k-eq1
unfolding scan_step
returns-else-k-eq1 c =
    record {
      by_index = λ es. rw (c.looked-else-k-eq1.ensures, ← c.next.ensures)
          (search (same, tests, rules) depth 12);
      changed_value = rw c.looked-else-k-eq1.ensures;
    }
