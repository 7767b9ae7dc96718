-- A bad edge is refused; any other number goes on to the phase that shades it.
use mathlib.Core.Path.{refl, sym, ◌∙◌}
use borrow.Author.Rules.{rules}
use Rattle.base.proofs.Tests.{pick_yes, pick_no}
use Rattle.rules.specs.Collector.{read_step}
use Rattle.rules.proofs.Laws.{same}
use Rattle.collector.proofs.read_step.Goals as goal

pub returns-then-bad_edge : goal.returns-then-bad_edge
unfolding read_step
returns-then-bad_edge c = record {
  by_index = λ es l. rw c.refusal_with.ensures
      (pick_yes _ _ _ _ (sym c.if-bad_edge.true ∙ c.bad_edge.ensures) refl);
  changed_value = rw c.refusal_with.ensures refl;
}

pub returns-else-bad_edge : goal.returns-else-bad_edge
unfolding read_step
returns-else-bad_edge c = record {
  by_index = λ es l. pick_no _ _ _ _ (sym c.if-bad_edge.false ∙ c.bad_edge.ensures)
      (rw c.looked.ensures (search (same, rules) depth 12));
  changed_value = rw c.looked.ensures;
}
