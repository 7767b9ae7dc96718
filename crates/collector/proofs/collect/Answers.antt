-- Where codes 1 and 2 are not given, the record and the lengths are good and the phase's
-- position is in range, which is all that `phase_step` asks.
use mathlib.Core.Path.{sym, ◌∙◌}
use Rattle.rules.specs.Collector.{collect}
use Rattle.rules.proofs.Changes.{told, told_none}
use Rattle.rules.proofs.Checked.{good, inside}
use Rattle.rules.proofs.Laws.{unless_done, unless_refused, step_collecting}
use Rattle.collector.proofs.collect.Goals as goal

pub returns-then-code-ne0 : goal.returns-then-code-ne0
unfolding collect
returns-then-code-ne0 c =
    told_none _ _ _ _ _ (rw (step_collecting, c.refusal.ensures)
    (unless_refused _ _ _ _ c.check-code.ensures c.if-code-ne0.true))
    (rw c.refusal.ensures)

pub phase_step-requires : goal.phase_step-requires
phase_step-requires c = record {
  checked = good _ _ _ _ (sym c.if-code-ne0.false
      ∙ c.check-code.ensures);
  in_range = inside _ _ _
      (sym c.if-code-ne0.false
      ∙ c.check-code.ensures);
}

pub returns : goal.returns
unfolding collect
returns c =
    told _ _ _ _ _ _ (rw step_collecting (unless_done _ _ _ _ _ c.check-code.ensures
    c.if-code-ne0.false c.phase_step.ensures.colour_value))
    c.phase_step.ensures.changed_value
