-- `end_line` meets its contract: a line of each stage does at its end what `line_ended` says.
use mathlib.Core.Logic.{inl, inr}
use mathlib.Core.Path.{refl, sym, ◌∙◌}
use Rattle.transcript.proofs.Stands.{leads_first, leads_export, leads_entry, leads_served}
use Rattle.transcript.proofs.Stands.{leads_step, leads_over}
use Rattle.transcript.proofs.end_line.Goals as goal

pub returns-in-Opening-clause-leads : goal.returns-in-Opening-clause-leads
returns-in-Opening-clause-leads c =
    rw c.in-Opening.is
    (leads_first _ _ c.requires.i_in_bounds c.requires.i_value _ _ _ _ _ _ _ _ _
    (c.begin.ensures _ _))

pub returns-then-is_export-clause-leads : goal.returns-then-is_export-clause-leads
returns-then-is_export-clause-leads c =
    rw c.in-Second.is
    (leads_export _ _ c.requires.i_in_bounds c.requires.i_value _ _ _ _ _ _ _ _ _ _
    (sym c.if-is_export.true ∙ c.is_export.ensures) c.load_line.ensures.stands)

pub returns-else-is_export-clause-leads : goal.returns-else-is_export-clause-leads
returns-else-is_export-clause-leads c =
    rw c.in-Second.is
    (leads_step _ _ c.requires.i_in_bounds c.requires.i_value _ _ _ _ _ _ _ _ _ _
    (sym c.if-is_export.false ∙ c.is_export.ensures) c.serve.ensures.stands)

pub returns-in-Loading-clause-leads : goal.returns-in-Loading-clause-leads
returns-in-Loading-clause-leads c =
    rw c.in-Loading.is
    (leads_entry _ _ c.requires.i_in_bounds c.requires.i_value _ _ _ _ _ _ _ _ _ _ _
    c.load_line-in-Loading.ensures.stands)

pub returns-in-Serving-clause-leads : goal.returns-in-Serving-clause-leads
returns-in-Serving-clause-leads c =
    rw c.in-Serving.is
    (leads_served _ _ c.requires.i_in_bounds c.requires.i_value _ _ _ _ _ _ _ _ _ _
    c.serve-in-Serving.ensures.stands)

pub returns-in-Over-clause-leads : goal.returns-in-Over-clause-leads
returns-in-Over-clause-leads c =
    elim c.in-Over.is [
      | inl q ↦ rw q (leads_over _ _ _ _ _ _ _ _ _ _ _ c.requires.i_in_bounds refl)
      | inr q ↦ rw q.1 (leads_over _ _ _ _ _ _ _ _ _ _ _ c.requires.i_in_bounds refl)
    ]
