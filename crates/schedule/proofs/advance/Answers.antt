-- Where a count is past its limit, code 2 refuses any step. Else the record passes, and the step is
-- made: by `any_phase` if it is the collector's, and otherwise by `step_passed`.
use mathlib.Core.Path.{sym, ap, ◌∙◌}
use native.Mathlib.Omega.{arith}
use Rattle.rules.specs.Check.{in_limits}
use Rattle.rules.specs.Steps.{collecting}
use Rattle.rules.specs.declared.Made.{Made}
use Rattle.calls.proofs.Named.{named, kind_collect}
use Rattle.schedule.proofs.Loop.{at_most_two}
use Rattle.schedule.proofs.Settled.{sizes, within, past, spoilt}
use Rattle.schedule.proofs.advance.Goals as goal

pub bound-requires : goal.bound-requires
bound-requires c =
    let good = sizes _ _ _ _ _ c.requires.code in
    record { m_le_most_nodes = good.0; r_le_most_slots = good.1 }

pub in_limits-requires : goal.in_limits-requires
in_limits-requires c =
    let good = sizes _ _ _ _ _ c.requires.code in
    record { r_le_most_slots = good.1; r_bound = good.2 }

pub after-requires : goal.after-requires
after-requires c =
    let none = ap (λ (d : Made). d.changed) c.refusal.ensures in
    omega (arith, none, c.requires)

pub returns-then-not-in_limits : goal.returns-then-not-in_limits
returns-then-not-in_limits c =
    let full =
    sym c.if-not-in_limits.true ∙ c.in_limits.ensures
    ∙ ap (in_limits _) c.bound.ensures in
    let told = spoilt _ _ _ _ _ _ c.refusal.ensures
    (past _ _ c.requires.code full) in
    (c.refusal.result, (told.colour_value, (told.changed_value, c.after.ensures)))

pub any_phase-requires : goal.any_phase-requires
any_phase-requires c =
    let given = c.requires in
    let inside =
    sym c.if-not-in_limits.false ∙ c.in_limits.ensures
    ∙ ap (in_limits _) c.bound.ensures in
    record { goes = given; value = within _ _ given.code inside }

pub returns-then-a-eq-COLLECT : goal.returns-then-a-eq-COLLECT
returns-then-a-eq-COLLECT c =
    let done = c.any_phase.ensures in
    let told =
    named _ _ collecting _ _ record { colour_value = done.1.0; changed_value = done.1.1.0 }
    (kind_collect _ _ c.if-a-eq-COLLECT.true) in
    (done.0, (told.colour_value, (told.changed_value, done.1.1.1)))

pub step_passed-requires : goal.step_passed-requires
step_passed-requires c =
    let given = c.requires in
    let inside =
    sym c.if-not-in_limits.false ∙ c.in_limits.ensures
    ∙ ap (in_limits _) c.bound.ensures in
    within _ _ given.code inside

pub after-requires-else-a-eq-COLLECT : goal.after-requires-else-a-eq-COLLECT
after-requires-else-a-eq-COLLECT c =
    let few = at_most_two _ _ _ c.step_passed.ensures.changed_value in
    omega (arith, few, c.requires)
