-- The phase is the record's, so its step is the collector's; it is handed to `after`.
use mathlib.Core.Path.{ap, ◌∙◌}
use native.Mathlib.Omega.{arith}
use Rattle.rules.specs.Collector.{phase_step}
use Rattle.rules.proofs.Checked.{good, inside}
use Rattle.calls.proofs.Named.{collected}
use Rattle.schedule.proofs.Loop.{at_most_two}
use Rattle.schedule.proofs.in_phase.Goals as goal

pub phase_step-requires : goal.phase_step-requires
phase_step-requires c =
    let given = c.requires in
    record {
      checked = good _ _ _ _ given.value;
      in_range = rw given.phase_value (inside _ _ _ given.value);
    }

pub after-requires : goal.after-requires
after-requires c =
    let given = c.requires in
    let done = c.phase_step.ensures in
    let made = collected c.phase_step.result _ _ _ _ given.value
    (done.colour_value ∙ ap (phase_step _) given.phase_value) done.changed_value in
    let few = at_most_two _ _ _ made.changed_value in
    omega (arith, few, given.goes)

pub returns : goal.returns
returns c =
    let given = c.requires in
    let done = c.phase_step.ensures in
    let made = collected c.phase_step.result _ _ _ _ given.value
    (done.colour_value ∙ ap (phase_step _) given.phase_value) done.changed_value in
    (c.phase_step.result, (made.colour_value, (made.changed_value, c.after.ensures)))
