-- In each arm the phase is known, and the definition at it is the arm's call. What the call asks
-- follows from the record's test and the phase's numbers.
use mathlib.Core.Path.{◌∙◌}
use mathlib.Core.List.{[], ◌∷◌}
use Rattle.rules.specs.Table.{edge_of}
use Rattle.rules.specs.Collector.{phase_step}
use Rattle.rules.proofs.Changes.{unchanged}
use Rattle.collector.proofs.phase_step.Goals as goal

pub returns-in-Roots : goal.returns-in-Roots
unfolding phase_step
returns-in-Roots c =
    let done = c.shade_step.ensures in record {
      colour_value = rw (c.in-Roots.is, ← c.after_roots.ensures) (done.by_index _);
      changed_value = done.changed_value;
    }

pub returns-in-Scan : goal.returns-in-Scan
unfolding phase_step
returns-in-Scan c = record {
  colour_value = rw c.in-Scan.is (c.scan_step.ensures.by_index _);
  changed_value = c.scan_step.ensures.changed_value ∙ unchanged _;
}

pub returns-in-Left : goal.returns-in-Left
unfolding phase_step edge_of
returns-in-Left c =
    let read = c.read_step.ensures.by_index (c.args.left.now ∷ c.args.right.now ∷ [])
    c.args.colour.now in record {
      colour_value = rw c.in-Left.is (rw c.from.ensures at read);
      changed_value = c.read_step.ensures.changed_value ∙ unchanged _;
    }

pub returns-in-ShadeLeft : goal.returns-in-ShadeLeft
unfolding phase_step
returns-in-ShadeLeft c =
    let done = c.shade_step-in-ShadeLeft.ensures in
    record {
      colour_value = rw c.in-ShadeLeft.is (done.by_index _);
      changed_value = done.changed_value;
    }

pub returns-in-Right : goal.returns-in-Right
unfolding phase_step edge_of
returns-in-Right c =
    let read = c.read_step-in-Right.ensures.by_index (c.args.left.now ∷ c.args.right.now ∷ [])
    c.args.colour.now in record {
      colour_value = rw c.in-Right.is (rw c.from-in-Right.ensures at read);
      changed_value = c.read_step-in-Right.ensures.changed_value ∙ unchanged _;
    }

pub returns-in-ShadeRight : goal.returns-in-ShadeRight
unfolding phase_step
returns-in-ShadeRight c =
    let done = c.shade_step-in-ShadeRight.ensures in
    record {
      colour_value = rw c.in-ShadeRight.is (done.by_index _);
      changed_value = done.changed_value;
    }

pub returns-in-Black : goal.returns-in-Black
unfolding phase_step
returns-in-Black c =
    let done = c.black_step.ensures in
    record { colour_value = rw c.in-Black.is (done.by_index _); changed_value = done.changed_value }

pub returns-in-Append : goal.returns-in-Append
unfolding phase_step
returns-in-Append c =
    let done = c.append_step.ensures in
    record {
      colour_value = rw c.in-Append.is done.colour_value;
      changed_value = done.changed_value;
    }
