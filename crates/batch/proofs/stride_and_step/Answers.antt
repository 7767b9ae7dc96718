-- `stride_and_step` meets its contract: the stride stays below B by `near`, so the record still
-- passes where it ends, and there the phase's step is the collector's step.
use mathlib.Core.Path.{refl}
use native.Mathlib.Omega.{arith}
use Rattle.ahead.proofs.Strides.{small}
use Rattle.batch.proofs.StrideAndStep.{ready, steps_in, room, stepped, stepped_few}
use Rattle.batch.proofs.stride_and_step.Goals as goal

pub overflow_sub-near : goal.overflow_sub-near
overflow_sub-near c = let h =
    steps_in _ _ _ _ _ c.requires.passes c.requires.b_value in
    omega arith

pub overflow_sub-near-2 : goal.overflow_sub-near-2
overflow_sub-near-2 c = let h =
    steps_in _ _ _ _ _ c.requires.passes
    c.requires.b_value in omega arith

pub stride-ahead-requires-clause-room : goal.stride-ahead-requires-clause-room
stride-ahead-requires-clause-room c =
    let h = steps_in _ _ _ _ _ c.requires.passes c.requires.b_value in
    room _ _ _ c.requires.b_value (omega arith)

pub phase_step-made-requires : goal.phase_step-made-requires
phase_step-made-requires c = record {
  checked = (ready _ _ _ _ c.stride-ahead.ensures.1.passes).0;
  in_range = (ready _ _ _ _ c.stride-ahead.ensures.1.passes).1;
}

pub overflow_add-result : goal.overflow_add-result
overflow_add-result c =
    let steps = steps_in _ _ _ _ _ c.requires.passes c.requires.b_value in
    let near = small _ _ c.requires.passes (room _ _ c.min.result c.requires.b_value
    (omega (arith, steps, c.min.ensures))) in
    let few = stepped_few _ _ _ _ _ _ c.stride-ahead.ensures.1
    c.phase_step-made.ensures.colour_value c.phase_step-made.ensures.changed_value in
    omega (arith, near, few, c.stride-ahead.ensures.0)

pub returns : goal.returns
returns c = (
  omega arith,
  rw c.from.ensures (stepped _ _ _ _ _ _ _ c.requires.b_value c.stride-ahead.ensures.1 refl
      c.phase_step-made.ensures.colour_value c.phase_step-made.ensures.changed_value),
)
