-- The fields that change are stored to, and the phase is set last: what stands in the definition.
use Rattle.in_order.specs.Sweeping.{swept}
use Rattle.in_order.proofs.swept.Goals as goal

pub returns : goal.returns
unfolding swept
returns c =
    rw (← c.requires.from_value) c.with_phase.ensures
