-- `appends` meets its contract: the position that the loop starts from stands for the record
-- itself, and the record of the position at the end is where its steps lead. `near` keeps them
-- within cap and before the last node.
use mathlib.Core.Path.{◌≡◌}
use native.Mathlib.Omega.{arith}
use Rattle.rules.specs.Phases.{position}
use Rattle.in_order.proofs.Sweeps.{at, at_append, begins, ends}
use Rattle.in_order.proofs.appends.Goals as goal

pub overflow_sub-from : goal.overflow_sub-from
overflow_sub-from c =
    let g = at_append _ _ _ _ _ c.requires.passes c.requires.phase_value in omega arith

pub overflow_sub-from-2 : goal.overflow_sub-from-2
overflow_sub-from-2 c =
    let g = at_append _ _ _ _ _ c.requires.passes c.requires.phase_value in omega arith

pub appending-s-requires : goal.appending-s-requires
appending-s-requires c =
    let g = at_append _ _ _ _ _ c.requires.passes c.requires.phase_value in
    rw (c.from-from.ensures, c.from-2.ensures, c.from-free.ensures) (begins _ _ _ _ _ _ _
    c.requires.phase_value c.requires.passes c.requires.room (omega arith) (omega arith)
    (omega arith))

pub swept-requires : goal.swept-requires
swept-requires c =
    let g = at _ _ _ _ _ c.appending-s.ensures.1.leads.passes in
    let a = c.appending-s.ensures.1.low in
    let z : position c.args.x.phase ≡ c.args.i = rw c.requires.phase_value in record {
      from_value = omega arith;
      from_le_i = omega arith;
      i_lt_most_nodes = omega arith;
      last_lt_most_nodes = omega arith;
      free_le_most_nodes = omega arith;
      from_bound = omega arith;
    }

pub returns : goal.returns
returns c = (
  omega arith,
  rw (c.swept.ensures, c.from-from.ensures, c.from-free.ensures)
      (ends _ _ _ _ _ _ _ _ _ c.requires.phase_value
      (rw (c.from-from.ensures, c.from-2.ensures, c.from-free.ensures) at c.appending-s.ensures.1)),
)
