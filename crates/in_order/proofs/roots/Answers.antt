-- `roots` meets its contract: `near` keeps the steps within cap and before the last root, which is
-- all that `shading` needs for its writes to be that many steps.
use native.Mathlib.Omega.{arith}
use Rattle.ahead.proofs.Strides.{fewer, small}
use Rattle.in_order.proofs.Sweeps.{at_roots}
use Rattle.in_order.proofs.roots.Goals as goal

pub overflow_sub-from : goal.overflow_sub-from
overflow_sub-from c =
    let g = at_roots _ _ _ _ _ c.requires.passes c.requires.phase_value in omega arith

pub shading-shaded-requires : goal.shading-shaded-requires
shading-shaded-requires c =
    let g = at_roots _ _ _ _ _ c.requires.passes c.requires.phase_value in record {
      cap_in_bounds = omega arith;
      colour_len_bound = omega arith;
    }

pub rooted-requires : goal.rooted-requires
rooted-requires c =
    let g = at_roots _ _ _ _ _ c.requires.passes c.requires.phase_value in
    let s = small _ _ c.requires.passes c.requires.room in record {
      d_bound = omega arith;
      d_bound_2 = omega arith;
    }

pub returns : goal.returns
returns c =
    let g = at_roots _ _ _ _ _ c.requires.passes c.requires.phase_value in (
      omega arith,
      rw (c.rooted.ensures, c.from-from.ensures)
          ((rw c.from-from.ensures at c.shading-shaded.ensures.1).leads _ _ _ c.requires.passes
          c.requires.phase_value (fewer _ _ _
          (omega arith) c.requires.room)
          (omega arith)),
    )
