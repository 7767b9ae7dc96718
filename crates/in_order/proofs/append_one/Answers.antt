-- `append_one` meets its contract: a black node is made white. Where a node is white and not the
-- end of the free list, the three writes are what the step of Append writes. Else nothing is done.
use mathlib.Core.Path.{refl}
use lib.ListN.{length-set}
use native.Mathlib.Omega.{arith}
use Rattle.in_order.proofs.Sweeps.{at, whitens, appends}
use Rattle.in_order.proofs.append_one.Goals as goal

pub bounds-colour-i : goal.bounds-colour-i
bounds-colour-i c =
    let g = at _ _ _ _ _ c.requires.can_append.passes in omega arith

pub returns-then-colour-i-eq-BLACK : goal.returns-then-colour-i-eq-BLACK
returns-then-colour-i-eq-BLACK c = (
  omega arith,
  whitens _ _ _ _ _ _ c.requires.can_append _ (omega arith) refl refl refl c.if-colour-i-eq-BLACK.true,
)

pub bounds-colour-i-2 : goal.bounds-colour-i-2
bounds-colour-i-2 c =
    let g = at _ _ _ _ _ c.requires.can_append.passes in omega arith

pub bounds-left-i : goal.bounds-left-i
bounds-left-i c =
    let g = at _ _ _ _ _ c.requires.can_append.passes in omega arith

pub bounds-right-i : goal.bounds-right-i
bounds-right-i c =
    let g = at _ _ _ _ _ c.requires.can_append.passes in omega arith

pub offset_bounds-left-last : goal.offset_bounds-left-last
offset_bounds-left-last c =
    let g = at _ _ _ _ _ c.requires.can_append.passes in omega arith

pub bounds-left-last : goal.bounds-left-last
bounds-left-last c =
    let g = at _ _ _ _ _ c.requires.can_append.passes in simp length-set (omega arith)

pub returns : goal.returns
returns c = (
  omega arith,
  appends _ _ _ _ _ _ c.requires.can_append _ (omega arith) refl refl refl
      c.if-colour-i-ne-WHITE.false c.requires.r_bound c.if-i-last.false
      c.requires.r_bound_2,
)
