-- `visit` meets its contract: `spread` leaves the colours that the six steps at a gray node leave,
-- and the position is moved as they move the record. The node itself is one of the stops counted,
-- so the count less one stays high enough.
use mathlib.Core.Path.{refl}
use native.Mathlib.Omega.{arith}
use Rattle.scanning.proofs.Marks.{at, one, visits}
use Rattle.scanning.proofs.Marker.visit.Goals as goal

pub bounds-self-s : goal.bounds-self-s
bounds-self-s c =
    let g = at _ _ _ _ _ c.requires.valid.passes in omega (arith, g.sizes)

pub bounds-self-s-2 : goal.bounds-self-s-2
bounds-self-s-2 c =
    let g = at _ _ _ _ _ c.requires.valid.passes in omega (arith, g.sizes)

pub spread-grayed-requires-clause-e_in_bounds : goal.spread-grayed-requires-clause-e_in_bounds
spread-grayed-requires-clause-e_in_bounds c =
    let g = at _ _ _ _ _ c.requires.valid.passes in
    omega (arith, g.sizes, c.requires.can_visit.left)

pub spread-grayed-requires-clause-f_in_bounds : goal.spread-grayed-requires-clause-f_in_bounds
spread-grayed-requires-clause-f_in_bounds c =
    let g = at _ _ _ _ _ c.requires.valid.passes in
    omega (arith, g.sizes, c.requires.can_visit.right)

pub overflow_add-result-3 : goal.overflow_add-result-3
overflow_add-result-3 c =
    let g = at _ _ _ _ _ c.requires.valid.passes in
    let o = one _ _ _ _ _ _ c.requires.valid c.requires.can_visit in
    omega (arith, c.requires.valid.most, c.spread-grayed.ensures.more_bound.0)

pub overflow_sub-result : goal.overflow_sub-result
overflow_sub-result c =
    let g = at _ _ _ _ _ c.requires.valid.passes in
    let o = one _ _ _ _ _ _ c.requires.valid c.requires.can_visit in
    omega (arith, c.requires.valid.most)

pub returns-clause-leads : goal.returns-clause-leads
returns-clause-leads c =
    let g = at _ _ _ _ _ c.requires.valid.passes in
    let n = g.sizes.colours in
    let spread = c.spread-grayed.ensures in
    visits _ _ _ _ _ _ c.requires.valid c.requires.can_visit c.args.self.room _ _ _
    spread.more_bound.1.1.0 (omega arith) spread.more_bound.1.1.1 spread.more_bound.0
    (rw n at c.around.ensures) n refl refl refl
    (spread.more_bound.1.0 _ c.requires.can_visit.left.below c.requires.can_visit.right.below)
    refl spread.more_value
