-- `can_visit` meets its contract: a record that passes tells that node i is in the table, and each
-- test is a part of the fact.
use native.Mathlib.Omega.{arith}
use Rattle.scanning.proofs.Marks.{at}
use Rattle.scanning.proofs.Marker.can_visit.Goals as goal

pub bounds-colour-s : goal.bounds-colour-s
bounds-colour-s c = let g = at _ _ _ _ _ c.requires.passes in omega (arith, g.sizes)

pub bounds-self-s : goal.bounds-self-s
bounds-self-s c = let g = at _ _ _ _ _ c.requires.passes in omega (arith, g.sizes)

pub bounds-self-s-then-can_shade : goal.bounds-self-s-then-can_shade
bounds-self-s-then-can_shade c = let g = at _ _ _ _ _ c.requires.passes in omega (arith, g.sizes)

pub returns-then-can_shade : goal.returns-then-can_shade
returns-then-can_shade c =
    let g = at _ _ _ _ _ c.requires.passes in let n = g.sizes.colours in grind arith
