-- `one_gray` meets its contract: each test is a part of the fact, and a record that passes tells
-- that k is compared with its M.
use native.Mathlib.Omega.{arith}
use Rattle.scanning.proofs.Marks.{at}
use Rattle.scanning.proofs.Marker.one_gray.Goals as goal

pub bounds-colour-s : goal.bounds-colour-s
bounds-colour-s c =
    let g = at _ _ _ _ _ c.requires.passes in omega (arith, g.sizes, c.requires.grayed)

pub returns-then-m-self : goal.returns-then-m-self
returns-then-m-self c =
    let g = at _ _ _ _ _ c.requires.passes in let n = g.sizes.colours in grind arith
