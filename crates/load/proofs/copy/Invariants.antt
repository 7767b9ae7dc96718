-- `copy` meets its contract: the first n edges are copied.
use mathlib.Core.Path.{◌≡◌}
use lib.ListN.{take}
use Rattle.load.proofs.copy.Given as goal

abbrev pub invariant-loop-n : goal.invariant-loop-n
invariant-loop-n l = take l.n l.edges ≡ take l.n l.given
