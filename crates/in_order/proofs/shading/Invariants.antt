-- `shading` meets its contract: before each turn d steps of Roots lead from the colours at entry to
-- those now. A colour of at most 2 is shaded, which is one step more; a bad one ends the loop.
use Prim.Native.Nat.{◌≤◌}
use mathlib.Core.Path.{◌≡◌}
use lib.ListN.{length}
use Rattle.in_order.specs.Sweeping.{Shades}
use Rattle.in_order.proofs.shading.Given as goal

abbrev pub invariant-loop-d : goal.invariant-loop-d
invariant-loop-d l =
    (length l.colour ≡ length l.initial.colour) × (l.changed ≤ l.d) ×
    Shades l.initial.colour l.i l.cap l.d l.changed l.colour
