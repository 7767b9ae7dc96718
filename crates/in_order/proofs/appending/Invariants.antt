-- `appending` meets its contract: before each turn the steps that were made lead from the start to
-- s. `whitening` and `append_some` add steps or none; the loop ends where they add none, so the
-- measure, what is left up to end, falls.
use Prim.Native.Nat.{◌-◌}
use mathlib.Core.Path.{◌≡◌}
use lib.ListN.{length}
use Rattle.in_order.specs.Sweeping.{CanAppend, AppendLeads}
use Rattle.in_order.proofs.appending.Given as goal

abbrev pub invariant-loop-s : goal.invariant-loop-s
invariant-loop-s l =
    (length l.left ≡ length l.initial.left) × (length l.right ≡ length l.initial.right) ×
    (length l.colour ≡ length l.initial.colour) × CanAppend l.left l.right l.colour l.x l.end l.s ×
    AppendLeads l.initial.left l.initial.right l.initial.colour l.x l.initial.s l.left l.right
    l.colour l.s

abbrev pub decreases-loop-s : goal.decreases-loop-s
decreases-loop-s l = l.end - l.s.i
