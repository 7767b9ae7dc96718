-- `append_each` meets its contract: before each turn the steps that were made lead from the start
-- to s. `append_one` adds one step or none; the loop ends where it adds none, so the measure, what
-- is left up to end, falls. Each step appends at most one node, so one more may be free before end.
use Prim.Native.Nat.{◌-◌}
use mathlib.Core.Path.{◌≡◌}
use lib.ListN.{length}
use Rattle.in_order.specs.Sweeping.{CanAppend, AppendLeads}
use Rattle.in_order.proofs.append_each.Given as goal

abbrev pub invariant-loop-s : goal.invariant-loop-s
invariant-loop-s l =
    (length l.left ≡ length l.initial.left) × (length l.right ≡ length l.initial.right) ×
    (length l.colour ≡ length l.initial.colour) × CanAppend l.left l.right l.colour l.x l.end l.s ×
    AppendLeads l.initial.left l.initial.right l.initial.colour l.x l.initial.s l.left l.right
    l.colour l.s

abbrev pub decreases-loop-s : goal.decreases-loop-s
decreases-loop-s l = l.end - l.s.i
