-- `turns` meets its contract: before each turn the fold from the start comes to the fold from here.
-- A turn goes on by its steps, and ends the run where its last one is refused.
use Prim.Native.Nat.{◌-◌, ◌≤◌}
use mathlib.Core.Path.{◌≡◌}
use mathlib.Core.List.{[]}
use lib.ListN.{length, take, drop}
use Rattle.rules.specs.Table.{state}
use Rattle.freed.specs.Gathers.{gather}
use Rattle.freed.proofs.turns.Given as goal

abbrev pub invariant-loop-done : goal.invariant-loop-done
invariant-loop-done l =
    (length l.left ≡ length l.initial.left) × (length l.right ≡ length l.initial.right) ×
    (length l.colour ≡ length l.initial.colour) × (length l.list ≡ length l.initial.list) ×
    (l.done ≤ l.n) × (l.count ≤ length l.initial.list) × (l.changed ≤ l.done) ×
    (gather l.n (length l.initial.list) 0 0 []
    (state l.initial.left l.initial.right l.initial.colour l.initial.rec)
    ≡ gather (l.n - l.done) (length l.initial.list - l.count) l.done l.changed (take l.count l.list)
    (state l.left l.right l.colour l.rec)) ×
    (drop l.count l.list ≡ drop l.count l.initial.list)

abbrev pub decreases-loop-done : goal.decreases-loop-done
decreases-loop-done l = l.n - l.done
