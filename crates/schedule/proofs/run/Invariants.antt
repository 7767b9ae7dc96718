-- Before each step, as many steps are done as the loop has counted, and the whole run is what is
-- left of it.
use mathlib.Core.Path.{◌≡◌}
use Rattle.rules.specs.Table.{state}
use Rattle.rules.specs.Schedules.{schedule}
use Rattle.rules.specs.Changes.{changes_all}
use Rattle.schedule.proofs.Loop.{Inv}
use Rattle.schedule.proofs.run.Given as goal

abbrev pub invariant-loop-i : goal.invariant-loop-i
invariant-loop-i g l =
    let xs = g.S.Steps.list l.fn.steps in
    let s = state l.fn.left l.fn.right l.fn.colour l.fn.rec in
    (l.so_far.done ≡ l.i) × Inv xs (schedule xs s) (changes_all xs s) l.so_far
    (state l.left l.right l.colour l.so_far.rec)
