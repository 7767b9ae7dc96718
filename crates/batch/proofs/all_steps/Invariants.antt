-- `all_steps` meets its contract: before each turn the n steps from the start come to the n - done
-- steps from here. `stride_and_step` goes on by its steps, and ends the run where its last one is
-- refused or leaves a count past its limit, after which a step is refused with code 2.
use Prim.Native.Nat.{◌+◌, ◌-◌, ◌≤◌}
use mathlib.Core.Path.{◌≡◌}
use Rattle.rules.specs.Table.{state}
use Rattle.rules.specs.Check.{bound}
use Rattle.ahead.specs.Leads.{more, Passes}
use Rattle.rules.specs.Schedules.{collects}
use Rattle.rules.specs.Changes.{changes_all}
use Rattle.batch.proofs.all_steps.Given as goal

abbrev pub invariant-loop-done : goal.invariant-loop-done
invariant-loop-done l = record {
  made : l.done ≤ l.n;
  passes : Passes (state l.left l.right l.colour l.rec);
  limit : l.b ≡ bound 2 l.rec.m l.rec.r;
  rest : more l.n 0 l.initial.answer
      (state l.initial.left l.initial.right l.initial.colour l.initial.rec)
      ≡ more (l.n - l.done) l.done l.answer
      (state l.left l.right l.colour l.rec);
  few : l.changed ≤ l.done;
  sum : changes_all (collects l.n)
      (state l.initial.left l.initial.right l.initial.colour l.initial.rec)
      ≡ l.changed + changes_all (collects (l.n - l.done))
      (state l.left l.right l.colour l.rec);
}

abbrev pub decreases-loop-done : goal.decreases-loop-done
decreases-loop-done l = l.n - l.done
