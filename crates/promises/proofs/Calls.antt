-- Demand 3 for the public calls in Rattle: Fresh and Load start a run, any other call is a run of
-- steps.
use mathlib.Core.Path.{refl, ap}
use Rattle.rules.specs.Steps.{run}
use Rattle.rules.specs.Schedules.{collects}
use Rattle.rules.specs.declared.Record.{Record}
use Rattle.schedule.proofs.PartOfRun.{schedule_run}
use Rattle.jenturik_c.proofs.Kept.{freed_follows}
use Rattle.runs.specs.Start.{by_fresh, by_load}
use Rattle.promises.specs.CallRuns.{Lent, lend, state_of, DemandCalls}
use Rattle.promises.specs.Calls.{Call, Fresh, Load, Look, Link, Shade, Take, Collect, Any}
use Rattle.promises.specs.Calls.{CollectInPlace, Schedule, CollectMany, CollectFreed, InUse}
use Rattle.promises.specs.Calls.{FreeCount, left_by, deed_of, rattle}
use Rattle.promises.proofs.CallRuns as R

-- any record will do
abbrev Fit : Record → Type 0
Fit x = Unit {0}

goes : (c : Call) (h : Lent Record) → R.Goes rattle Fit (λ x. x) c h (deed_of c (state_of rattle h))
unfolding left_by deed_of run
goes (Fresh m r) h = λ z. (_, by_fresh _ _ refl refl z, refl)
goes (Load m r lefts rights) h = λ z. (_, by_load _ _ _ refl refl z, refl)
goes (Look p) h = λ u. refl
goes (Link p side q) h = λ u. refl
goes Shade h = λ u. refl
goes (Take p side) h = λ u. refl
goes Collect h = λ u. refl
goes (Any a) h = λ u. refl
goes CollectInPlace h = λ u. refl
goes (Schedule cs) h = λ u. ap (lend (λ x. x)) (schedule_run cs (state_of rattle h))
goes InUse h = λ u. refl
goes FreeCount h = λ u. refl
goes (CollectMany n) h = λ u. ap (lend (λ x. x)) (schedule_run (collects n) (state_of rattle h))
goes (CollectFreed n list) h = λ u. ap (lend (λ x. x)) (freed_follows n list (state_of rattle h))

pub rattle_calls : DemandCalls rattle
rattle_calls =
    R.demand_calls rattle Fit (λ x. x) (record { back = λ x. refl; fit = λ v u. tt; goes = goes })
