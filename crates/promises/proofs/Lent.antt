-- The two forms that are lent structs: what they promise determines the outcome, and what they
-- leave. What a caller learns of such a call is read off the generated contract here, by the
-- library's own reading.
use mathlib.Core.Path.{◌≡◌, refl}
use base.Logic.{emp}
use contract.Lifetimes.{Lfts}
use denote.Triple.Clauses.{AtExit}
use borrow.Fn.Claims.{AllOf}
use borrow.Fn.World.{ArgsD, ResD}
use borrow.Fn.Read.{all_models, no_know, r_last}
use Rattle.rules.specs.Table.{outcome}
use Rattle.rules.specs.Schedules.{ran}
use Rattle.in_place.specs.contracts.collect_in_place as frame
use Rattle.schedule.specs.contracts.schedule as sched
use Rattle.promises.specs.CallRuns.{lent}
use Rattle.promises.specs.Calls.{CollectInPlace, Schedule, left_by, rattle}
use Rattle.promises.proofs.Determined.{both}
use Rattle.promises.proofs.Covered.{lent_by, lent_by_run}

-- what a caller learns of a call: κs the lifetimes, a the arguments, r what it hands back, s what
-- is lent as the call leaves it
abbrev pub FrameLearnt : (κs : Lfts 4) → ArgsD frame.signature κs → ResD frame.signature κs
    → AtExit frame.ended κs → Type 0
FrameLearnt κs a r s =
    AllOf (all_models {Base = λ w. emp w.𝓤} {Know = no_know}
    (λ w. (frame.clauses w.𝓛 w.𝓜.mem w.𝓡.run κs a).ensures tt r s)
    (λ w. r_last _) (λ w. refl) (λ w. refl) (λ w. refl)).tells

abbrev pub ScheduleLearnt : (κs : Lfts 4) → ArgsD sched.signature κs → ResD sched.signature κs
    → AtExit sched.ended κs → Type 0
ScheduleLearnt κs a r s =
    AllOf (all_models {Base = λ w. emp w.𝓤} {Know = no_know}
    (λ w. (sched.clauses w.𝓛 w.𝓜.mem w.𝓡.run κs a).ensures tt r s)
    (λ w. r_last _) (λ w. refl) (λ w. refl) (λ w. refl)).tells

pub collect_in_place_determined : (κs : _) (a : _) (r r' : _) (s s' : _) → FrameLearnt κs a r s
    → FrameLearnt κs a r' s'
    → (outcome (record { answer = r.answer; changed = r.changed; rec = s.1.1.1.0.now })
    s.0.now s.1.0.now s.1.1.0.now
    ≡ outcome (record { answer = r'.answer; changed = r'.changed; rec = s'.1.1.1.0.now })
    s'.0.now s'.1.0.now s'.1.1.0.now) × (r.changed ≡ r'.changed)
collect_in_place_determined κs a r r' s s' = both

pub schedule_determined : (κs : _) (a : _) (r r' : _) (s s' : _) → ScheduleLearnt κs a r s
    → ScheduleLearnt κs a r' s'
    → (ran r s.1.0.now s.1.1.0.now s.1.1.1.0.now
    ≡ ran r' s'.1.0.now s'.1.1.0.now s'.1.1.1.0.now)
    × (r.changed ≡ r'.changed)
schedule_determined κs a r r' s s' = both

-- what each leaves is what specs/Calls.antt says of it; [Calls 4] the first is lent the record
pub collect_in_place_leaves : (κs : _) (a : _) (r : _) (s : _) → FrameLearnt κs a r s
    → lent s.0.now s.1.0.now s.1.1.0.now s.1.1.1.0.now
    ≡ rattle.leaves CollectInPlace
    (lent a.0.now a.1.0.now a.1.1.0.now a.1.1.1.0.now)
unfolding left_by
collect_in_place_leaves κs a r s p = lent_by p.0

pub schedule_leaves : (κs : _) (a : _) (r : _) (s : _) → ScheduleLearnt κs a r s
    → lent s.1.0.now s.1.1.0.now s.1.1.1.0.now r.rec
    ≡ rattle.leaves (Schedule a.0.now)
    (lent a.1.0.now a.1.1.0.now a.1.1.1.0.now a.1.1.1.1.0)
unfolding left_by
schedule_leaves κs a r s p = lent_by_run p.0
