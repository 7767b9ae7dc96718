-- What a public call leaves is what specs/Calls.antt says of it: by the call's contract.
-- `Learnt κs a r s` is what a caller learns of a call: κs the lifetimes, a the arguments, r what it
-- hands back, s the lent slices as it leaves them.
use mathlib.Core.Path.{◌≡◌, refl, ap}
use Rattle.rules.specs.Table.{Outcome}
use Rattle.rules.specs.Schedules.{Followed}
use Rattle.rules.specs.declared.Record.{Record}
use Rattle.fresh.proofs.fresh.Reads as fresh
use Rattle.load.proofs.load.Reads as load
use Rattle.editor.proofs.look.Reads as look
use Rattle.editor.proofs.link.Reads as link
use Rattle.editor.proofs.shade.Reads as shade
use Rattle.take.proofs.take.Reads as take
use Rattle.collector.proofs.collect.Reads as collect
use Rattle.calls.proofs.step.Reads as step
use Rattle.in_use.proofs.in_use.Reads as in_use
use Rattle.free_count.proofs.free_count.Reads as free_count
use Rattle.promises.specs.CallRuns.{lent, lend}
use Rattle.promises.specs.Calls.{Fresh, Load, Look, Link, Shade, Take, Collect, Any}
use Rattle.promises.specs.Calls.{InUse, FreeCount, left_by, rattle}

-- the slices and the record of an outcome
pub lent_by : {o p : Outcome} → o ≡ p → lend (λ x. x) o.state ≡ lend (λ x. x) p.state
lent_by e = ap (λ (o : Outcome). lend (λ x. x) o.state) e

-- and of a run
pub lent_by_run : {o p : Followed} → o ≡ p → lend (λ x. x) o.state ≡ lend (λ x. x) p.state
lent_by_run e = ap (λ (o : Followed). lend (λ x. x) o.state) e

-- Fresh is given no record: it leaves the same whichever was kept
pub fresh_leaves : (κs : _) (a : _) (r : _) (s : _) (x : Record) → fresh.Learnt κs a r s
    → lent s.0.now s.1.0.now s.1.1.0.now r.rec
    ≡ rattle.leaves (Fresh a.1.1.1.0 a.1.1.1.1.0)
    (lent a.0.now a.1.0.now a.1.1.0.now x)
unfolding left_by
fresh_leaves κs a r s x p = lent_by p.0

-- nor is Load
pub load_leaves : (κs : _) (a : _) (r : _) (s : _) (x : Record) → load.Learnt κs a r s
    → lent s.1.1.0.now s.1.1.1.0.now s.1.1.1.1.0.now r.rec
    ≡ rattle.leaves (Load a.1.1.1.1.1.0 a.1.1.1.1.1.1.0 a.0.now
    a.1.0.now)
    (lent a.1.1.0.now a.1.1.1.0.now a.1.1.1.1.0.now x)
unfolding left_by
load_leaves κs a r s x p = lent_by p.0

pub look_leaves : (κs : _) (a : _) (r : _) (s : _) → look.Learnt κs a r s
    → lent a.0.now a.1.0.now a.1.1.0.now r.rec
    ≡ rattle.leaves (Look a.1.1.1.1.0)
    (lent a.0.now a.1.0.now a.1.1.0.now a.1.1.1.0)
unfolding left_by
look_leaves κs a r s p = lent_by p.0

pub link_leaves : (κs : _) (a : _) (r : _) (s : _) → link.Learnt κs a r s
    → lent s.0.now s.1.0.now a.1.1.0.now r.rec
    ≡ rattle.leaves (Link a.1.1.1.1.0 a.1.1.1.1.1.0 a.1.1.1.1.1.1.0)
    (lent a.0.now a.1.0.now a.1.1.0.now a.1.1.1.0)
unfolding left_by
link_leaves κs a r s p = lent_by p.0

pub shade_leaves : (κs : _) (a : _) (r : _) (s : _) → shade.Learnt κs a r s
    → lent a.0.now a.1.0.now s.1.1.0.now r.rec
    ≡ rattle.leaves Shade
    (lent a.0.now a.1.0.now a.1.1.0.now a.1.1.1.0)
unfolding left_by
shade_leaves κs a r s p = lent_by p.0

pub take_leaves : (κs : _) (a : _) (r : _) (s : _) → take.Learnt κs a r s
    → lent s.0.now s.1.0.now s.1.1.0.now r.rec
    ≡ rattle.leaves (Take a.1.1.1.1.0 a.1.1.1.1.1.0)
    (lent a.0.now a.1.0.now a.1.1.0.now a.1.1.1.0)
unfolding left_by
take_leaves κs a r s p = lent_by p.0

pub collect_leaves : (κs : _) (a : _) (r : _) (s : _) → collect.Learnt κs a r s
    → lent s.0.now s.1.0.now s.1.1.0.now r.rec
    ≡ rattle.leaves Collect
    (lent a.0.now a.1.0.now a.1.1.0.now a.1.1.1.0)
unfolding left_by
collect_leaves κs a r s p = lent_by p.0

pub step_leaves : (κs : _) (a : _) (r : _) (s : _) → step.Learnt κs a r s
    → lent s.0.now s.1.0.now s.1.1.0.now r.rec
    ≡ rattle.leaves (Any a.1.1.1.1.0)
    (lent a.0.now a.1.0.now a.1.1.0.now a.1.1.1.0)
unfolding left_by
step_leaves κs a r s p = lent_by p.0

-- In use hands back no record: the one given is kept
pub in_use_leaves : (κs : _) (a : _) (r : _) (s : _) → in_use.Learnt κs a r s
    → lent a.0.now a.1.0.now a.1.1.0.now a.1.1.1.0
    ≡ rattle.leaves InUse
    (lent a.0.now a.1.0.now a.1.1.0.now a.1.1.1.0)
unfolding left_by
in_use_leaves κs a r s e = refl

-- nor does Free count
pub free_count_leaves : (κs : _) (a : _) (r : _) (s : _) → free_count.Learnt κs a r s
    → lent a.0.now a.1.0.now a.1.1.0.now a.1.1.1.0
    ≡ rattle.leaves FreeCount
    (lent a.0.now a.1.0.now a.1.1.0.now a.1.1.1.0)
unfolding left_by
free_count_leaves κs a r s e = refl
