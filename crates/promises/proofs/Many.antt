-- Many collector steps in one call: the promise determines the outcome, and what the call leaves.
-- Where it notes the nodes that become free, it determines the list too.
use mathlib.Core.Path.{◌≡◌}
use Rattle.batch.specs.Last.{many}
use Rattle.batch.proofs.collect_many.Reads as collect-many
use Rattle.freed.specs.Freed.{freed}
use Rattle.freed.proofs.collect_freed.Reads as collect-freed
use Rattle.promises.specs.CallRuns.{lent}
use Rattle.promises.specs.Calls.{CollectMany, CollectFreed, left_by, rattle}
use Rattle.promises.proofs.Determined.{determined}
use Rattle.promises.proofs.Covered.{lent_by_run}

pub collect_many_determined : (κs : _) (a : _) (r r' : _) (s s' : _)
    → collect-many.Learnt κs a r s → collect-many.Learnt κs a r' s'
    → (many r s.0.now s.1.0.now s.1.1.0.now
    ≡ many r' s'.0.now s'.1.0.now s'.1.1.0.now) × (r.answer ≡ r'.answer)
    × (r.changed ≡ r'.changed)
collect_many_determined κs a r r' s s' p q = (
  determined p.0.0 q.0.0,
  determined p.0.1 q.0.1,
  determined p.1 q.1,
)

-- what it leaves is what specs/Calls.antt says of it
pub collect_many_leaves : (κs : _) (a : _) (r : _) (s : _) → collect-many.Learnt κs a r s
    → lent s.0.now s.1.0.now s.1.1.0.now r.rec
    ≡ rattle.leaves (CollectMany a.1.1.1.1.0)
    (lent a.0.now a.1.0.now a.1.1.0.now a.1.1.1.0)
unfolding left_by
collect_many_leaves κs a r s e = lent_by_run e.0.0

pub collect_freed_determined : (κs : _) (a : _) (r r' : _) (s s' : _)
    → collect-freed.Learnt κs a r s → collect-freed.Learnt κs a r' s'
    → (freed r s.0.now s.1.0.now s.1.1.0.now
    ≡ freed r' s'.0.now s'.1.0.now s'.1.1.0.now) × (r.changed ≡ r'.changed)
    × (s.1.1.1.1.1.0.now ≡ s'.1.1.1.1.1.0.now) × (r.count ≡ r'.count)
collect_freed_determined κs a r r' s s' p q = (
  determined p.0 q.0,
  determined p.1.0 q.1.0,
  determined p.1.1.0 q.1.1.0,
  determined p.1.1.1 q.1.1.1,
)

pub collect_freed_leaves : (κs : _) (a : _) (r : _) (s : _) → collect-freed.Learnt κs a r s
    → lent s.0.now s.1.0.now s.1.1.0.now r.rec
    ≡ rattle.leaves (CollectFreed a.1.1.1.1.0 a.1.1.1.1.1.0.now)
    (lent a.0.now a.1.0.now a.1.1.0.now a.1.1.1.0)
unfolding left_by
collect_freed_leaves κs a r s p = lent_by_run p.0
