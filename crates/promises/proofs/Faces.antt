-- The calls for C: the promise of each determines what is told, the three slices and the words; and
-- what it leaves is what specs/Words.antt says of it.
use mathlib.Core.Path.{◌≡◌, ap}
use mathlib.Core.List.{List}
use Prim.Native.Nat.{ℕ}
use Rattle.jenturik_c.specs.Face.{answered_of, Faced, faced, place_of}
use Rattle.jenturik_c.specs.Many.{faced_run, code_in, detail_in, last_of}
use Rattle.jenturik_c.proofs.jenturik_version.Reads as c-version
use Rattle.jenturik_c.proofs.jenturik_fresh.Reads as c-fresh
use Rattle.jenturik_c.proofs.jenturik_load.Reads as c-load
use Rattle.jenturik_c.proofs.jenturik_look.Reads as c_look
use Rattle.jenturik_c.proofs.jenturik_in_use.Reads as c-in-use
use Rattle.jenturik_c.proofs.jenturik_free_count.Reads as c-free-count
use Rattle.jenturik_c.proofs.jenturik_link.Reads as c-link
use Rattle.jenturik_c.proofs.jenturik_shade.Reads as c-shade
use Rattle.jenturik_c.proofs.jenturik_take.Reads as c-take
use Rattle.jenturik_c.proofs.jenturik_collect.Reads as c-collect
use Rattle.jenturik_c.proofs.jenturik_collect_many.Reads as c-many
use Rattle.jenturik_c.proofs.jenturik_collect_freed.Reads as c-freed
use Rattle.jenturik_c.proofs.jenturik_schedule.Reads as c-schedule
use Rattle.promises.specs.CallRuns.{lent}
use Rattle.promises.specs.Words.{Fresh, Load, Look, InUse, FreeCount, Link, Shade, Take}
use Rattle.promises.specs.Words.{Collect, CollectMany, CollectFreed, Schedule, left_in}
use Rattle.promises.specs.Words.{left_in_run, left_by, words}
use Rattle.promises.proofs.Determined.{determined}

-- the version is lent nothing
pub c_version_determined : (κs : _) (a : _) (r r' : _) (s s' : _)
    → c-version.Learnt κs a r s → c-version.Learnt κs a r' s' → r ≡ r'
c_version_determined κs a r r' s s' = determined

pub c_fresh_determined : (κs : _) (a : _) (r r' : _) (s s' : _)
    → c-fresh.Learnt κs a r s → c-fresh.Learnt κs a r' s'
    → (faced (answered_of r) s.0.now s.1.0.now s.1.1.0.now s.1.1.1.0.now
    ≡ faced (answered_of r') s'.0.now s'.1.0.now s'.1.1.0.now
    s'.1.1.1.0.now)
    × (r.changed ≡ r'.changed)
c_fresh_determined κs a r r' s s' p q =
    (determined p.0 q.0, determined p.1.1 q.1.1)

pub c_load_determined : (κs : _) (a : _) (r r' : _) (s s' : _)
    → c-load.Learnt κs a r s → c-load.Learnt κs a r' s'
    → (faced (answered_of r) s.0.now s.1.0.now s.1.1.0.now s.1.1.1.0.now
    ≡ faced (answered_of r') s'.0.now s'.1.0.now s'.1.1.0.now
    s'.1.1.1.0.now)
    × (r.changed ≡ r'.changed)
c_load_determined κs a r r' s s' p q =
    (determined p.0 q.0, determined p.1.1 q.1.1)

pub c_look_determined : (κs : _) (a : _) (r r' : _) (s s' : _)
    → c_look.Learnt κs a r s → c_look.Learnt κs a r' s'
    → (answered_of r ≡ answered_of r') × (r.changed ≡ r'.changed)
c_look_determined κs a r r' s s' p q =
    (ap (λ (f : Faced). f.told) (determined p.0 q.0), determined p.1 q.1)

-- In use writes nothing either
pub c_in_use_determined : (κs : _) (a : _) (r r' : _) (s s' : _)
    → c-in-use.Learnt κs a r s → c-in-use.Learnt κs a r' s'
    → (answered_of r ≡ answered_of r') × (r.changed ≡ r'.changed)
c_in_use_determined κs a r r' s s' p q =
    (ap (λ (f : Faced). f.told) (determined p.0 q.0), determined p.1 q.1)

-- nor does Free count
pub c_free_count_determined : (κs : _) (a : _) (r r' : _) (s s' : _)
    → c-free-count.Learnt κs a r s → c-free-count.Learnt κs a r' s'
    → (answered_of r ≡ answered_of r') × (r.changed ≡ r'.changed)
c_free_count_determined κs a r r' s s' p q =
    (ap (λ (f : Faced). f.told) (determined p.0 q.0), determined p.1 q.1)

pub c_link_determined : (κs : _) (a : _) (r r' : _) (s s' : _)
    → c-link.Learnt κs a r s → c-link.Learnt κs a r' s'
    → (faced (answered_of r) s.0.now s.1.0.now a.1.1.0.now s.1.1.1.0.now
    ≡ faced (answered_of r') s'.0.now s'.1.0.now a.1.1.0.now
    s'.1.1.1.0.now)
    × (r.changed ≡ r'.changed)
c_link_determined κs a r r' s s' p q =
    (determined p.0 q.0, determined p.1.1 q.1.1)

pub c_shade_determined : (κs : _) (a : _) (r r' : _) (s s' : _)
    → c-shade.Learnt κs a r s → c-shade.Learnt κs a r' s'
    → (faced (answered_of r) a.0.now a.1.0.now s.1.1.0.now s.1.1.1.0.now
    ≡ faced (answered_of r') a.0.now a.1.0.now s'.1.1.0.now
    s'.1.1.1.0.now)
    × (r.changed ≡ r'.changed)
c_shade_determined κs a r r' s s' p q =
    (determined p.0 q.0, determined p.1.1 q.1.1)

pub c_take_determined : (κs : _) (a : _) (r r' : _) (s s' : _)
    → c-take.Learnt κs a r s → c-take.Learnt κs a r' s'
    → (faced (answered_of r) s.0.now s.1.0.now s.1.1.0.now s.1.1.1.0.now
    ≡ faced (answered_of r') s'.0.now s'.1.0.now s'.1.1.0.now
    s'.1.1.1.0.now)
    × (r.changed ≡ r'.changed)
c_take_determined κs a r r' s s' p q =
    (determined p.0 q.0, determined p.1.1 q.1.1)

pub c_collect_determined : (κs : _) (a : _) (r r' : _) (s s' : _)
    → c-collect.Learnt κs a r s → c-collect.Learnt κs a r' s'
    → (faced (answered_of r) s.0.now s.1.0.now s.1.1.0.now s.1.1.1.0.now
    ≡ faced (answered_of r') s'.0.now s'.1.0.now s'.1.1.0.now
    s'.1.1.1.0.now)
    × (r.changed ≡ r'.changed)
c_collect_determined κs a r r' s s' p q =
    (determined p.0 q.0, determined p.1.1 q.1.1)

pub c_many_determined : (κs : _) (a : _) (r r' : _) (s s' : _)
    → c-many.Learnt κs a r s → c-many.Learnt κs a r' s'
    → (faced_run r.done (code_in r.code) (detail_in r.code)
    s.0.now s.1.0.now s.1.1.0.now s.1.1.1.0.now
    ≡ faced_run r'.done (code_in r'.code) (detail_in r'.code)
    s'.0.now s'.1.0.now s'.1.1.0.now s'.1.1.1.0.now)
    × (last_of r ≡ last_of r') × (r.changed ≡ r'.changed)
c_many_determined κs a r r' s s' p q = (
  determined p.0 q.0,
  determined p.1.0 q.1.0,
  determined p.1.1.1 q.1.1.1,
)

pub c_freed_determined : (κs : _) (a : _) (r r' : _) (s s' : _)
    → c-freed.Learnt κs a r s → c-freed.Learnt κs a r' s'
    → (faced_run r.done r.code r.detail
    s.0.now s.1.0.now s.1.1.0.now s.1.1.1.0.now
    ≡ faced_run r'.done r'.code r'.detail
    s'.0.now s'.1.0.now s'.1.1.0.now s'.1.1.1.0.now)
    × (r.changed ≡ r'.changed) × (s.1.1.1.1.1.0.now ≡ s'.1.1.1.1.1.0.now)
    × (r.freed ≡ r'.freed)
c_freed_determined κs a r r' s s' p q = (
  determined p.0 q.0,
  determined p.1.1.0 q.1.1.0,
  determined p.1.1.1.0 q.1.1.1.0,
  determined p.1.1.1.1 q.1.1.1.1,
)

pub c_schedule_determined : (κs : _) (a : _) (r r' : _) (s s' : _)
    → c-schedule.Learnt κs a r s → c-schedule.Learnt κs a r' s'
    → (faced_run r.done r.code r.detail
    s.0.now s.1.0.now s.1.1.0.now s.1.1.1.0.now
    ≡ faced_run r'.done r'.code r'.detail
    s'.0.now s'.1.0.now s'.1.1.0.now s'.1.1.1.0.now)
    × (r.changed ≡ r'.changed)
c_schedule_determined κs a r r' s s' p q =
    (determined p.0 q.0, determined p.1.1 q.1.1)

-- Fresh writes the words whatever they were
pub c_fresh_leaves : (κs : _) (a : _) (r : _) (s : _) (w : List ℕ) → c-fresh.Learnt κs a r s
    → lent s.0.now s.1.0.now s.1.1.0.now s.1.1.1.0.now
    ≡ words.leaves (Fresh a.1.1.1.1.0 a.1.1.1.1.1.0)
    (lent a.0.now a.1.0.now a.1.1.0.now w)
unfolding left_by
c_fresh_leaves κs a r s w p = ap left_in p.0

-- and so does Load
pub c_load_leaves : (κs : _) (a : _) (r : _) (s : _) (w : List ℕ) → c-load.Learnt κs a r s
    → lent s.0.now s.1.0.now s.1.1.0.now s.1.1.1.0.now
    ≡ words.leaves
    (Load a.1.1.1.1.1.1.0 a.1.1.1.1.1.1.1.0
    a.1.1.1.1.0.now a.1.1.1.1.1.0.now)
    (lent a.0.now a.1.0.now a.1.1.0.now w)
unfolding left_by
c_load_leaves κs a r s w p = ap left_in p.0

pub c_look_leaves : (κs : _) (a : _) (r : _) (s : _) → c_look.Learnt κs a r s
    → lent a.0.now a.1.0.now a.1.1.0.now a.1.1.1.0.now
    ≡ words.leaves
    (Look (place_of a.1.1.1.1.0 a.1.1.1.1.1.0 a.1.1.1.1.1.1.0))
    (lent a.0.now a.1.0.now a.1.1.0.now a.1.1.1.0.now)
unfolding left_by
c_look_leaves κs a r s p = ap left_in p.0

pub c_in_use_leaves : (κs : _) (a : _) (r : _) (s : _) → c-in-use.Learnt κs a r s
    → lent a.0.now a.1.0.now a.1.1.0.now a.1.1.1.0.now
    ≡ words.leaves InUse
    (lent a.0.now a.1.0.now a.1.1.0.now a.1.1.1.0.now)
unfolding left_by
c_in_use_leaves κs a r s p = ap left_in p.0

pub c_free_count_leaves : (κs : _) (a : _) (r : _) (s : _) → c-free-count.Learnt κs a r s
    → lent a.0.now a.1.0.now a.1.1.0.now a.1.1.1.0.now
    ≡ words.leaves FreeCount
    (lent a.0.now a.1.0.now a.1.1.0.now a.1.1.1.0.now)
unfolding left_by
c_free_count_leaves κs a r s p = ap left_in p.0

pub c_link_leaves : (κs : _) (a : _) (r : _) (s : _) → c-link.Learnt κs a r s
    → lent s.0.now s.1.0.now a.1.1.0.now s.1.1.1.0.now
    ≡ words.leaves
    (Link (place_of a.1.1.1.1.0 a.1.1.1.1.1.0 a.1.1.1.1.1.1.0)
    a.1.1.1.1.1.1.1.0
    (place_of a.1.1.1.1.1.1.1.1.0 a.1.1.1.1.1.1.1.1.1.0
    a.1.1.1.1.1.1.1.1.1.1.0))
    (lent a.0.now a.1.0.now a.1.1.0.now a.1.1.1.0.now)
unfolding left_by
c_link_leaves κs a r s p = ap left_in p.0

pub c_shade_leaves : (κs : _) (a : _) (r : _) (s : _) → c-shade.Learnt κs a r s
    → lent a.0.now a.1.0.now s.1.1.0.now s.1.1.1.0.now
    ≡ words.leaves Shade
    (lent a.0.now a.1.0.now a.1.1.0.now a.1.1.1.0.now)
unfolding left_by
c_shade_leaves κs a r s p = ap left_in p.0

pub c_take_leaves : (κs : _) (a : _) (r : _) (s : _) → c-take.Learnt κs a r s
    → lent s.0.now s.1.0.now s.1.1.0.now s.1.1.1.0.now
    ≡ words.leaves
    (Take (place_of a.1.1.1.1.0 a.1.1.1.1.1.0 a.1.1.1.1.1.1.0)
    a.1.1.1.1.1.1.1.0)
    (lent a.0.now a.1.0.now a.1.1.0.now a.1.1.1.0.now)
unfolding left_by
c_take_leaves κs a r s p = ap left_in p.0

pub c_collect_leaves : (κs : _) (a : _) (r : _) (s : _) → c-collect.Learnt κs a r s
    → lent s.0.now s.1.0.now s.1.1.0.now s.1.1.1.0.now
    ≡ words.leaves Collect
    (lent a.0.now a.1.0.now a.1.1.0.now a.1.1.1.0.now)
unfolding left_by
c_collect_leaves κs a r s p = ap left_in p.0

pub c_many_leaves : (κs : _) (a : _) (r : _) (s : _) → c-many.Learnt κs a r s
    → lent s.0.now s.1.0.now s.1.1.0.now s.1.1.1.0.now
    ≡ words.leaves (CollectMany a.1.1.1.1.0)
    (lent a.0.now a.1.0.now a.1.1.0.now a.1.1.1.0.now)
unfolding left_by
c_many_leaves κs a r s p = ap left_in_run p.0

pub c_freed_leaves : (κs : _) (a : _) (r : _) (s : _) → c-freed.Learnt κs a r s
    → lent s.0.now s.1.0.now s.1.1.0.now s.1.1.1.0.now
    ≡ words.leaves (CollectFreed a.1.1.1.1.0 a.1.1.1.1.1.0.now)
    (lent a.0.now a.1.0.now a.1.1.0.now a.1.1.1.0.now)
unfolding left_by
c_freed_leaves κs a r s p = ap left_in_run p.0

pub c_schedule_leaves : (κs : _) (a : _) (r : _) (s : _) → c-schedule.Learnt κs a r s
    → lent s.0.now s.1.0.now s.1.1.0.now s.1.1.1.0.now
    ≡ words.leaves (Schedule a.1.1.1.1.0.now)
    (lent a.0.now a.1.0.now a.1.1.0.now a.1.1.1.0.now)
unfolding left_by
c_schedule_leaves κs a r s p = ap left_in_run p.0
