-- [Calls 3] What a public call does is determined: any two outcomes that its contract admits are
-- equal in the answer, the record and the slices, and in the number of colours that were changed.
-- `Learnt κs a r s` is what a caller learns of a call: κs the lifetimes, a the arguments, r what it
-- hands back, s the lent slices as it leaves them.
use mathlib.Core.Path.{◌≡◌, sym, ◌∙◌}
use Rattle.rules.specs.Table.{outcome}
use Rattle.fresh.proofs.fresh.Reads as fresh
use Rattle.load.proofs.load.Reads as load
use Rattle.editor.proofs.look.Reads as look
use Rattle.editor.proofs.link.Reads as link
use Rattle.editor.proofs.shade.Reads as shade
use Rattle.take.proofs.take.Reads as take
use Rattle.collector.proofs.collect.Reads as collect
use Rattle.calls.proofs.step.Reads as step
use Rattle.in_use.proofs.in_use.Reads as in_use
use Rattle.free_count.proofs.free_count.Reads as free_count

-- two things that equal one are equal
pub determined : {A : Type 0} {a b c : A} → a ≡ c → b ≡ c → a ≡ b
determined p q = p ∙ sym q

-- and so are two pairs
pub both : {A B : Type 0} {a b c : A} {x y z : B} → (a ≡ c) × (x ≡ z) → (b ≡ c) × (y ≡ z)
    → (a ≡ b) × (x ≡ y)
both p q = (determined p.0 q.0, determined p.1 q.1)

pub fresh_determined : (κs : _) (a : _) (r r' : _) (s s' : _) → fresh.Learnt κs a r s
    → fresh.Learnt κs a r' s'
    → (outcome r s.0.now s.1.0.now s.1.1.0.now
    ≡ outcome r' s'.0.now s'.1.0.now s'.1.1.0.now) × (r.changed ≡ r'.changed)
fresh_determined κs a r r' s s' = both

pub load_determined : (κs : _) (a : _) (r r' : _) (s s' : _) → load.Learnt κs a r s
    → load.Learnt κs a r' s'
    → (outcome r s.1.1.0.now s.1.1.1.0.now s.1.1.1.1.0.now
    ≡ outcome r' s'.1.1.0.now s'.1.1.1.0.now s'.1.1.1.1.0.now)
    × (r.changed ≡ r'.changed)
load_determined κs a r r' s s' = both

-- Look lends no slice to be changed
pub look_determined : (κs : _) (a : _) (r r' : _) (s s' : _) → look.Learnt κs a r s
    → look.Learnt κs a r' s'
    → (outcome r a.0.now a.1.0.now a.1.1.0.now
    ≡ outcome r' a.0.now a.1.0.now a.1.1.0.now) × (r.changed ≡ r'.changed)
look_determined κs a r r' s s' = both

-- nor Link the colours
pub link_determined : (κs : _) (a : _) (r r' : _) (s s' : _) → link.Learnt κs a r s
    → link.Learnt κs a r' s'
    → (outcome r s.0.now s.1.0.now a.1.1.0.now
    ≡ outcome r' s'.0.now s'.1.0.now a.1.1.0.now) × (r.changed ≡ r'.changed)
link_determined κs a r r' s s' = both

-- nor Shade the edges
pub shade_determined : (κs : _) (a : _) (r r' : _) (s s' : _) → shade.Learnt κs a r s
    → shade.Learnt κs a r' s'
    → (outcome r a.0.now a.1.0.now s.1.1.0.now
    ≡ outcome r' a.0.now a.1.0.now s'.1.1.0.now) × (r.changed ≡ r'.changed)
shade_determined κs a r r' s s' = both

pub take_determined : (κs : _) (a : _) (r r' : _) (s s' : _) → take.Learnt κs a r s
    → take.Learnt κs a r' s'
    → (outcome r s.0.now s.1.0.now s.1.1.0.now
    ≡ outcome r' s'.0.now s'.1.0.now s'.1.1.0.now) × (r.changed ≡ r'.changed)
take_determined κs a r r' s s' = both

pub collect_determined : (κs : _) (a : _) (r r' : _) (s s' : _) → collect.Learnt κs a r s
    → collect.Learnt κs a r' s'
    → (outcome r s.0.now s.1.0.now s.1.1.0.now
    ≡ outcome r' s'.0.now s'.1.0.now s'.1.1.0.now) × (r.changed ≡ r'.changed)
collect_determined κs a r r' s s' = both

pub step_determined : (κs : _) (a : _) (r r' : _) (s s' : _) → step.Learnt κs a r s
    → step.Learnt κs a r' s'
    → (outcome r s.0.now s.1.0.now s.1.1.0.now
    ≡ outcome r' s'.0.now s'.1.0.now s'.1.1.0.now) × (r.changed ≡ r'.changed)
step_determined κs a r r' s s' = both

-- In use and Free count lend no slice to be changed, and hand back an answer only
pub in_use_determined : (κs : _) (a : _) (r r' : _) (s s' : _) → in_use.Learnt κs a r s
    → in_use.Learnt κs a r' s' → r ≡ r'
in_use_determined κs a r r' s s' = determined

pub free_count_determined : (κs : _) (a : _) (r r' : _) (s s' : _) → free_count.Learnt κs a r s
    → free_count.Learnt κs a r' s' → r ≡ r'
free_count_determined κs a r r' s s' = determined
