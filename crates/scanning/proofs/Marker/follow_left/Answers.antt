-- `follow_left` meets its contract: before each turn the steps lead from s to q, and the node at q
-- is the only gray one. So the looks up to it find nothing, and its visit leaves the next one gray.
use mathlib.Core.Path.{refl}
use native.Mathlib.Omega.{arith}
use Rattle.scanning.proofs.Marks.{at}
use Rattle.scanning.proofs.Chains.{follows_on}
use Rattle.scanning.proofs.Marker.follow_left.Goals as goal

pub overflow_sub-limit : goal.overflow_sub-limit
overflow_sub-limit c =
    let g = at _ _ _ _ _ c.requires.follows.leads.valid.passes in
    omega (arith, g.sizes, c.requires.one_gray.room)

pub bounds-self-q : goal.bounds-self-q
bounds-self-q c =
    let v = c.loop-q.invariant.leads.valid in
    let g = at _ _ _ _ _ v.passes in omega (arith, g.sizes, v.grayed)

pub bounds-self-q-then-q-limit : goal.bounds-self-q-then-q-limit
bounds-self-q-then-q-limit c =
    let v = c.loop-q.invariant.leads.valid in
    let g = at _ _ _ _ _ v.passes in omega (arith, g.sizes, v.grayed)

pub bounds-self-q-in-loop-q : goal.bounds-self-q-in-loop-q
bounds-self-q-in-loop-q c =
    let v = c.loop-q.invariant.leads.valid in
    let g = at _ _ _ _ _ v.passes in omega (arith, g.sizes, v.grayed)

pub beyond-requires-clause-i_lt_m : goal.beyond-requires-clause-i_lt_m
beyond-requires-clause-i_lt_m c =
    let v = c.loop-q.invariant.leads.valid in
    let g = at _ _ _ _ _ v.passes in omega (arith, g.sizes, c.loop-q.invariant.last)

pub beyond-requires-clause-m_le_most_nodes : goal.beyond-requires-clause-m_le_most_nodes
beyond-requires-clause-m_le_most_nodes c =
    let v = c.loop-q.invariant.leads.valid in
    let g = at _ _ _ _ _ v.passes in omega (arith, g.sizes)

pub loop-q-preserved : goal.loop-q-preserved
loop-q-preserved c =
    let i = c.loop-q.invariant in
    let v = i.leads.valid in
    let g = at _ _ _ _ _ v.passes in
    let n = g.sizes.colours in
    let o = c.requires.one_gray.room in
    let beyond = c.beyond.ensures in
    let w = c.can_follow.ensures c.if-can_follow.true in
    follows_on _ _ _ _ _ _ _ _ i c.args.self.room _ beyond.1.0
    (λ h. let z = beyond.1.1 h in omega arith) (omega arith) _ _ (omega arith)
    (rw n at w) (rw c.from-n.ensures at c.pass_on.ensures) refl c.from-n.ensures refl refl
