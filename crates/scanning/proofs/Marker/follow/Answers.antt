-- `follow` meets its contract: a chain begins where the node made gray last is the only one. The
-- place that it was followed to is the position that is answered.
use mathlib.Core.Path.{refl}
use native.Mathlib.Omega.{arith}
use Rattle.scanning.proofs.Marks.{at}
use Rattle.scanning.proofs.Chains.{begins_chain}
use Rattle.scanning.proofs.Marker.follow.Goals as goal

pub before-requires : goal.before-requires
before-requires c = let h = at _ _ _ _ _ c.requires.passes in omega (arith, h.sizes)

pub follow_left-q-requires-clause-follows : goal.follow_left-q-requires-clause-follows
follow_left-q-requires-clause-follows c =
    let h = at _ _ _ _ _ c.requires.passes in
    begins_chain _ _ _ _ _ _ _ c.requires c.args.self.room
    (c.one_gray.ensures c.if-not-one_gray.false) (rw h.sizes.colours at c.before-2.ensures.0)
    c.before-2.ensures.1 refl refl refl

pub around-requires : goal.around-requires
around-requires c = let f = c.follow_left-q.ensures in
    let v = f.leads.valid in
    let g = at _ _ _ _ _ v.passes in
    let last = f.last in
    let low = f.low in
    omega arith

pub returns : goal.returns
returns c =
    let h = at _ _ _ _ _ c.requires.passes in
    rw (c.around.ensures, h.sizes.colours) c.follow_left-q.ensures.leads
