-- `meet` meets its contract: the slots' nodes, then the rest. A walk that comes to its end tells of
-- the whole numbering, and so does one that is taken up with a longer queue.
use native.Mathlib.Omega.{arith}
use Rattle.rules.specs.Meet.{meet}
use Rattle.meet.proofs.Hurts.{hurt_none, gone_told}
use Rattle.meet.proofs.meet.Goals as goal

pub visit_slots-requires-clause-by_index : goal.visit_slots-requires-clause-by_index
visit_slots-requires-clause-by_index c = c.requires.by_index

pub visit_rest-walk-requires-clause-going : goal.visit_rest-walk-requires-clause-going
visit_rest-walk-requires-clause-going c =
    let v = c.visit_slots.ensures in
    rw c.from.ensures record { some = _; shown = v; hurt = hurt_none _ v.kept }

pub returns-then-walk : goal.returns-then-walk
unfolding meet
returns-then-walk c =
    let v = c.visit_slots.ensures in
    gone_told (c.visit_rest-walk.ensures.gone _ (rw c.from.ensures v) (hurt_none _ v.kept))
    c.if-walk.true

pub visit_many-requires : goal.visit_many-requires
visit_many-requires c =
    let v = c.visit_slots.ensures in
    let e = c.visit_rest-walk.ensures in
    let g = e.gone _ (rw c.from.ensures v) (hurt_none _ v.kept) in
    record {
      m_in_bounds = omega (arith, c.requires);
      le_next = omega (arith, e.le_next);
      start_in_bounds = omega (arith, e.tail_in_bounds);
      going = record { some = g.at; shown = g.shown; hurt = g.hurt };
    }

pub returns : goal.returns
unfolding meet
returns c =
    let v = c.visit_slots.ensures in
    let g = c.visit_rest-walk.ensures.gone _ (rw c.from.ensures v) (hurt_none _ v.kept) in
    rw g.rest (c.visit_many.ensures g.at g.shown g.hurt)
