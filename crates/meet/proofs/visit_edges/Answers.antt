-- `visit_edges` meets its contract: the left edge is visited, then the right one.
use native.Mathlib.Omega.{arith}
use Rattle.rules.specs.Meet.{visit_edges, any_edge}
use Rattle.meet.proofs.Hurts.{hurt_both}
use Rattle.meet.proofs.visit_edges.Goals as goal

pub visit-once-requires-clause-shows : goal.visit-once-requires-clause-shows
visit-once-requires-clause-shows c = c.requires.shows

pub visit-requires : goal.visit-requires
visit-requires c =
    let w = c.requires.shows in
    let e = c.visit-once.ensures in
    record {
      le_m = omega arith;
      m_in_bounds = omega arith;
      tail_in_bounds = omega (arith, e.tail_bound);
      shows = record { some = _; shown = e.shown w.some w.shown };
    }

pub returns : goal.returns
unfolding visit_edges any_edge
returns c =
    let e = c.visit-once.ensures in
    let f = c.visit.ensures in
    record {
      tail_bound = omega (arith, e.tail_bound, f.tail_bound);
      hurt_value = hurt_both _ _ _ _ _ _ (rw c.from-at.ensures at e.hurt_value)
          (rw c.from-at.ensures at f.hurt_value);
      shown = λ s v. (simp c.from-at.ensures at f.shown) _ ((simp c.from-at.ensures at e.shown) s v);
    }
