-- `visit` meets its contract: an edge to NIL and a bad one lead nowhere. The mark of any other node
-- says whether it has a number; what is written behind the queue's end is no part of it.
use mathlib.Core.Path.{ap, refl, sym, ◌∙◌}
use native.Mathlib.Omega.{arith}
use Rattle.base.proofs.Tests.{pick_yes, pick_no}
use Rattle.rules.specs.Meet.{num_of}
use Rattle.std.specs.Prelude.{Some}
use Rattle.reach.proofs.Counts.{one_le}
use Rattle.reach.proofs.Kept.{not_bad}
use Rattle.meet.proofs.Shows.{nil_visit, bad_visit, node_good, shown_visit}
use Rattle.meet.proofs.visit.Goals as goal

pub returns-then-e-eq0 : goal.returns-then-e-eq0
returns-then-e-eq0 c = record {
  tail_bound = omega arith;
  hurt_value = pick_no _ _ _ _ (node_good _ _ (omega arith) (omega arith)) refl;
  shown = λ s v. rw (nil_visit _ _ s c.if-e-eq0.true) v;
}

pub returns-then-bad_edge : goal.returns-then-bad_edge
returns-then-bad_edge c =
    let bad = sym c.if-bad_edge.true ∙ c.bad_edge.ensures in
    record {
      tail_bound = omega arith;
      hurt_value = pick_yes _ _ _ _ bad (ap Some c.lowest.ensures);
      shown = λ s v. rw (bad_visit _ _ s bad) v;
    }

pub bounds-marks-at : goal.bounds-marks-at
bounds-marks-at c =
    let good = sym c.if-bad_edge.false ∙ c.bad_edge.ensures in
    omega (arith, not_bad _ _ (sym good))

pub bounds-marks-at-2 : goal.bounds-marks-at-2
bounds-marks-at-2 c =
    let good = sym c.if-bad_edge.false ∙ c.bad_edge.ensures in
    omega (arith, not_bad _ _ (sym good))

pub overflow_sub-tail : goal.overflow_sub-tail
overflow_sub-tail c =
    let w = c.requires.shows in
    let e = c.from-at.result in
    omega (arith, w.shown.mark e, one_le (num_of w.some e))

pub returns : goal.returns
returns c =
    let good = sym c.if-bad_edge.false ∙ c.bad_edge.ensures in
    let some = c.if-e-eq0.false in
    record {
      tail_bound = omega arith;
      hurt_value = pick_no _ _ _ _ good refl;
      shown = λ s v. rw (c.from.ensures, c.from-at.ensures) (shown_visit v _ good some
          (omega (arith, not_bad _ _ (sym good))) (omega arith));
    }
