-- `depart` says where the source is, or why there is none: the two answers are the two cases of the
-- definition. A source that is found lies in the table, which is what `link_to` asks.
use native.Mathlib.Omega.{arith}
use Rattle.places.proofs.Arrivals.{departs, absent, found_below}
use Rattle.editor.proofs.link_from.Goals as goal

pub link_to-requires : goal.link_to-requires
link_to-requires c =
    let n =
    found_below _ _ _ _ _ _ _ _ c.depart.ensures c.in-Ok.is
    (omega (arith, c.requires)) in
    omega (arith, c.requires)

pub returns-in-Ok : goal.returns-in-Ok
returns-in-Ok c =
    record {
      by_index = λ k. departs _ _ _ _ _ _ c.depart.ensures c.in-Ok.is
          (c.link_to.ensures.by_index k);
      changed_value = c.link_to.ensures.changed_value;
    }

pub returns-in-Err : goal.returns-in-Err
returns-in-Err c =
    record {
      by_index = λ k. rw c.refusal_with.ensures
          (absent _ _ _ _ _ c.depart.ensures c.in-Err.is);
      changed_value = rw c.refusal_with.ensures;
    }
