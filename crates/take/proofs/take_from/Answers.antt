-- `depart` says where the source is, or why there is none: the two answers are the two cases of the
-- definition. A source that is found lies in the table, which is what `take_first` asks.
use native.Mathlib.Omega.{arith}
use Rattle.rules.specs.Table.{edge_of}
use Rattle.rules.proofs.Changes.{unchanged}
use Rattle.places.proofs.Arrivals.{departs, absent, found_below}
use Rattle.take.proofs.take_from.Goals as goal

pub take_first-requires : goal.take_first-requires
take_first-requires c =
    let n =
    found_below _ _ _ _ _ _ _ _ c.depart.ensures c.in-Ok.is
    (omega (arith, c.requires)) in
    omega (arith, c.requires)

pub returns-in-Ok : goal.returns-in-Ok
unfolding edge_of
returns-in-Ok c =
    record {
      colour_value = departs _ _ _ _ _ _ c.depart.ensures c.in-Ok.is
          c.take_first.ensures.colour_value;
      changed_value = c.take_first.ensures.changed_value;
    }

pub returns-in-Err : goal.returns-in-Err
returns-in-Err c =
    record {
      colour_value = rw c.refusal_with.ensures
          (absent _ _ _ _ _ c.depart.ensures c.in-Err.is);
      changed_value = rw c.refusal_with.ensures (unchanged _);
    }
