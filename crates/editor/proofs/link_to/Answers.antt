-- The walk's contract says where the target is. It lies in the table; the edge written and the
-- record that owes are the definition's.
use mathlib.Core.Path.{refl}
use Rattle.rules.specs.Editor.{link_to}
use Rattle.places.proofs.Arrivals.{arrives, stops, leaves}
use Rattle.editor.proofs.link_to.Goals as goal

pub returns-in-Ok : goal.returns-in-Ok
unfolding link_to
returns-in-Ok c =
    record {
      by_index = λ k. arrives _ _ _ _ _ _ c.walk.ensures c.in-Ok.is
          (leaves _ c.args.x _ _ _ _ _ _
          (c.set_edge.ensures k c.args.x)
          c.owing.ensures);
      changed_value = refl;
    }

pub returns-in-Err : goal.returns-in-Err
unfolding link_to
returns-in-Err c =
    record {
      by_index = λ k. rw c.refusal_with.ensures
          (stops _ _ _ _ _ c.walk.ensures c.in-Err.is);
      changed_value = rw c.refusal_with.ensures;
    }
