-- Where words are left over, the definition asks for what `unreadable` answers; else it is the
-- schedule that `follow` makes.
use mathlib.Core.Path.{refl}
use Rattle.base.proofs.Tests.{pick_yes, pick_no, eq_yes, eq_no}
use Rattle.calls.specs.Unreadable.{unreadable}
use Rattle.jenturik_c.specs.Flat.{schedule_of, changes_of}
use Rattle.jenturik_c.proofs.schedule_of.Goals as goal

pub returns-then-steps-ne0 : goal.returns-then-steps-ne0
unfolding schedule_of changes_of unreadable
returns-then-steps-ne0 c =
    let left = eq_no _ _ c.if-steps-ne0.true in
    record {
      colour_value = pick_no _ _ _ _ left (rw c.unreadable.ensures);
      changed_value = pick_no _ _ _ _ left refl;
    }

pub returns : goal.returns
unfolding schedule_of changes_of unreadable
returns c =
    let whole = eq_yes _ _ c.if-steps-ne0.false in
    record {
      colour_value = pick_yes _ _ _ _ whole c.follow.ensures.colour_value;
      changed_value = pick_yes _ _ _ _ whole c.follow.ensures.changed_value;
    }
