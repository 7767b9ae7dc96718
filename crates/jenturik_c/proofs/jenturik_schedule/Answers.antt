-- Words that are no record's are refused with 2. Else the schedule is made over the record that the
-- words are: its contract is the face's, and the record's words are written back.
use mathlib.Core.Path.{refl, ap, ◌∙◌}
use Rattle.jenturik_c.proofs.Faces.{spurned_run, spurned_count, faces_run}
use Rattle.jenturik_c.proofs.Faces.{faces_count}
use Rattle.jenturik_c.specs.Face.{fitted}
use Rattle.jenturik_c.proofs.jenturik_schedule.Goals as goal

pub returns-in_default : goal.returns-in_default
returns-in_default c =
    let none = c.in_default.ensures.none in
    record {
      words_value = spurned_run _ _ _ _ none _;
      stays = λ h. h;
      changed_value = spurned_count _ _ _ _ none _ _ refl;
    }

pub put-requires : goal.put-requires
put-requires c = c.in-Some.ensures.some.0

pub returns : goal.returns
returns c =
    let x = c.in-Some.ensures.some in
    let done = c.schedule_of-ran.ensures in
    let written = c.put.ensures in
    record {
      words_value =
          rw (c.from.ensures, c.from-2.ensures) (faces_run _ _ _ _ _ _ _ _ _ x.0 x.1 _ _ _ _ _
          done.colour_value written.words_value);
      stays = λ h. written.true_value;
      changed_value =
          faces_count _ _ _ _ _ x.0 x.1 _ _ (c.fitted.ensures ∙ ap fitted done.changed_value);
    }
