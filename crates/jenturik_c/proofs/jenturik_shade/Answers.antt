-- Words that do not pass refuse the call. Else the step is made over the record that the words are:
-- its contract is the face's, and the record's words are written back.
use mathlib.Core.Path.{refl, ◌∙◌}
use Rattle.jenturik_c.proofs.Faces.{faces, faces_count}
use Rattle.jenturik_c.proofs.Changed.{shade_owed_lem}
use Rattle.jenturik_c.proofs.Judges.{refuses, refuses_count, shade_refuses}
use Rattle.jenturik_c.proofs.jenturik_shade.Goals as goal

pub returns-in-Err : goal.returns-in-Err
returns-in-Err c =
    let barred = c.in-Err.ensures.err in
    record {
      words_value =
          refuses _ _ _ _ _ barred _ shade_refuses _ c.refused.ensures.result_value;
      stays = λ h. h;
      changed_value =
          refuses_count _ _ _ _ _ barred _ shade_refuses _ c.refused.ensures.changed_value;
    }

pub put_owed-requires : goal.put_owed-requires
put_owed-requires c =
    let x = c.in-Ok.ensures.ok in
    let made = c.shade_passed-made in
    record {
      true_value = x.words;
      x_value = shade_owed_lem _ _ x.rec _ _ _ made.result _ refl made.ensures.colour_value;
    }

pub returns : goal.returns
returns c =
    let x = c.in-Ok.ensures.ok in
    let done = c.shade_passed-made.ensures in
    record {
      words_value =
          faces _ _ _ _ _ _ _ _ _ x.words x.rec _ c.shade_passed-made.result _ done.colour_value
          c.put_owed.ensures.words_value c.tell.ensures.result_value;
      stays = λ h. c.put_owed.ensures.true_value_2;
      changed_value =
          faces_count _ _ _ _ _ x.words x.rec _ _
          (c.tell.ensures.changed_value ∙ done.changed_value);
    }
