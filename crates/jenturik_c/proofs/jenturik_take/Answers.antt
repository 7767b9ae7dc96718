-- Words that do not pass refuse the call. Else the step is made over the record that the words are:
-- its contract is the face's, and the record's words are written back.
use mathlib.Core.Path.{refl, ◌∙◌}
use Rattle.jenturik_c.proofs.Faces.{faces, faces_count}
use Rattle.jenturik_c.proofs.Changed.{take_free}
use Rattle.jenturik_c.proofs.Judges.{refuses, refuses_count, take_refuses}
use Rattle.jenturik_c.proofs.jenturik_take.Goals as goal

pub returns-in-Err : goal.returns-in-Err
returns-in-Err c =
    let barred = c.in-Err.ensures.err in
    record {
      words_value =
          refuses _ _ _ _ _ barred _ (take_refuses _ _) _ c.refused.ensures.result_value;
      stays = λ h. h;
      changed_value =
          refuses_count _ _ _ _ _ barred _ (take_refuses _ _) _ c.refused.ensures.changed_value;
    }

pub put_free-requires : goal.put_free-requires
put_free-requires c =
    let x = c.in-Ok.ensures.ok in
    let made = c.take_passed-made in
    record {
      true_value = x.words;
      x_value = take_free _ _ x.rec _ _ _ made.result _ refl _ _ made.ensures.colour_value;
    }

pub returns : goal.returns
returns c =
    let x = c.in-Ok.ensures.ok in
    let done = c.take_passed-made.ensures in
    record {
      words_value =
          faces _ _ _ _ _ _ _ _ _ x.words x.rec _ c.take_passed-made.result _ done.colour_value
          c.put_free.ensures.words_value c.tell.ensures.result_value;
      stays = λ h. c.put_free.ensures.true_value_2;
      changed_value =
          faces_count _ _ _ _ _ x.words x.rec _ _
          (c.tell.ensures.changed_value ∙ done.changed_value);
    }
