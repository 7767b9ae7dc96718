-- Words that do not pass refuse the call. Else the contract of Look over the record that the words
-- are is the face's; it leaves the state, so that the words are the record's still.
use mathlib.Core.Path.{◌∙◌}
use Rattle.jenturik_c.proofs.Faces.{faces_count}
use Rattle.jenturik_c.proofs.Kept.{looked}
use Rattle.jenturik_c.proofs.Judges.{refuses, refuses_count, look_refuses}
use Rattle.jenturik_c.proofs.jenturik_look.Goals as goal

pub returns-in-Err : goal.returns-in-Err
returns-in-Err c =
    let barred = c.in-Err.ensures.err in
    record {
      words_value =
          refuses _ _ _ _ _ barred _ (look_refuses _) _ c.refused.ensures.result_value;
      changed_value =
          refuses_count _ _ _ _ _ barred _ (look_refuses _) _ c.refused.ensures.changed_value;
    }

pub returns : goal.returns
returns c =
    let x = c.in-Ok.ensures.ok in
    let done = c.look_passed-made.ensures in
    record {
      words_value =
          looked _ _ _ _ x.words _ c.look_passed-made.result _ _ x.rec done.colour_value
          c.tell.ensures.result_value;
      changed_value =
          faces_count _ _ _ _ _ x.words x.rec _ _
          (c.tell.ensures.changed_value ∙ done.changed_value);
    }
