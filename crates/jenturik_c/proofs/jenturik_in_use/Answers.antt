-- Words that are no record's are refused with 2. Else In use over the record that the words are is
-- the face's; the state stays, so that the words are the record's still.
use Rattle.jenturik_c.proofs.Faces.{spurned}
use Rattle.jenturik_c.proofs.Kept.{asked}
use Rattle.jenturik_c.proofs.jenturik_in_use.Goals as goal

pub returns-in_default : goal.returns-in_default
returns-in_default c = record {
  words_value = spurned _ _ _ _ c.in_default.ensures.none _ _ c.refused.ensures.result_value;
  changed_value = c.refused.ensures.changed_value;
}

pub returns : goal.returns
returns c =
    let x = c.in-Some.ensures.some in
    record {
      words_value =
          asked _ _ _ _ x.0 _ _ _ _ x.1 c.in_use.ensures c.tell.ensures.result_value;
      changed_value = c.tell.ensures.changed_value;
    }
