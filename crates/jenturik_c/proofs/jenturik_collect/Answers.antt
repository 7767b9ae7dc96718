-- Words that do not pass refuse the call. Else `any_phase` makes the step.
use Rattle.jenturik_c.proofs.Judges.{refuses, refuses_count, collect_refuses}
use Rattle.jenturik_c.proofs.jenturik_collect.Goals as goal

pub returns-in-Err : goal.returns-in-Err
returns-in-Err c =
    let barred = c.in-Err.ensures.err in
    record {
      words_value = refuses _ _ _ _ _ barred _ collect_refuses _ c.refused.ensures.result_value;
      stays = λ h. h;
      changed_value =
          refuses_count _ _ _ _ _ barred _ collect_refuses _ c.refused.ensures.changed_value;
    }

pub returns : goal.returns
returns c =
    let done = c.any_phase.ensures in
    record {
      words_value = done.words_value;
      stays = λ h. done.true_value;
      changed_value = done.changed_value;
    }
