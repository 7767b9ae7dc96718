-- Words that do not pass refuse the call. Else the count of the record that the words are is
-- answered; the state stays, so that the words are the record's still.
use mathlib.Core.Path.{refl, sym}
use Rattle.base.proofs.Tests.{pick_yes, eq_yes}
use Rattle.rules.specs.FreeCount.{free_count}
use Rattle.jenturik_c.proofs.Kept.{asked}
use Rattle.jenturik_c.proofs.Judges.{refuses, count_refuses}
use Rattle.jenturik_c.proofs.jenturik_free_count.Goals as goal

pub returns-in-Err : goal.returns-in-Err
returns-in-Err c = record {
  words_value =
      refuses _ _ _ _ _ c.in-Err.ensures.err _ count_refuses _ c.refused.ensures.result_value;
  changed_value = c.refused.ensures.changed_value;
}

pub returns : goal.returns
unfolding free_count
returns c =
    let x = c.in-Ok.ensures.ok in
    record {
      words_value =
          asked _ _ _ _ x.words free_count _ _ _ x.rec
          (pick_yes _ _ _ _ (eq_yes _ _ (sym x.code)) refl) c.tell.ensures.result_value;
      changed_value = c.tell.ensures.changed_value;
    }
