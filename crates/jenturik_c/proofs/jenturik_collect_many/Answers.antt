-- Words that do not pass refuse the call. If n is 1, what one step tells is what many tell. Else
-- the batch is made over the record that the words are: its facts are the face's, and the record's
-- words are written back.
use mathlib.Core.Path.{ap, ◌∙◌}
use native.Mathlib.Omega.{arith}
use Rattle.rules.proofs.Checked.{good}
use Rattle.batch.proofs.Last.{scheduled}
use Rattle.jenturik_c.specs.Face.{fitted}
use Rattle.jenturik_c.proofs.Faces.{faces_run, faces_count, faces_last, packs}
use Rattle.jenturik_c.proofs.Changed.{many_moves}
use Rattle.jenturik_c.proofs.Judges.{small, refuses_run, refuses_last}
use Rattle.jenturik_c.proofs.Judges.{refuses_sum}
use Rattle.jenturik_c.proofs.One.{one_small, one_shown, one_count}
use Rattle.jenturik_c.proofs.jenturik_collect_many.Goals as goal

pub packed-requires : goal.packed-requires
packed-requires c = record {
  code_bound = small _ _ _ _ _ c.in-Err.ensures.err.told;
  detail_bound = omega arith;
}

pub returns-in-Err : goal.returns-in-Err
returns-in-Err c =
    let barred = c.in-Err.ensures.err in
    let byte = c.packed.ensures in
    record {
      words_value = rw (byte.result_value, byte.result_value_2) (refuses_run _ _ _ _ _ barred _);
      result_value = rw (byte.result_value, byte.result_value_2) (refuses_last _ _ _ _ _ barred _);
      stays = λ h. h;
      changed_value = refuses_sum _ _ _ _ _ barred _;
    }

pub last_of-requires : goal.last_of-requires
last_of-requires c =
    let x = c.in-Ok.ensures.ok in
    let done = c.any_phase.ensures in
    let low = one_small _ _ _ _ _ x _ _ _ _ _ done.words_value in
    record { narrow = done.narrow; code_bound = low.0; detail_bound = low.1 }

pub returns-then-n-eq1 : goal.returns-then-n-eq1
returns-then-n-eq1 c =
    let x = c.in-Ok.ensures.ok in
    let done = c.any_phase.ensures in
    let last = c.last_of.ensures in
    let one = one_shown _ _ _ _ _ x _ _ _ _ _ done.words_value c.last_of.result
    last.result_value last.done_value in
    rw c.if-n-eq1.true record {
      words_value = one.0;
      result_value = one.1;
      stays = λ h. done.true_value;
      changed_value =
          one_count _ _ _ _ _ x _ (last.changed_value ∙ done.changed_value);
    }

pub bound-requires : goal.bound-requires
bound-requires c = let g = good _ _ _ _ c.in-Ok.ensures.ok.code in omega arith

pub all_steps-many-requires : goal.all_steps-many-requires
all_steps-many-requires c = record {
  passes = record { code = c.in-Ok.ensures.ok.code };
  b_value = c.bound.ensures;
}

pub put_step-requires : goal.put_step-requires
put_step-requires c =
    let x = c.in-Ok.ensures.ok in
    let many = scheduled _ _ _ _ _ (record { code = x.code }) c.all_steps-many.ensures.rec_value in
    let moves = many_moves _ _ _ _ _ _ _ many.0 x.rec in
    record {
      true_value = x.words;
      m_value = moves.m;
      r_value = moves.r;
      owed_value = moves.owed;
    }

pub packed-requires-2 : goal.packed-requires-2
packed-requires-2 c =
    let code = c.in-Ok.ensures.ok.code in
    let many = scheduled _ _ _ _ _ (record { code = code }) c.all_steps-many.ensures.rec_value in
    let low = packs _ _ _ _ _ many.1 c.code.ensures c.detail.ensures in
    record { code_bound = low.0; detail_bound = low.1 }

pub returns : goal.returns
returns c =
    let x = c.in-Ok.ensures.ok in
    let done = c.all_steps-many.ensures in
    let many = scheduled _ _ _ _ _ (record { code = x.code }) done.rec_value in
    let written = c.put_step.ensures in
    let byte = c.packed-2.ensures in
    record {
      words_value =
          rw (byte.result_value, byte.result_value_2, c.code.ensures, c.detail.ensures)
          (faces_run _ _ _ _ _ _ _ _ _ x.words x.rec _ _ _ _ _ many.0 written.words_value);
      result_value =
          faces_last _ _ _ _ _ _ _ _ x.words x.rec many.1
          (rw (
            c.what.ensures,
            byte.result_value,
            byte.result_value_2,
            c.code.ensures,
            c.detail.ensures,
            c.node.ensures,
          ));
      stays = λ h. written.true_value_2;
      changed_value =
          faces_count _ _ _ _ _ x.words x.rec _ _ (c.fitted.ensures ∙ ap fitted done.changed_value);
    }
