-- The phase is the record's, so its step is the collector's: its contract is the face's. A refused
-- step leaves the record, whose words are those that stand there; else they are written.
use mathlib.Core.Path.{ap, ◌∙◌}
use Rattle.rules.specs.Collector.{phase_step}
use Rattle.rules.specs.Steps.{collecting}
use Rattle.rules.proofs.Checked.{good, inside}
use Rattle.calls.proofs.Named.{collected}
use Rattle.jenturik_c.proofs.Changed.{step_moves}
use Rattle.jenturik_c.proofs.Faces.{faces, faces_count}
use Rattle.jenturik_c.proofs.One.{refused_words}
use Rattle.jenturik_c.proofs.in_phase.Goals as goal

pub phase_step-made-requires : goal.phase_step-made-requires
phase_step-made-requires c =
    let given = c.requires in
    record {
      checked = good _ _ _ _ given.passing.code;
      in_range = rw given.phase_value (inside _ _ _ given.passing.code);
    }

pub returns-then-code-ne0 : goal.returns-then-code-ne0
returns-then-code-ne0 c =
    let given = c.requires in
    let done = c.phase_step-made.ensures in
    let made = collected c.phase_step-made.result _ _ _ _ given.passing.code
    (done.colour_value ∙ ap (phase_step _) given.phase_value) done.changed_value in
    let same = refused_words _ _ _ _ _ _ _ _ collecting c.phase_step-made.result
    given.passing.words given.passing.rec made.colour_value
    (λ z. c.if-code-ne0.true (c.code.ensures ∙ z)) in
    record {
      words_value =
          faces _ _ _ _ _ _ _ _ _ given.passing.words given.passing.rec _ c.phase_step-made.result
          _ made.colour_value same c.tell.ensures.result_value;
      true_value = given.passing.words;
      changed_value =
          faces_count _ _ _ _ _ given.passing.words given.passing.rec _ _
          (c.tell.ensures.changed_value ∙ made.changed_value);
      narrow = c.tell.ensures.narrow;
    }

pub put_step-requires : goal.put_step-requires
put_step-requires c =
    let given = c.requires in
    let done = c.phase_step-made.ensures in
    let made = collected c.phase_step-made.result _ _ _ _ given.passing.code
    (done.colour_value ∙ ap (phase_step _) given.phase_value) done.changed_value in
    let moves = step_moves _ _ _ _ c.phase_step-made.result _ made.colour_value
    given.passing.rec in
    record {
      true_value = given.passing.words;
      m_value = moves.m;
      r_value = moves.r;
      owed_value = moves.owed;
    }

pub returns : goal.returns
returns c =
    let given = c.requires in
    let done = c.phase_step-made.ensures in
    let made = collected c.phase_step-made.result _ _ _ _ given.passing.code
    (done.colour_value ∙ ap (phase_step _) given.phase_value) done.changed_value in
    record {
      words_value =
          faces _ _ _ _ _ _ _ _ _ given.passing.words given.passing.rec _ c.phase_step-made.result
          _ made.colour_value c.put_step.ensures.words_value c.tell-2.ensures.result_value;
      true_value = c.put_step.ensures.true_value_2;
      changed_value =
          faces_count _ _ _ _ _ given.passing.words given.passing.rec _ _
          (c.tell-2.ensures.changed_value ∙ made.changed_value);
      narrow = c.tell-2.ensures.narrow;
    }
