-- `put_step` meets its contract: the words that are not stored are the same in both records.
use native.Mathlib.Omega.{arith}
use mathlib.Core.Path.{◌∙◌}
use Rattle.rules.proofs.Phases.{tag_most}
use Rattle.record_words.proofs.Widths.{words_are, owes_most}
use Rattle.record_words.proofs.RoundTrip.{step_stored, owed_most}
use Rattle.record_words.proofs.put_step.Goals as goal

pub returns : goal.returns
returns c =
    let x = c.args.x in
    let r = c.requires in
    let both = words_are x _
    (c.put_moved.ensures.words_value
    ∙ step_stored _ r.true_value x r.m_value r.r_value r.owed_value)
    (omega (
      arith,
      tag_most x.phase,
      owes_most x.owed,
      owed_most _ r.true_value x r.owed_value,
    )) in
    record { words_value = both.0; true_value_2 = both.1 }
