-- `put_owed` meets its contract: the words that are not stored are the same in both records.
use native.Mathlib.Omega.{arith}
use mathlib.Core.Path.{◌∙◌}
use Rattle.record_words.proofs.RoundTrip.{owed_put}
use Rattle.record_words.proofs.put_owed.Goals as goal

pub returns : goal.returns
returns c =
    let r = c.requires in
    let both = owed_put _ r.true_value c.args.x r.x_value _ _ c.owes.ensures
    (c.from.ensures ∙ c.owed-node.ensures) (omega arith) in
    record { words_value = both.0; true_value_2 = both.1 }
