-- `put` meets its contract: each word in use is stored, and the others are 0 in a record's words.
use native.Mathlib.Omega.{arith}
use mathlib.Core.Path.{◌∙◌}
use Rattle.rules.proofs.Phases.{tag_most}
use Rattle.record_words.proofs.Widths.{words_are, owes_most}
use Rattle.record_words.proofs.RoundTrip.{all_put}
use Rattle.record_words.proofs.put.Goals as goal

pub returns : goal.returns
returns c =
    let x = c.args.x in
    let all = c.put_moved.ensures.words_value ∙ all_put _ _ _ c.requires x _ _
    (c.keep.ensures ∙ rw c.from.ensures) (c.keep-2.ensures ∙ rw c.from-2.ensures)
    c.owes.ensures (c.from-3.ensures ∙ c.owed.ensures) in
    let both = words_are x _ all (omega (arith, tag_most x.phase, owes_most x.owed)) in
    record { words_value = both.0; true_value = both.1 }
