-- What is left of a session has its widths; the record's words are a record's.
use mathlib.Core.Path.{refl}
use Rattle.jenturik_text.proofs.Sessions.{words_are}
use Rattle.jenturik_text.proofs.words_of.Goals as goal

pub returns-clause-true_value : goal.returns-clause-true_value
returns-clause-true_value c =
    let rec = c.words_of.ensures in
    words_are c.args.s _ _ c.requires
    (rw (
      c.with_record-words.ensures,
      rec.value,
      c.tag.ensures,
      c.table.ensures,
      c.entry.ensures,
    ) refl)
    rec.value rec.true_value
