-- The library strips the word where its bytes are the line's first.
use Rattle.text.proofs.Lines.{stripped}
use Rattle.text.proofs.after.Goals as goal

pub returns : goal.returns
returns c = stripped _ _ _ c.strip_prefix.ensures.cases
