-- Words that do not pass are answered by `refused`. Else the block is answered over the session
-- that the words are, and what it leaves has its widths.
use mathlib.Core.Path.{refl}
use Rattle.jenturik_text.proofs.Turns.{spurns, fits_after, turns_so}
use Rattle.jenturik_text.proofs.jenturik_turn.Goals as goal

pub returns-in-Err : goal.returns-in-Err
returns-in-Err c =
    let code = c.in-Err.ensures.err in
    record {
      out_value = spurns _ _ _ _ _ _ _ _ _ _ _ code.0 code.1 c.refused.ensures;
      stays = λ h. h;
    }

pub words_of-requires : goal.words_of-requires
words_of-requires c =
    let a = c.args in
    let s = c.in-Ok.ensures.ok in
    fits_after _ a.left.now a.right.now a.colour.now a.lefts.now
    a.rights.now a.line.now a.out.now a.input.now _ _ _ _ _ _ _ _ _ _
    s.1 refl s.0 c.turn-s.ensures

pub returns : goal.returns
returns c =
    let s = c.in-Ok.ensures.ok in
    record {
      out_value = turns_so _ _ _ _ _ _ _ _ _ _ _ _ _ _ _ _ _ _ _ s.1 refl s.0 c.turn-s.ensures
          _ _ c.words_of.ensures.value c.told.ensures;
      stays = λ h. c.words_of.ensures.true_value;
    }
