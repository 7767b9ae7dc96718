-- `dark` meets its contract: no more colours are looked at than there are before the end.
use native.Mathlib.Omega.{arith}
use Rattle.freed.proofs.Colours.{dark_within}
use Rattle.freed.proofs.dark.Goals as goal

pub returns : goal.returns
returns c =
    let looked = c.until_white.ensures in
    (omega arith, dark_within _ _ _ _ _ looked.1 (omega arith))
