-- `idle_looks` meets its contract in each of its cases: the first look stops; no colour stops one;
-- only the node made gray last does, and the looks end there; or the colours are read, up to the
-- table's end.
use native.Mathlib.Omega.{arith}
use Rattle.skim.proofs.NoStops.{cut, straight, everywhere, towards}
use Rattle.scanning.proofs.Marks.{gray_stop}
use Rattle.scanning.proofs.idle_looks.Goals as goal

pub returns-then-s-eq0 : goal.returns-then-s-eq0
returns-then-s-eq0 c = (omega arith, everywhere _ _ _ _ (omega arith) (omega arith))

pub returns-then-colour-t-eq-GRAY : goal.returns-then-colour-t-eq-GRAY
returns-then-colour-t-eq-GRAY c = (
  omega arith,
  cut _ _ _ _ _ (omega arith)
      (towards _ _ _ _ _ (omega arith) (omega arith) (omega arith) (omega arith)
      (gray_stop _ c.if-colour-t-eq-GRAY.true) c.gap.ensures.0
      c.gap.ensures.1),
)

pub returns : goal.returns
returns c = (omega arith, straight _ _ _ _ c.until_stop.ensures.1 (omega arith))
