-- `until_white` meets its contract: before each turn all colours are the first n, which are not
-- white, and those behind them.
use native.Mathlib.Omega.{arith}
use Rattle.freed.proofs.Colours.{dark_start, dark_on}
use Rattle.freed.proofs.until_white.Goals as goal

pub loop-n-init : goal.loop-n-init
loop-n-init c = dark_start _ _ _

pub returns-then-colour-i-eq0 : goal.returns-then-colour-i-eq0
returns-then-colour-i-eq0 c = (omega arith, omega arith)

pub loop-n-preserved : goal.loop-n-preserved
loop-n-preserved c =
    dark_on _ _ _ _ _ (omega arith) c.if-colour-i-eq0.false c.loop-n.invariant

pub returns : goal.returns
returns c = (omega arith, omega arith)
