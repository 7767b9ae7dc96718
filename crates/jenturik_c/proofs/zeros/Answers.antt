-- Each word that is read is what one test of the definition asks for.
use native.Mathlib.Omega.{arith}
use Rattle.base.specs.Choice.{every, pick}
use Rattle.base.proofs.Tests.{tests}
use Rattle.jenturik_c.specs.Flat.{zeros}
use Rattle.jenturik_c.proofs.zeros.Goals as goal

pub returns-then-step-eq0-3 : goal.returns-then-step-eq0-3
unfolding zeros every pick
returns-then-step-eq0-3 c = grind (arith, tests)

pub returns-else-step-eq0-3 : goal.returns-else-step-eq0-3
unfolding zeros every pick
returns-else-step-eq0-3 c = grind (arith, tests)
