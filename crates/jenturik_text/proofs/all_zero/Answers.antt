-- Each word is tested as the definition does.
use native.Mathlib.Omega.{arith}
use Rattle.base.specs.Choice.{every, pick}
use Rattle.base.proofs.Tests.{tests}
use Rattle.jenturik_text.specs.Words.{all_zero}
use Rattle.jenturik_text.proofs.all_zero.Goals as goal

pub returns-then-w-eq0-3 : goal.returns-then-w-eq0-3
unfolding all_zero every pick
returns-then-w-eq0-3 c = grind (arith, tests)

pub returns-else-w-eq0-3 : goal.returns-else-w-eq0-3
unfolding all_zero every pick
returns-else-w-eq0-3 c = grind (arith, tests)
