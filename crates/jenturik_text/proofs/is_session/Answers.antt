-- Each test of the definition is one call or comparison. The words are as many as the array's type
-- says.
use native.Mathlib.Omega.{arith}
use Rattle.base.specs.Choice.{every, pick}
use Rattle.base.proofs.Tests.{tests}
use Rattle.jenturik_text.specs.Words.{is_session}
use Rattle.jenturik_text.proofs.is_session.Goals as goal

pub returns-then-w-le81 : goal.returns-then-w-le81
unfolding is_session every pick
returns-then-w-le81 c = grind (arith, tests)

pub returns-else-w-le81 : goal.returns-else-w-le81
unfolding is_session every pick
returns-else-w-le81 c = grind (arith, tests)
