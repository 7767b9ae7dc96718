-- `stop` meets its contract: white and black are the definition's two tests.
use native.Mathlib.Omega.{arith}
use borrow.Author.Rules.{rules}
use Rattle.base.proofs.Tests.{tests}
use Rattle.skim.proofs.Counts.{passed, stopped}
use Rattle.skim.proofs.stop.Goals as goal

pub returns-in-0 : goal.returns-in-0
returns-in-0 c = (omega arith, passed _ c.in-0.is)

pub returns-in_default : goal.returns-in_default
returns-in_default c = (omega arith, search (stopped, tests, rules))
