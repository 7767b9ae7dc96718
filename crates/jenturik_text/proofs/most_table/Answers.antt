-- Each return is a case of the definition.
use native.Mathlib.Omega.{arith}
use Rattle.base.proofs.Tests.{tests}
use Rattle.jenturik_text.specs.Words.{most_table}
use Rattle.jenturik_text.proofs.most_table.Goals as goal

pub returns-in-0 : goal.returns-in-0
unfolding most_table
returns-in-0 c = grind (arith, tests)

pub returns-in_default : goal.returns-in_default
unfolding most_table
returns-in_default c = grind (arith, tests)
