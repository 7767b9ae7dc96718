-- Each return is a case of the definition.
use native.Mathlib.Omega.{arith}
use mathlib.Core.Path.{refl}
use Rattle.base.specs.Choice.{pick}
use Rattle.base.proofs.Tests.{tests}
use Rattle.jenturik_text.specs.Words.{stage_of}
use Rattle.jenturik_text.proofs.stage_of.Goals as goal

pub returns-in-0 : goal.returns-in-0
unfolding stage_of pick
returns-in-0 c = rw c.in-0.is refl

pub returns-in-1 : goal.returns-in-1
unfolding stage_of pick
returns-in-1 c = rw c.in-1.is refl

pub returns-in-2 : goal.returns-in-2
unfolding stage_of pick
returns-in-2 c = rw c.in-2.is refl

pub returns-in-3 : goal.returns-in-3
unfolding stage_of pick
returns-in-3 c = rw c.in-3.is refl

pub returns-in-4 : goal.returns-in-4
unfolding stage_of pick
returns-in-4 c = rw c.in-4.is refl

pub returns-in_default : goal.returns-in_default
unfolding stage_of
returns-in_default c = grind (arith, tests)
