-- The tests of the code are those of the widths.
use native.Mathlib.Omega.{arith}
use Rattle.base.specs.Choice.{every, pick}
use Rattle.base.proofs.Tests.{tests}
use Rattle.record_words.proofs.Widths.{tests_are}
use Rattle.record_words.proofs.within.Goals as goal

pub returns-then-narrow-le65535 : goal.returns-then-narrow-le65535
unfolding every pick
returns-then-narrow-le65535 c = rw (← tests_are c.args.w.now c.fits-w) (grind (arith, tests))

pub returns-else-narrow-le65535 : goal.returns-else-narrow-le65535
unfolding every pick
returns-else-narrow-le65535 c = rw (← tests_are c.args.w.now c.fits-w) (grind (arith, tests))
