-- `feed` meets its contract: what the bytes from the next position on make of where the lines stand
-- is the same after each turn.
use mathlib.Core.Path.{refl, ◌∙◌}
use lib.ListN.{drop_of_length-le}
use native.Mathlib.Omega.{arith}
use Rattle.session.specs.Feeding.{fold}
use Rattle.serving.proofs.Turns.{line_gains, line_turn}
use Rattle.serving.proofs.feed.Goals as goal

pub loop-next-init : goal.loop-next-init
loop-next-init c = (refl, refl, refl, refl, refl, refl)

pub loop-next-smaller : goal.loop-next-smaller
loop-next-smaller c =
    let h = line_gains _ _ _ _ c.next_line-fed.ensures c.loop-next-test.true in
    omega arith

pub loop-next-preserved : goal.loop-next-preserved
loop-next-preserved c = (
  omega arith,
  omega arith,
  omega arith,
  omega arith,
  omega arith,
  c.loop-next.invariant.5
      ∙ line_turn _ _ _ _ c.next_line-fed.ensures,
)

pub returns : goal.returns
unfolding fold
returns c = rw (c.loop-next.invariant.5, drop_of_length-le _ c.loop-next-test.false)
