-- Each turn puts one byte, so the bytes that are left, put behind those that are there, make the
-- same output as all of them at first.
use mathlib.Core.Path.{refl, sym, ◌∙◌}
use Rattle.text.proofs.Outputs.{put_turn, put_done}
use Rattle.text.proofs.put_part.Goals as goal

pub loop-k-init : goal.loop-k-init
loop-k-init c = refl

pub loop-k-preserved : goal.loop-k-preserved
loop-k-preserved c =
    c.loop-k.invariant
    ∙ rw (
      put_turn _ _ _ c.loop-k-test.true,
      c.put-at.ensures,
    )

pub returns : goal.returns
returns c = sym (c.loop-k.invariant ∙ sym (put_done _ _ _ c.loop-k-test.false))
