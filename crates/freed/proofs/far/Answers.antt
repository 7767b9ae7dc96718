-- `far` meets its contract: in Append the colours tell, and else the phase.
use native.Mathlib.Omega.{arith}
use Rattle.freed.proofs.Colours.{far_append}
use Rattle.freed.proofs.far.Goals as goal

pub returns-in-Append : goal.returns-in-Append
returns-in-Append c =
    let done = c.dark.ensures in (
      done.0,
      rw c.in-Append.is
          (rw c.from.ensures at (far_append _ _ c.args.x.m _ _ done.1 (omega arith))),
    )
