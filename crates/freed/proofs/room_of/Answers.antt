-- `room_of` meets its contract: a number that 16 bits hold, or the largest of these.
use native.Mathlib.Omega.{arith}
use Rattle.freed.proofs.Notes.{room_is}
use Rattle.freed.proofs.room_of.Goals as goal

pub returns : goal.returns
returns c = room_is c.args.n _ _ _ (omega arith) c.try_from.ensures c.unwrap_or.ensures
