-- `keep` meets its contract: an entry that the list has not is not set.
use mathlib.Core.Path.{sym}
use lib.Seq.{set_out}
use Rattle.export.proofs.keep.Goals as goal

pub returns-else-n-list : goal.returns-else-n-list
returns-else-n-list c = sym (set_out _ _ _ c.if-n-list.false)
