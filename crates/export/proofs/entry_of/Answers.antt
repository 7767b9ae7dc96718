-- `entry_of` meets its contract: the part of the line that is lent is its first bytes.
use Rattle.std.proofs.lemmas.List.{take_min}
use Rattle.export.proofs.entry_of.Goals as goal

pub returns : goal.returns
returns c =
    rw (c.min-end.ensures, take_min) at c.entry.ensures
