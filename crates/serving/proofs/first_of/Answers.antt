-- `first_of` meets its contract: the part of the line that is lent is its first n bytes, or all of
-- them.
use Rattle.std.proofs.lemmas.List.{take_min}
use Rattle.serving.proofs.first_of.Goals as goal

pub returns : goal.returns
returns c =
    rw (c.min-end.ensures, take_min) at c.first.ensures
