-- `turn` meets its contract: the batch makes the steps, of which all but the last append
-- nothing.
use Rattle.freed.proofs.Gathers.{turn_of}
use Rattle.freed.proofs.turn.Goals as goal

pub returns : goal.returns
returns c =
    let many = c.collect_many.ensures in
    let far = c.far-before.ensures in
    turn_of _ _ _ _ _ _ _ far.0 far.1 c.requires many.colour_value.0 many.colour_value.1
    many.changed_value
