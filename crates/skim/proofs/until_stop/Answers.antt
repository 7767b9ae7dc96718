-- `until_stop` meets its contract: what is told of the part from i on is told of the colours.
use Rattle.skim.proofs.Counts.{part_passed}
use Rattle.skim.proofs.until_stop.Goals as goal

pub returns-then-most-lt-BLOCK : goal.returns-then-most-lt-BLOCK
returns-then-most-lt-BLOCK c = part_passed _ c.args.i _ _ c.until_stop_by_ones.ensures

pub returns-else-most-lt-BLOCK : goal.returns-else-most-lt-BLOCK
returns-else-most-lt-BLOCK c = part_passed _ c.args.i _ _ c.until_stop_by_blocks.ensures
