use Rattle.std.proofs.Common.{arith}
use Rattle.base.specs.Choice.{every, pick}
use Rattle.base.proofs.Tests.{tests}
use Rattle.record_words.specs.Words.{is_record}
use Rattle.record_words.proofs.is_record.Goals as goal

pub returns-then-flagged : goal.returns-then-flagged
unfolding is_record every pick
returns-then-flagged c = grind (arith, tests)

pub returns-else-flagged : goal.returns-else-flagged
unfolding is_record
returns-else-flagged c = grind (arith, tests)
