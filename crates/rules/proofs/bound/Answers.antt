-- The sum is the definition's. It fits 32 bits, since the square of at most 4,096 is at most
-- 2^24.
use borrow.Author.Rules.{rules}
use Rattle.rules.specs.Check.{bound}
use Rattle.rules.proofs.bound.Goals as goal

pub returns : goal.returns
unfolding bound
returns c = search rules
