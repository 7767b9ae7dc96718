-- The tests are those of the definition, in its order.
use borrow.Author.Rules.{rules}
use Rattle.base.proofs.Tests.{tests}
use Rattle.rules.specs.Check.{cycle_ok, told_ok, counts_ok}
use Rattle.record_words.specs.Words.{record_of}
use Rattle.record_words.proofs.counts_ok.Goals as goal

pub returns-then-w : goal.returns-then-w
unfolding record_of counts_ok cycle_ok told_ok
returns-then-w c = search (tests, rules) depth 12

pub returns-then-b-w : goal.returns-then-b-w
unfolding record_of counts_ok cycle_ok told_ok
returns-then-b-w c = search (tests, rules) depth 12

pub returns-then-w-2 : goal.returns-then-w-2
unfolding record_of counts_ok cycle_ok told_ok
returns-then-w-2 c = search (tests, rules) depth 12

pub returns : goal.returns
unfolding record_of counts_ok cycle_ok told_ok
returns c = search (tests, rules) depth 12
