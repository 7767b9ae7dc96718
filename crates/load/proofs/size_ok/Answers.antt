-- `size_ok` meets its contract: its tests are the definition's.
use Rattle.base.proofs.Tests.{tests}
use Rattle.rules.specs.Load.{load_size_of}
use borrow.Author.Rules.{rules}
use Rattle.load.proofs.size_ok.Goals as goal
use Rattle.load.proofs.size_ok.Goals.{then-size_ok, else-size_ok}

pub returns-then-lefts-m : goal.returns-then-lefts-m
unfolding load_size_of
returns-then-lefts-m c = search (tests, rules) depth 12

pub returns-else-lefts-m : goal.returns-else-lefts-m
unfolding load_size_of
returns-else-lefts-m c = elim c.if-size_ok.branch [
  | then-size_ok w ↦ search (tests, rules) depth 12
  | else-size_ok w ↦ search (tests, rules) depth 12
]
