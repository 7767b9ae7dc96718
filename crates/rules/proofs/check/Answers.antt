-- The sizes are judged first. Where they pass, M and R are in range, which is what the record's
-- test asks.
use mathlib.Core.Path.{◌∙◌}
use borrow.Author.Rules.{rules}
use Rattle.base.proofs.Tests.{tests, facts, each, not_no}
use Rattle.rules.specs.Check.{size_ok, check_of}
use Rattle.rules.proofs.check.Goals as goal

pub returns-then-not-size_ok : goal.returns-then-not-size_ok
unfolding check_of
returns-then-not-size_ok c = search (tests, rules) depth 12

pub record_ok-requires : goal.record_ok-requires
unfolding size_ok
record_ok-requires c =
    omega (facts, each _ (not_no _ c.if-not-size_ok.false-raw ∙ c.size_ok.ensures))

pub returns-then-not-record_ok : goal.returns-then-not-record_ok
unfolding check_of
returns-then-not-record_ok c = search (tests, rules) depth 12

pub returns : goal.returns
unfolding check_of
returns c = search (tests, rules) depth 12
