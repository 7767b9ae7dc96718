-- Each return is a case of the definition, by the number of the phase.
use borrow.Author.Rules.{rules}
use Rattle.base.proofs.Tests.{tests}
use Rattle.rules.specs.Check.{position_ok, second_ok}
use Rattle.record_words.proofs.Judged.{roots_test}
use Rattle.record_words.proofs.phase_ok.Goals as goal

pub returns-then-tag-eq0 : goal.returns-then-tag-eq0
returns-then-tag-eq0 c = roots_test _ _ _ _ _ c.if-tag-eq0.true

pub returns-then-m-i : goal.returns-then-m-i
unfolding position_ok second_ok
returns-then-m-i c = search (tests, rules) depth 12

pub returns-then-k-lt1 : goal.returns-then-k-lt1
unfolding position_ok second_ok
returns-then-k-lt1 c = search (tests, rules) depth 12

pub returns-then-tag-eq1 : goal.returns-then-tag-eq1
unfolding position_ok second_ok
returns-then-tag-eq1 c = search (tests, rules) depth 12

pub returns-then-not-has_second : goal.returns-then-not-has_second
unfolding position_ok second_ok
returns-then-not-has_second c = rw (← c.has_second.ensures) (search (tests, rules) depth 12)

pub returns-then-k-eq1 : goal.returns-then-k-eq1
unfolding position_ok second_ok
returns-then-k-eq1 c = rw (← c.has_second.ensures) (search (tests, rules) depth 12)

pub returns : goal.returns
unfolding position_ok second_ok
returns c = rw (← c.has_second.ensures) (search (tests, rules) depth 12)
