-- The first byte is L, R or neither, as the definition's tests go.
use borrow.Author.Rules.{rules}
use Rattle.base.proofs.Tests.{tests}
use Rattle.text.specs.Grammar.{side_at}
use Rattle.text.proofs.Lines.{no_bytes}
use Rattle.text.proofs.side_at.Goals as goal

pub returns-in_err-b : goal.returns-in_err-b
unfolding side_at
returns-in_err-b c = rw (c.from_residual.ensures, no_bytes _ c.in_err-b.ensures.cases)

pub returns-then-b-eq76 : goal.returns-then-b-eq76
unfolding side_at
returns-then-b-eq76 c = rw c.in_ok-b.ensures.cases.0 (search (tests, rules) depth 12)

pub returns-then-b-eq82 : goal.returns-then-b-eq82
unfolding side_at
returns-then-b-eq82 c = rw c.in_ok-b.ensures.cases.0 (search (tests, rules) depth 12)

pub returns : goal.returns
unfolding side_at
returns c = rw c.in_ok-b.ensures.cases.0 (search (tests, rules) depth 12)
