-- The forms are tried in the definition's order, each in the line whole.
use borrow.Author.Rules.{rules}
use Rattle.base.proofs.Tests.{tests}
use Rattle.text.specs.Grammar.{read}
use Rattle.text.proofs.Lines.{forms}
use Rattle.text.proofs.read.Goals as goal

pub returns-then-line-gt-LONGEST : goal.returns-then-line-gt-LONGEST
unfolding read
returns-then-line-gt-LONGEST c = search (forms, tests, rules) depth 30

pub returns-in-Some : goal.returns-in-Some
unfolding read
returns-in-Some c = search (forms, tests, rules) depth 30

pub returns-in-Some-whole : goal.returns-in-Some-whole
unfolding read
returns-in-Some-whole c = search (forms, tests, rules) depth 30

pub returns-in-Some-whole-2 : goal.returns-in-Some-whole-2
unfolding read
returns-in-Some-whole-2 c = search (forms, tests, rules) depth 30

pub returns-in-Some-whole-3 : goal.returns-in-Some-whole-3
unfolding read
returns-in-Some-whole-3 c = search (forms, tests, rules) depth 30

pub returns-in-Some-whole-4 : goal.returns-in-Some-whole-4
unfolding read
returns-in-Some-whole-4 c = search (forms, tests, rules) depth 30

pub returns-in-Some-whole-5 : goal.returns-in-Some-whole-5
unfolding read
returns-in-Some-whole-5 c = search (forms, tests, rules) depth 30

pub returns : goal.returns
unfolding read
returns c = search (forms, tests, rules) depth 30
