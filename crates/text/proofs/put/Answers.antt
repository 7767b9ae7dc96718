-- There is room or there is not; with room the byte is stored where the definition has it.
use borrow.Author.Rules.{rules}
use Rattle.base.proofs.Tests.{tests}
use Rattle.text.specs.Answers.{put}
use Rattle.text.proofs.put.Goals as goal

pub returns-then-used-out : goal.returns-then-used-out
unfolding put
returns-then-used-out c = search (tests, rules) depth 12

pub returns : goal.returns
unfolding put
returns c = search (tests, rules) depth 12
