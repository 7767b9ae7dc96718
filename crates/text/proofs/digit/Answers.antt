-- A digit is put unless it is a leading zero, by the definition's test.
use Rattle.base.specs.Choice.{pick}
use Rattle.text.specs.Answers.{digit_of, put_all}
use borrow.Author.Tests.{lt-leb, le-leb}
use Rattle.text.proofs.Outputs.{put_none}
use Rattle.text.proofs.digit.Goals as goal

pub returns-then-n-ten : goal.returns-then-n-ten
unfolding digit_of pick
returns-then-n-ten c = rw (lt-leb _ _ c.if-n-ten.true) (put_none _)

pub returns : goal.returns
unfolding digit_of pick put_all
returns c =
    rw (le-leb _ _ c.if-n-ten.false) c.put.ensures
