-- The line is its pieces, put one behind the other, as the definition joins them.
use Rattle.text.specs.Answers.{said, put_all}
use Rattle.text.proofs.Outputs.{put_append}
use Rattle.text.proofs.say.Goals as goal

pub returns : goal.returns
unfolding said put_all
returns c =
    let b = rw c.from.ensures at c.decimal-b.ensures in
    rw (
      put_append,
      put_append,
      put_append,
      put_append,
      ← c.put_all-a.ensures,
      ← b,
      ← c.put_all-c.ensures,
      ← c.decimal-d.ensures,
    ) c.put.ensures
