-- The digits are put from the highest on, each by its contract, the last one always.
use Rattle.text.specs.Answers.{decimal, put_all}
use Rattle.text.proofs.Outputs.{put_append}
use Rattle.text.proofs.decimal.Goals as goal

pub returns : goal.returns
unfolding decimal put_all
returns c =
    rw (
      put_append,
      put_append,
      put_append,
      put_append,
      ← c.digit-a.ensures,
      ←
          c.digit-b.ensures,
      ← c.digit-c.ensures,
      ← c.digit-d.ensures,
    )
    c.put.ensures
