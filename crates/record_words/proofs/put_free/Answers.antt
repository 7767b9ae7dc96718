-- `put_free` meets its contract: the words that are not stored are the same in both records.
use native.Mathlib.Omega.{arith}
use Rattle.record_words.proofs.RoundTrip.{free_put}
use Rattle.record_words.proofs.put_free.Goals as goal

pub returns : goal.returns
returns c =
    let r = c.requires in
    let both = free_put _ r.true_value c.args.x r.x_value (omega arith) (omega arith) in
    record {
      words_value = rw (c.from.ensures, c.from-2.ensures) both.0;
      true_value_2 = rw (c.from.ensures, c.from-2.ensures) both.1;
    }
