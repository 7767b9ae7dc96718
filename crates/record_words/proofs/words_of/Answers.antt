-- Words that are all 0 are a record's.
use Rattle.base.proofs.Tests.{tests}
use Rattle.record_words.specs.Words.{is_record, within, flagged}
use Rattle.record_words.proofs.words_of.Goals as goal

pub put-requires : goal.put-requires
unfolding is_record within flagged
put-requires c = search tests depth 60
