-- The code 0 says that the words are a record's that passes.
use Rattle.jenturik_c.proofs.Judges.{a_record, passes}
use Rattle.jenturik_c.proofs.passed.Goals as goal

pub record_of-requires : goal.record_of-requires
record_of-requires c = a_record _ _ _ _ _ c.judge.ensures c.in-0.is

pub returns-in-0-clause-ok : goal.returns-in-0-clause-ok
returns-in-0-clause-ok c = record {
  words = a_record _ _ _ _ _ c.judge.ensures c.in-0.is;
  rec = c.record_of.ensures;
  code = passes _ _ _ _ _ c.judge.ensures c.in-0.is _ c.record_of.ensures;
}
