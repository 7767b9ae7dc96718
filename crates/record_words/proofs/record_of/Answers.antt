-- The widths that `is_record` judged are what the casts need.
use native.Mathlib.Omega.{arith}
use Rattle.record_words.specs.Words.{record_of}
use Rattle.record_words.proofs.Widths.{widths}
use Rattle.record_words.proofs.record_of.Goals as goal

pub overflow_cast-w : goal.overflow_cast-w
overflow_cast-w c = let h = widths _ c.requires in omega arith

pub overflow_cast-w-2 : goal.overflow_cast-w-2
overflow_cast-w-2 c = let h = widths _ c.requires in omega arith

pub overflow_cast-w-3 : goal.overflow_cast-w-3
overflow_cast-w-3 c = let h = widths _ c.requires in omega arith

pub picked_up-requires : goal.picked_up-requires
picked_up-requires c = widths _ c.requires

pub returns : goal.returns
unfolding record_of
returns c = cc
