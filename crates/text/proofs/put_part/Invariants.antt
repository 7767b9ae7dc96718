-- Each turn puts one byte, so the bytes that are left, put behind those that are there, make the
-- same output as all of them at first.
use mathlib.Core.Path.{◌≡◌}
use lib.ListN.{length, drop}
use Rattle.text.specs.Answers.{written, put_all}
use Rattle.text.proofs.put_part.Given as goal

abbrev pub invariant-loop-k : goal.invariant-loop-k
invariant-loop-k l =
    put_all (written l.initial.out l.used) l.word ≡ put_all (written l.out l.at) (drop l.k l.word)
