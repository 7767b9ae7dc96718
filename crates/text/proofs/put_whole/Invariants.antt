-- Each turn stores one byte where there is room for it, so the bytes that are left, put behind
-- those that are there, make the same output as all of them at first.
use Prim.Native.Nat.{◌+◌}
use mathlib.Core.Path.{◌≡◌}
use lib.ListN.{length, drop}
use Rattle.text.specs.Answers.{written, put_all}
use Rattle.text.proofs.put_whole.Given as goal

abbrev pub invariant-loop-k : goal.invariant-loop-k
invariant-loop-k l =
    (length l.out ≡ length l.initial.out) × (put_all (written l.initial.out l.used) l.word
    ≡ put_all (written l.out (l.used + l.k)) (drop l.k l.word))
