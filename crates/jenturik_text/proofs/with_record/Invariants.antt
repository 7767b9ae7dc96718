-- The words that are copied stand first; the rest is as it was made.
use mathlib.Core.Path.{◌≡◌}
use lib.ListN.{length, take, drop}
use Rattle.jenturik_text.proofs.with_record.Given as goal

abbrev pub invariant-loop-k : goal.invariant-loop-k
invariant-loop-k l =
    (length l.words ≡ 32) × (take l.k l.words ≡ take l.k l.v) × (drop l.k l.words ≡ drop l.k l.initial.words)
