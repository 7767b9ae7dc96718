-- The words that are copied stand first; the rest is as it was made.
use mathlib.Core.Path.{◌≡◌}
use lib.ListN.{length, take}
use Rattle.jenturik_text.proofs.record_part.Given as goal

abbrev pub invariant-loop-k : goal.invariant-loop-k
invariant-loop-k l = (length l.words ≡ 24) × (take l.k l.words ≡ take l.k l.w)
