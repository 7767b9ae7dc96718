-- `write` ends: each turn writes a byte at least.
use Rattle.std.proofs.Common.{length}
use Rattle.jenturik.proofs.write.Given as goal

abbrev pub decreases-loop-rest : goal.decreases-loop-rest
decreases-loop-rest l = length l.rest
