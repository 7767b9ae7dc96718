-- `lowest_shared` meets its contract: the lowest shared node from n on is the lowest of all.
use mathlib.Core.Path.{◌≡◌}
use Prim.Native.Nat.{◌-◌}
use Rattle.rules.specs.Meet.{lowest}
use Rattle.rules.specs.Load.{is_shared, first_shared}
use Rattle.load.proofs.lowest_shared.Given as goal

abbrev pub invariant-loop-n : goal.invariant-loop-n
invariant-loop-n l = first_shared l.m l.free l.marks
    ≡ lowest (is_shared l.free l.marks) (l.m - l.n) l.n
