-- `first_bad` meets its contract: the lowest bad node from n on is the lowest of all.
use mathlib.Core.Path.{◌≡◌}
use mathlib.Core.List.{[], ◌∷◌}
use Prim.Native.Nat.{◌-◌}
use Rattle.rules.specs.Meet.{lowest, any_edge}
use Rattle.rules.specs.Load.{bad_given, first_bad}
use Rattle.load.proofs.first_bad.Given as goal

abbrev pub invariant-loop-n : goal.invariant-loop-n
invariant-loop-n l = first_bad l.m (l.lefts ∷ l.rights ∷ [])
    ≡ lowest (λ n. any_edge (bad_given l.m n) (l.lefts ∷ l.rights ∷ []) n) (l.m - l.n) l.n
