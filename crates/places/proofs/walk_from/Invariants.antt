-- What is left of the walk from here answers what the whole walk answers.
use Prim.Native.Nat.{◌<◌, ◌-◌}
use mathlib.Core.Path.{◌≡◌}
use mathlib.Core.List.{[], ◌∷◌}
use Rattle.rules.specs.Table.{edge_of}
use Rattle.rules.specs.Places.{walk_from}
use Rattle.places.proofs.walk_from.Given as goal

abbrev pub invariant-loop : goal.invariant-loop
invariant-loop l =
    (l.n < l.m) × (walk_from 2 (edge_of (l.left ∷ l.right ∷ [])) l.m l.count l.word l.start
    ≡ walk_from 2 (edge_of (l.left ∷ l.right ∷ [])) l.m (l.count - l.counter) l.rest l.n)
