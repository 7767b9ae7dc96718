-- The edges of a table as one list, for the clauses of the crates above. Those of `meet` itself
-- write it out: `Graph` has ghost fields, so what its file uses cannot name it.
use Rattle.std.specs.Prelude.{ℕ, List, [], ◌∷◌}
use Rattle.meet.specs.declared.Graph.{Graph}

-- the left and the right ones
abbrev pub edges : Graph → List (List ℕ)
edges g = g.left.now ∷ g.right.now ∷ []
