-- [Load 9] What slots reach, numbered in the order met: first the slots, from the lowest on, then
-- breadth first, a node's edges in the order of the sides.
use Rattle.base.specs.Choice.{pick}
use Rattle.std.specs.Prelude.{ℕ, zero, suc, ◌+◌, ◌-◌, Bool, false, ◌||◌, List, [], ◌∷◌, length, get_or, set, replicate, ltb, eqb}
use Rattle.rules.specs.Table.{most_nodes, NIL, edge_of, bad_edge}

-- Numbers begin at 2, as those of the slots' nodes do: these keep their own.
pub record Met : Type 0 where
  -- a node's number, 0 where it is not met
  pub num : List ℕ
  -- the node of each number
  pub order : List ℕ
  -- the next number
  pub tail : ℕ

abbrev pub met : List ℕ → List ℕ → ℕ → Met
met num order tail = record { num = num; order = order; tail = tail }

abbrev pub num_of : Met → ℕ → ℕ
num_of s n = get_or s.num n 0

abbrev pub node_of : Met → ℕ → ℕ
node_of s k = get_or s.order k 0

-- 0 for each node that a table may have
unfoldable pub blank : List ℕ
blank = replicate most_nodes 0

-- node n is met: it gets the next number, unless it has one. NIL is not met, and a bad edge leads
-- nowhere.
unfoldable pub visit : ℕ → ℕ → Met → Met
visit m n s =
    pick (bad_edge m n || eqb n NIL) s
    (pick (eqb (num_of s n) 0)
    (met (set s.num n s.tail) (set s.order s.tail n) (s.tail + 1))
    s)

-- the first k slots' nodes
unfoldable pub visit_slots : ℕ → ℕ → Met → Met
visit_slots m zero s = s
visit_slots m (suc k) s = visit m (k + 2) (visit_slots m k s)

-- the nodes that the edges of n lead to
unfoldable pub visit_edges : ℕ → List (List ℕ) → ℕ → Met → Met
visit_edges m [] n s = s
visit_edges m (row ∷ rows) n s = visit_edges m rows n (visit m (get_or row n 0) s)

-- the edges of the node with number k and of those after it, while there are any; at most of f
unfoldable pub visit_from : ℕ → List (List ℕ) → ℕ → ℕ → Met → Met
visit_from m es zero k s = s
visit_from m es (suc f) k s =
    pick (ltb k s.tail) (visit_from m es f (k + 1) (visit_edges m es (node_of s k) s)) s

-- all that the r slots reach along good edges, in a table of m nodes
unfoldable pub meet : ℕ → ℕ → List (List ℕ) → Met
meet m r es = visit_from m es (m - 2) 2 (visit_slots m r (met blank blank 2))

-- the lowest of the k numbers from n on that passes a test; n + k where none does
unfoldable pub lowest : (ℕ → Bool) → ℕ → ℕ → ℕ
lowest f zero n = n
lowest f (suc k) n = pick (f n) n (lowest f k (n + 1))

-- some edge of node n passes a test
unfoldable pub any_edge : (ℕ → Bool) → List (List ℕ) → ℕ → Bool
any_edge f [] n = false
any_edge f (row ∷ rows) n = f (get_or row n 0) || any_edge f rows n

-- the lowest side on which the edge of node n passes a test; the number of sides where none does
unfoldable pub first_side : (ℕ → Bool) → List (List ℕ) → ℕ → ℕ
first_side f es n = lowest (λ side. f (edge_of es side n)) (length es) 0
