-- What the numbering of rules/specs/Meet gives: each node that slots reach along good edges has a
-- number, and no other node has.
use Rattle.base.specs.Choice.{pick}
use Rattle.std.specs.Prelude.{ℕ, zero, suc, ◌+◌, ◌-◌, ◌≤◌, ◌<◌, ◌||◌, ◌≡◌, ◌≢◌, List, length, eqb}
use Rattle.rules.specs.Table.{most_nodes, NIL, edge_of, bad_edge}
use Rattle.rules.specs.Meet.{Met, num_of, node_of, meet}
use Rattle.theory.specs.Reach.{Reach, Slot}

-- where an edge to t leads: a bad one counts as none
unfoldable pub good : ℕ → ℕ → ℕ
good m t = pick (bad_edge m t || eqb t NIL) 0 t

-- the good edges of a table; NIL has none
unfoldable pub good_edge : ℕ → List (List ℕ) → ℕ → ℕ → ℕ
good_edge m es side n = pick (eqb n NIL) 0 (good m (edge_of es side n))

-- some slot reaches n along good edges
abbrev pub GoodReaches : ℕ → ℕ → List (List ℕ) → ℕ → Type 0
GoodReaches m r es n = Reach (length es) (Slot (r + 2)) (good_edge m es) n

-- 1 for a number that is not 0
unfoldable pub one : ℕ → ℕ
one zero = 0
one (suc x) = 1

-- how many of the k numbers from b on have a value that is not 0
unfoldable pub nonzero : (ℕ → ℕ) → ℕ → ℕ → ℕ
nonzero f b zero = 0
nonzero f b (suc k) = one (f (b + k)) + nonzero f b k

-- the numbers given are those from 2 to below the tail, each to one node; there are as many as
-- nodes that have one
pub record Kept (m : ℕ) (s : Met) : Type 0 where
  pub wide : m ≤ length s.num
  pub long : m ≤ length s.order
  pub count : s.tail ≡ 2 + nonzero (num_of s) 2 (m - 2)
  pub inside : (n : ℕ) → num_of s n ≢ 0 → (2 ≤ n) × (n < m)
  pub there : (n : ℕ) → num_of s n ≢ 0
      → (2 ≤ num_of s n) × (num_of s n < s.tail) × (node_of s (num_of s n) ≡ n)
  pub back : (k : ℕ) → 2 ≤ k → k < s.tail → num_of s (node_of s k) ≡ k

-- [Load 9] of the numbering of what r slots reach: the slots' nodes have their own numbers
pub record Numbered (m r : ℕ) (es : List (List ℕ)) (s : Met) : Type 0 where
  pub kept : Kept m s
  pub slots : (n : ℕ) → Slot (r + 2) n → num_of s n ≡ n
  pub start : r + 2 ≤ s.tail
  pub sound : (n : ℕ) → num_of s n ≢ 0 → GoodReaches m r es n
  pub complete : (n : ℕ) → n ≢ NIL → GoodReaches m r es n → num_of s n ≢ 0

abbrev pub MeetNumbers : Type 0
MeetNumbers =
    (m r : ℕ) (es : List (List ℕ)) → r + 2 ≤ m → m ≤ most_nodes → Numbered m r es (meet m r es)
