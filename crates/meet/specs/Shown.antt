-- What the walk of `meet` keeps: marks and a queue, which stand for the numbering of
-- rules/specs/Meet, and the lowest node with a bad edge. No promise rests on this file.
use Rattle.std.specs.Prelude.{ℕ, ◌-◌, ◌≤◌, ◌<◌, true, ◌≡◌, ◌≢◌, List, get_or, min, Option, Some, None, unwrap_or}
use Rattle.rules.specs.Table.{bad_edge}
use Rattle.rules.specs.Meet.{Met, num_of, node_of, visit_from, any_edge}
use Rattle.rules.specs.InUse.{first_hurt}
use Rattle.reach.specs.Numbered.{one, Kept}

-- 1 for each node that has a number, and the node of each number below the tail
pub record Shown (m : ℕ) (marks order : List ℕ) (tail : ℕ) (s : Met) : Type 0 where
  pub kept : Kept m s
  pub mark : (n : ℕ) → get_or marks n 0 ≡ one (num_of s n)
  pub node : (k : ℕ) → 2 ≤ k → k < tail → get_or order k 0 ≡ node_of s k
  pub end : tail ≡ s.tail

-- they stand for some numbering
pub record Shows (m : ℕ) (marks order : List ℕ) (tail : ℕ) : Type 0 where
  pub some : Met
  pub shown : Shown m marks order tail some

-- the lowest of a node and of those before, if there are any
abbrev pub lowest : ℕ → Option ℕ → ℕ
lowest n None = n
lowest n (Some h) = min n h

-- h is the lowest node with a bad edge of those whose number is below k, if there is one
pub record Hurt (m : ℕ) (es : List (List ℕ)) (s : Met) (k : ℕ) (h : Option ℕ) : Type 0 where
  pub there : (n : ℕ) → h ≡ Some n
      → (n < m) × (num_of s n ≢ 0) × (any_edge (bad_edge m) es n ≡ true)
  pub least : (n : ℕ) → num_of s n ≢ 0 → num_of s n < k → any_edge (bad_edge m) es n ≡ true
      → unwrap_or h m ≤ n

-- such a node is known of some numbering that marks and queue stand for
pub record Going (m : ℕ) (es : List (List ℕ)) (marks order : List ℕ) (tail k : ℕ)
    (h : Option ℕ) : Type 0 where
  pub some : Met
  pub shown : Shown m marks order tail some
  pub hurt : Hurt m es some k h

-- the walk from number k on has come from s to number j, with lowest node h: what is left from
-- there comes to the same
pub record Gone (m : ℕ) (es : List (List ℕ)) (k : ℕ) (s : Met) (marks order : List ℕ)
    (tail j : ℕ) (h : Option ℕ) : Type 0 where
  pub at : Met
  pub shown : Shown m marks order tail at
  pub hurt : Hurt m es at j h
  pub rest : visit_from m es (m - k) k s ≡ visit_from m es (m - j) j at

-- what a whole walk tells of the numbering that it comes to: which nodes have a number, the next
-- number, and the first hurt node, if there is one
pub record Told (m : ℕ) (es : List (List ℕ)) (marks : List ℕ) (tail : ℕ) (h : Option ℕ) (s : Met)
    : Type 0 where
  pub mark : (n : ℕ) → get_or marks n 0 ≡ one (num_of s n)
  pub end : tail ≡ s.tail
  pub first : unwrap_or h m ≡ first_hurt m es s.num
  pub inside : (n : ℕ) → h ≡ Some n → n < m
