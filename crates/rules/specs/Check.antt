-- [Codes 1] and [Codes 2]: the sizes and the record's test. [Order 5] Nothing else is judged.
use Rattle.base.specs.Choice.{pick, every}
use Rattle.std.specs.Prelude.{ℕ, ◌+◌, ◌-◌, ◌*◌, Bool, true, ◌||◌, not, List, [], ◌∷◌, ◌++◌, map, length, ltb, leb, eqb}
use Rattle.std.specs.Prelude.{Some, None}
use Rattle.rules.specs.Table.{State, FREE, most_nodes, most_slots}
use Rattle.rules.specs.Phases.{roots_tag, scan_tag, tag_of, position, second, has_second}
use Rattle.rules.specs.declared.Record.{Record}
use Rattle.rules.specs.declared.Phase.{Phase}
use Rattle.rules.specs.Records.{Owed}

-- [Table 1] the ranges of M and R; [Codes 1] and each array has M entries. The lengths are those of
-- the edges, and the colours'.
unfoldable pub size_ok : ℕ → ℕ → List ℕ → ℕ → Bool
size_ok m r edges colours =
    every (leb 3 m ∷ leb m most_nodes ∷ leb 1 r ∷ leb r most_slots ∷ leb (r + 2)
    m ∷ (map (λ n. eqb n m) edges ++ (eqb colours m ∷ [])))

-- [Record 3] a position of Roots is not above R + 1; every other one is below M
unfoldable pub position_ok : ℕ → ℕ → ℕ → ℕ → Bool
position_ok m r tag i = pick (eqb tag roots_tag) (leb i (r + 1)) (ltb i m)

-- [Record 3] Scan's k is not 0 and not above M; [Record 14] a number read is not FREE and below M
unfoldable pub second_ok : ℕ → ℕ → ℕ → Bool
second_ok m tag k =
    pick (eqb tag scan_tag) (every (leb 1 k ∷ leb k m ∷ []))
    (pick (has_second tag) (every (not (eqb k FREE) ∷ ltb k m ∷ [])) true)

unfoldable pub phase_ok : ℕ → ℕ → Phase → Bool
phase_ok m r p =
    every (position_ok m r (tag_of p) (position p) ∷ second_ok m (tag_of p) (second p) ∷ [])

-- [Codes 2] the node owed: any but FREE
unfoldable pub owed_ok : ℕ → Owed → Bool
owed_ok m None = true
owed_ok m (Some n) = every (not (eqb n FREE) ∷ ltb n m ∷ [])

-- [Codes 2] last: a node that can be free, or FREE for none [Record 5]
unfoldable pub last_ok : ℕ → ℕ → ℕ → Bool
last_ok m r n = eqb n FREE || every (leb (r + 2) n ∷ ltb n m ∷ [])

-- [Codes 2] how many are free: at most all that can be, and none exactly while last is FREE
-- [Record 13]
unfoldable pub free_ok : ℕ → ℕ → ℕ → ℕ → Bool
free_ok m r last n =
    every (leb n (m - (r + 2)) ∷ pick (eqb last FREE) (eqb n 0) (not (eqb n 0)) ∷ [])

-- [Record 11] B, where a node has E edges; the rule is for two
unfoldable pub bound : ℕ → ℕ → ℕ → ℕ
bound E m r = m * m + (3 + 2 * E) * m + r + 2

-- [Codes 2] what the cycle counts, b being B
unfoldable pub cycle_ok : Record → ℕ → Bool
cycle_ok x b = every (leb x.blackened x.m ∷ ltb x.steps b ∷ [])

-- [Codes 2] the tests that a step can break: how many are free, and what the cycle counts, b being
-- B
unfoldable pub in_limits : Record → ℕ → Bool
in_limits x b = every (free_ok x.m x.r x.last x.free ∷ cycle_ok x b ∷ [])

-- [Codes 2] what earlier cycles told
unfoldable pub told_ok : Record → ℕ → Bool
told_ok x b = every (leb x.lastblackened x.m ∷ leb x.took b ∷ [])

unfoldable pub counts_ok : Record → ℕ → Bool
counts_ok x b = every (cycle_ok x b ∷ told_ok x b ∷ [])

unfoldable pub record_ok : ℕ → Record → Bool
record_ok E x =
    every (phase_ok x.m x.r x.phase ∷ owed_ok x.m x.owed ∷ last_ok x.m x.r
    x.last ∷ free_ok x.m x.r x.last
    x.free ∷ counts_ok x (bound E x.m x.r) ∷ [])

-- codes 1 and 2, for slices of these lengths
unfoldable pub check_of : List ℕ → ℕ → Record → ℕ
check_of edges colours x =
    pick (size_ok x.m x.r edges colours) (pick (record_ok (length edges) x) 0 2) 1

abbrev pub check : State → ℕ
check s = check_of (map length s.edges) (length s.colour) s.rec
