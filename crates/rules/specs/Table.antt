-- The node table, and what a call makes of it: the sections Table, Damage and Answers of
-- docs/RULES.md.
use Rattle.base.specs.Choice.{pick}
use Rattle.std.specs.Prelude.{ℕ, ◌+◌, Bool, ◌||◌, List, [], ◌∷◌, map, length, get_or, set, ltb, leb, eqb}
use Rattle.rules.specs.declared.Record.{Record}
use Rattle.rules.specs.declared.Answer.{Answer}
use Rattle.rules.specs.declared.Answer.TheVariants.{Refused}
use Rattle.rules.specs.declared.Made.{Made}

-- [Table 1] the most nodes, and the most slots
abbrev pub most_nodes : ℕ
most_nodes = 4096

abbrev pub most_slots : ℕ
most_slots = 64

-- [Table 2] [Record 1] the table as lists, and the record beside them. A list of edges for each
-- side, in the order of the sides.
pub record State : Type 0 where
  pub edges : List (List ℕ)
  pub colour : List ℕ
  pub rec : Record

-- the number of edges of a node: E
abbrev pub sides : State → ℕ
sides s = length s.edges

-- [Answers 1] what a call answers, and the state that it leaves
pub record Outcome : Type 0 where
  pub answer : Answer
  pub state : State

abbrev pub table : List (List ℕ) → List ℕ → Record → State
table es c x = record { edges = es; colour = c; rec = x }

-- a table of two edges
abbrev pub state : List ℕ → List ℕ → List ℕ → Record → State
state l r c x = table (l ∷ r ∷ []) c x

-- what a function hands back, with the slices as it leaves them
abbrev pub handed : Made → List (List ℕ) → List ℕ → Outcome
handed d es c = record { answer = d.answer; state = table es c d.rec }

abbrev pub outcome : Made → List ℕ → List ℕ → List ℕ → Outcome
outcome d l r c = handed d (l ∷ r ∷ []) c

-- done: the answer, the table of s and the record x
abbrev pub did : Answer → State → Record → Outcome
did a s x = record { answer = a; state = table s.edges s.colour x }

-- [Answers 3] who refuses answers a code, a node and a detail [Answers 5]
abbrev pub refused_with : ℕ → ℕ → ℕ → Answer
refused_with code node detail = Refused code node detail

-- [Answers 4] a refusal: what a function hands back that refuses; the record stays
abbrev pub refusal_with : ℕ → ℕ → ℕ → Record → Made
refusal_with code node detail x =
    record { answer = refused_with code node detail; changed = 0; rec = x }

-- [Answers 4] refused: the state stays
abbrev pub refuse_with : State → ℕ → ℕ → ℕ → Outcome
refuse_with s code node detail = record { answer = refused_with code node detail; state = s }

-- [Answers 5] the same where there is no more to tell: the detail is 0
abbrev pub refused : ℕ → ℕ → Answer
refused code node = refused_with code node 0

abbrev pub refusal : ℕ → ℕ → Record → Made
refusal code node x = refusal_with code node 0 x

abbrev pub refuse : State → ℕ → ℕ → Outcome
refuse s code node = refuse_with s code node 0

-- [Order 5] refused with node 0, unless the code is 0
unfoldable pub unless : ℕ → State → Outcome → Outcome
unless code s o = pick (eqb code 0) o (refuse s code 0)

-- [Table 4] the colours
abbrev pub white : ℕ
white = 0

abbrev pub gray : ℕ
gray = 1

abbrev pub black : ℕ
black = 2

-- [Table 5]
abbrev pub NIL : ℕ
NIL = 0

-- [Table 6]
abbrev pub FREE : ℕ
FREE = 1

-- [Table 9] whether node n is a root
abbrev pub is_root : ℕ → ℕ → Bool
is_root r n = leb n (r + 1)

-- [Table 12] the sides
abbrev pub left : ℕ
left = 0

abbrev pub right : ℕ
right = 1

-- [Codes 15] why Append should not meet a node, as numbers
abbrev pub gray_node : ℕ
gray_node = 0

abbrev pub white_root : ℕ
white_root = 1

abbrev pub white_last : ℕ
white_last = 2

-- [Table 3] the edge of node n on a side; 0 on a side that the table has not
unfoldable pub edge_of : List (List ℕ) → ℕ → ℕ → ℕ
edge_of es side n = get_or (get_or es side []) n 0

abbrev pub edge : State → ℕ → ℕ → ℕ
edge s side n = edge_of s.edges side n

-- the edge of node n on a side now points to t
unfoldable pub with_edge : State → ℕ → ℕ → ℕ → State
with_edge s side n t =
    table (set s.edges side (set (get_or s.edges side []) n t)) s.colour s.rec

-- every edge of node n is 0 now
unfoldable pub cleared : State → ℕ → State
cleared s n = table (map (λ (es : List ℕ). set es n 0) s.edges) s.colour s.rec

abbrev pub colour_of : State → ℕ → ℕ
colour_of s n = get_or s.colour n 0

abbrev pub with_colour : State → ℕ → ℕ → State
with_colour s n c = table s.edges (set s.colour n c) s.rec

-- [Table 11] node n shaded
unfoldable pub shade_in : List ℕ → ℕ → List ℕ
shade_in colours n = pick (eqb (get_or colours n 0) white) (set colours n gray) colours

abbrev pub shade : State → ℕ → State
shade s n = table s.edges (shade_in s.colour n) s.rec

-- [Damage 1] an edge that leads to FREE or out of the table
unfoldable pub bad_edge : ℕ → ℕ → Bool
bad_edge m e = leb m e || eqb e FREE

-- [Damage 3] a colour that is none
abbrev pub bad_colour : State → ℕ → Bool
bad_colour s n = ltb black (colour_of s n)
