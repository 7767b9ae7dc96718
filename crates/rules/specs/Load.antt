-- The section Load of docs/RULES.md.
use Rattle.base.specs.Choice.{pick, every}
use Rattle.std.specs.Prelude.{ℕ, zero, suc, ◌+◌, Bool, ◌||◌, not, List, [], ◌∷◌, map, length, get_or, set, ltb, eqb}
use Rattle.rules.specs.Table.{Outcome, table, refused_with, refused, NIL, FREE, left, right}
use Rattle.rules.specs.Table.{edge_of, bad_edge}
use Rattle.rules.specs.Check.{size_ok}
use Rattle.rules.specs.Records.{fresh_record}
use Rattle.rules.specs.Fresh.{tabulate, all_white}
use Rattle.rules.specs.Steps.{code_of, node_of}
use Rattle.rules.specs.Meet.{blank, meet, lowest, any_edge, first_side}
use Rattle.rules.specs.declared.Answer.{Answer}
use Rattle.rules.specs.declared.Answer.TheVariants.{Started}

-- [Load 6] the sizes of Fresh, and each list has M entries: for lists, edges and colours of these
-- lengths
unfoldable pub load_size_of : ℕ → ℕ → List ℕ → List ℕ → ℕ → Bool
load_size_of m r given edges colours = every (size_ok m r edges colours ∷ map (λ n. eqb n m) given)

abbrev pub load_size_ok : ℕ → ℕ → List (List ℕ) → List (List ℕ) → List ℕ → Bool
load_size_ok m r given edges colours =
    load_size_of m r (map length given) (map length edges) (length colours)

-- [Codes 11] an edge e of node n that is bad, or is NIL's and not 0; [Load 12] e is any number
unfoldable pub bad_given : ℕ → ℕ → ℕ → Bool
bad_given m n e = bad_edge m e || every (eqb n NIL ∷ not (eqb e 0) ∷ [])

-- [Codes 11] the lowest node that has such an edge; m where none has
unfoldable pub first_bad : ℕ → List (List ℕ) → ℕ
first_bad m es = lowest (λ n. any_edge (bad_given m n) es n) m 0

-- [Codes 11] the refusal of node n, with the first side on which it has such an edge
unfoldable pub bad_at : ℕ → List (List ℕ) → ℕ → Answer
bad_at m es n = refused_with 11 n (first_side (bad_given m n) es n)

-- what a walk along the free chain found: 1 for each free node that it came to, and Started with
-- the chain's end or Refused with the node that breaks the chain
pub record Chained : Type 0 where
  pub free : List ℕ
  pub answer : Answer

abbrev pub chained : List ℕ → Answer → Chained
chained free answer = record { free = free; answer = answer }

-- [Load 5] the walk along the chain, at node n; the nodes that it came to are 1 in `free`.
-- [Codes 12] the right edge is judged, then the left one. It makes at most f turns.
unfoldable pub chain : ℕ → List (List ℕ) → ℕ → List ℕ → ℕ → Chained
chain r es zero free n = chained free (refused 12 n)
chain r es (suc f) free n =
    pick (eqb (edge_of es right n) 0)
    (pick (eqb (edge_of es left n) 0) (chained free (Started n))
    (pick (ltb (edge_of es left n) (r + 2)) (chained free (refused 12 n))
    (pick (eqb (get_or free (edge_of es left n) 0) 0)
    (chain r es f (set free (edge_of es left n) 1) (edge_of es left n))
    (chained free (refused 12 n)))))
    (chained free (refused 12 n))

-- [Load 3] how many nodes follow n on the chain: after FREE they are the free nodes. At most f
-- turns are made.
unfoldable pub chain_length : List (List ℕ) → ℕ → ℕ → ℕ
chain_length es zero n = 0
chain_length es (suc f) n =
    pick (eqb (edge_of es left n) 0) 0 (chain_length es f (edge_of es left n) + 1)

-- [Codes 13] node n is free, and a slot reaches it
unfoldable pub is_shared : List ℕ → List ℕ → ℕ → Bool
is_shared free num n = every (not (eqb (get_or free n 0) 0) ∷ not (eqb (get_or num n 0) 0) ∷ [])

-- [Codes 13] the lowest such node; m where there is none
unfoldable pub first_shared : ℕ → List ℕ → List ℕ → ℕ
first_shared m free num = lowest (is_shared free num) m 0

-- [Codes 13] unless the chain is broken
unfoldable pub judge_free : ℕ → ℕ → List (List ℕ) → Chained → Answer
judge_free m r es c =
    pick (eqb (code_of c.answer) 0)
    (pick (ltb (first_shared m c.free (meet m r es).num) m)
    (refused 13 (first_shared m c.free (meet m r es).num))
    c.answer)
    c.answer

-- [Load 7] 11, then 12, then 13; [Load 4] accepted, last is answered
unfoldable pub judge : ℕ → ℕ → List (List ℕ) → Answer
judge m r es =
    pick (ltb (first_bad m es) m) (bad_at m es (first_bad m es))
    (judge_free m r es (chain r es m blank FREE))

-- [Load 1] [Load 2] the table that is made, [Load 3] its record; [Load 11] or none is made
unfoldable pub load_by : ℕ → ℕ → List (List ℕ) → List (List ℕ) → List ℕ → Answer → Outcome
load_by m r given edges colours a =
    pick (eqb (code_of a) 0)
    (record {
      answer = a;
      state = table given (tabulate all_white m)
          (fresh_record m r (node_of a) (chain_length given m FREE));
    })
    (record { answer = a; state = table edges colours (fresh_record 0 0 0 0) })

-- [Load 6] first the sizes
unfoldable pub load : ℕ → ℕ → List (List ℕ) → List (List ℕ) → List ℕ → Outcome
load m r given edges colours =
    load_by m r given edges colours
    (pick (load_size_ok m r given edges colours) (judge m r given) (refused 1 0))
