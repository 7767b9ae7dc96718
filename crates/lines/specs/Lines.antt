-- What a line prints, and what it leaves: the section Program of docs/RULES.md.
use Rattle.base.specs.Choice.{pick, every}
use Rattle.std.specs.Prelude.{ℕ, ◌-◌, List, [], ◌∷◌, ◌++◌, length, get_or, take, drop, replicate, leb, eqb}
use Rattle.rules.specs.Table.{State, Outcome, state, most_nodes}
use Rattle.rules.specs.Fresh.{fresh}
use Rattle.rules.specs.Load.{load}
use Rattle.rules.specs.Phases.{position}
use Rattle.rules.specs.Records.{fresh_record}
use Rattle.rules.specs.Steps.{step, code_of, node_of}
use Rattle.rules.specs.Schedules.{schedule, collects}
use Rattle.text.specs.declared.Said.{Said}
use Rattle.text.specs.declared.Said.TheVariants.{First, Do, Collect, Unreadable}

-- the code and the node that a line prints, and the state that it leaves
pub record Line : Type 0 where
  pub code : ℕ
  pub node : ℕ
  pub state : State

abbrev pub prints : ℕ → ℕ → State → Line
prints code node s = record { code = code; node = node; state = s }

-- [Program 13] a line prints the answer's code and node
abbrev pub answered : Outcome → Line
answered o = prints (code_of o.answer) (node_of o.answer) o.state

-- [Program 14] 0 where no step was done
unfoldable pub start_of : ℕ → ℕ → ℕ
start_of done i = pick (eqb done 0) 0 i

-- [Program 7] n collector steps, or until one is refused; [Program 14] the node is the i at which
-- the last of them stood, a refused one too
unfoldable pub collected : ℕ → State → Line
collected n s =
    let f = schedule (collects n) s in
    let before = (schedule (collects (n - 1)) s).state in
    prints f.code (start_of f.done (position before.rec.phase)) f.state

-- a line after the first; [Program 9] one that is of no form of theirs
unfoldable pub later : Said → State → Line
later (Do a) s = answered (step a s)
later (Collect n) s = collected n s
later (First m r) s = prints 10 0 s
later Unreadable s = prints 10 0 s

-- [Program 20] an export of these edges, where s is the table of the first line: a loaded table, or
-- Load's refusal
unfoldable pub loaded : List ℕ → List ℕ → State → Line
loaded lefts rights s =
    answered (load s.rec.m s.rec.r (lefts ∷ rights ∷ []) s.edges s.colour)

abbrev pub no_table : State
no_table = state [] [] [] (fresh_record 0 0 0 0)

-- [Program 2] the first line: a fresh table; [Program 10] or its code and node 0
unfoldable pub first : Said → Line
first (First m r) = answered (fresh m r (replicate m 0 ∷ replicate m 0 ∷ []) (replicate m 0))
first (Do a) = prints 10 0 no_table
first (Collect n) = prints 10 0 no_table
first Unreadable = prints 10 0 no_table

-- the same with the program's own tables, which hold l, k and c: the table is made in their first m
-- entries, and the others stay
abbrev pub placed : Outcome → List ℕ → List ℕ → List ℕ → Line
placed o l k c =
    prints (code_of o.answer) (node_of o.answer)
    (state (get_or o.state.edges 0 [] ++ l) (get_or o.state.edges 1 [] ++ k)
    (o.state.colour ++ c) o.state.rec)

-- a first line that fails leaves them as they are, and no table
abbrev pub failed : ℕ → List ℕ → List ℕ → List ℕ → Line
failed code l k c = prints code 0 (state l k c (fresh_record 0 0 0 0))

-- [Program 15] a table that has no room in the program's own is too large
unfoldable pub opened : Said → List ℕ → List ℕ → List ℕ → Line
opened (First m r) l k c =
    pick (every (leb m (length l) ∷ leb m (length k) ∷ leb m (length c) ∷ []))
    (placed (fresh m r (take m l ∷ take m k ∷ []) (take m c)) (drop m l) (drop m k) (drop m c))
    (failed 1 l k c)
opened (Do a) l k c = failed 10 l k c
opened (Collect n) l k c = failed 10 l k c
opened Unreadable l k c = failed 10 l k c

-- the entries of the program's own tables
abbrev pub entries : ℕ
entries = most_nodes
