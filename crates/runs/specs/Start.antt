-- Where a run may begin.
use Rattle.std.specs.Prelude.{ℕ, ◌≡◌, List, length}
use Rattle.rules.specs.Table.{State}
use Rattle.rules.specs.Fresh.{fresh}
use Rattle.rules.specs.Load.{load}
use Rattle.rules.specs.Steps.{code_of}

-- the numbers of edges to a node for which the collector has its phases: a left and a right one
abbrev pub Served : ℕ → Type 0
Served e = e ≡ 2

-- a table of e edges to a node, for m nodes and r slots, from which calls may be made
pub data Start (e m r : ℕ) : State → Type 0 where
  -- one that Fresh made, of lists of any contents
  by_fresh : (edges : List (List ℕ)) (colours : List ℕ) → Served e → length edges ≡ e
      → code_of (fresh m r edges colours).answer ≡ 0
      → Start e m r (fresh m r edges colours).state
  -- [Load 10] one that Load accepted, in lists of any contents
  by_load : (given edges : List (List ℕ)) (colours : List ℕ) → Served e → length given ≡ e
      → code_of (load m r given edges colours).answer ≡ 0
      → Start e m r (load m r given edges colours).state
