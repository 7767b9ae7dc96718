-- Which nodes become free in many collector steps: the section Freed of docs/RULES.md.
use Rattle.base.specs.Choice.{pick}
use Rattle.std.specs.Prelude.{ℕ, zero, suc, ◌-◌, Bool, true, false, List, [], ◌∷◌, ◌++◌, length}
use Rattle.std.specs.Prelude.{drop, ltb, eqb}
use Rattle.rules.specs.Table.{State, state}
use Rattle.rules.specs.Steps.{step, collecting, code_of, node_of}
use Rattle.rules.specs.Schedules.{Followed, followed, schedule, collects}
use Rattle.rules.specs.Changes.{changes_all}
use Rattle.rules.specs.declared.Answer.{Answer}
use Rattle.rules.specs.declared.Answer.TheVariants.{Started, Named, Linked, Taken, Shaded, Looked}
use Rattle.rules.specs.declared.Answer.TheVariants.{Blackened, Whitened, Appended, Counted}
use Rattle.rules.specs.declared.Answer.TheVariants.{Refused}
use Rattle.freed.specs.declared.Freed.{Freed}

-- whether a step appended a node to the free list
abbrev pub is_appended : Answer → Bool
is_appended (Started n) = false
is_appended (Named n) = false
is_appended (Linked n) = false
is_appended (Taken n) = false
is_appended (Shaded n) = false
is_appended (Looked n) = false
is_appended (Blackened n) = false
is_appended (Whitened n) = false
is_appended (Appended n) = true
is_appended (Counted k) = false
is_appended (Refused code n detail) = false

-- the node that a step appended, or none
unfoldable pub appended_by : Answer → List ℕ
appended_by a = pick (is_appended a) (node_of a ∷ []) []

-- [Freed 1] the nodes that n collector steps append, in their order; a refused step ends it
unfoldable pub appended : ℕ → State → List ℕ
appended zero s = []
appended (suc n) s =
    pick (eqb (code_of (step collecting s).answer) 0)
    (appended_by (step collecting s).answer ++ appended n (step collecting s).state) []

-- [Freed 2] how many of n steps are asked for until so many nodes are appended
unfoldable pub asked : ℕ → ℕ → State → ℕ
asked zero room s = zero
asked (suc n) zero s = zero
asked (suc n) (suc room) s =
    suc (asked n (suc room - length (appended_by (step collecting s).answer))
    (step collecting s).state)

-- [Freed 2] for how many nodes a list has room; 16 bits hold their number
unfoldable pub room_of : ℕ → ℕ
room_of n = pick (ltb n 65535) n 65535

abbrev pub asked_in : ℕ → List ℕ → State → ℕ
asked_in n list s = asked n (room_of (length list)) s

-- [Freed 3] the run, and how many colours it changes
abbrev pub run_in : ℕ → List ℕ → State → Followed
run_in n list s = schedule (collects (asked_in n list s)) s

abbrev pub changes_in : ℕ → List ℕ → State → ℕ
changes_in n list s = changes_all (collects (asked_in n list s)) s

-- [Freed 4] the nodes that it appends
abbrev pub appended_in : ℕ → List ℕ → State → List ℕ
appended_in n list s = appended (asked_in n list s) s

-- [Freed 4] they stand at the beginning of the list, the rest of which stays
abbrev pub noted : List ℕ → List ℕ → List ℕ
noted nodes list = nodes ++ drop (length nodes) list

-- what `collect_freed` hands back, with the three slices as it leaves them
abbrev pub freed : Freed → List ℕ → List ℕ → List ℕ → Followed
freed d l r c = followed d.done d.code d.detail (state l r c d.rec)
