-- Calls one after another, each given what the one before left: for the calls of any face.
-- Along them it is tracked what demand 3 promises of the state, if anything.
use Rattle.base.specs.Choice.{pick}
use Rattle.std.specs.Prelude.{ℕ, List, [], ◌∷◌, eqb, get_or}
use Rattle.rules.specs.Table.{State, state}
use Rattle.rules.specs.declared.Record.{Record}
use Rattle.rules.specs.declared.Step.{Step}
use Rattle.runs.specs.Runs.{Count, begun, count}
use Rattle.runs.specs.Demand.{Demand}

-- the three slices that a caller lends, and what it keeps beside them: X, the record or its words
pub record Lent (X : Type 0) : Type 0 where
  pub left : List ℕ
  pub right : List ℕ
  pub colour : List ℕ
  pub kept : X

abbrev pub lent : {X : Type 0} → List ℕ → List ℕ → List ℕ → X → Lent X
lent l r c x = record { left = l; right = r; colour = c; kept = x }

-- what a state of two edges is to its lender, who keeps a record by `keep`
abbrev pub lend : {X : Type 0} → (Record → X) → State → Lent X
lend keep s = lent (get_or s.edges 0 []) (get_or s.edges 1 []) s.colour (keep s.rec)

-- what a call is in a run: a start for M nodes and R slots that was answered with this code, or the
-- steps that were made
pub data Deed : Type 0 where
  starts : (m r code : ℕ) → Deed
  makes : List Step → Deed

-- the calls C: the record that is kept, what a call leaves, and what it is in a run
pub record Face (C X : Type 0) : Type 0 where
  pub record_in : X → Record
  pub leaves : C → Lent X → Lent X
  pub deed : C → State → Deed

module _ {C X : Type 0} (f : Face C X) where
  -- the state that is lent
  abbrev pub state_of : Lent X → State
  state_of h = state h.left h.right h.colour (f.record_in h.kept)

  -- what calls leave, one after another
  unfoldable pub calls : List C → Lent X → Lent X
  calls [] h = h
  calls (c ∷ cs) h = calls cs (f.leaves c h)

-- what is known of a state: nothing, or that it is one of a run from a start for m nodes and r
-- slots, along which n was counted
pub data Known : Type 0 where
  nothing : Known
  since : (m r : ℕ) → Count → Known

-- [Runs 1] A start that is accepted begins a run, and any start ends the one before. Steps go on
-- with the run: those that were made in state s are counted.
unfoldable pub track : Deed → State → Known → Known
track (starts m r code) s k = pick (eqb code 0) (since m r begun) nothing
track (makes cs) s nothing = nothing
track (makes cs) s (since m r n) = since m r (count cs s n)

-- what is known after calls, of which k was known before
unfoldable pub tracked : {C X : Type 0} (f : Face C X) → List C → Lent X → Known → Known
tracked f [] h k = k
tracked f (c ∷ cs) h k =
    tracked f cs (f.leaves c h) (track (f.deed c (state_of f h)) (state_of f h) k)

-- what is promised of a state of which so much is known
abbrev pub Promised : Known → State → Type 0
Promised nothing s = Unit {0}
Promised (since m r n) s = Demand 2 m r n s

-- Demand 3 for calls: of every list of calls, refused ones included, and of every three slices and
-- record, or words, to begin with. A state in the course of calls is what a shorter list leaves.
abbrev pub DemandCalls : {C X : Type 0} → Face C X → Type 0
DemandCalls {C} {X} f =
    (cs : List C) (h : Lent X) → Promised (tracked f cs h nothing) (state_of f (calls f cs h))
