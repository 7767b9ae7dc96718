-- Words for contracts: the state that a call is given, and what it leaves.
use Rattle.std.specs.Prelude.{ℕ, List}
use Rattle.rules.specs.Table.{State, Outcome, state, outcome}
use Rattle.rules.specs.declared.Record.{Record}
use Rattle.rules.specs.declared.Made.{Made}

-- its three slices as they were, and its record
abbrev pub given : List ℕ → List ℕ → List ℕ → Record → State
given left right colour x = state left right colour x

-- its answer and record, and its three slices as they are
abbrev pub leaves : Made → List ℕ → List ℕ → List ℕ → Outcome
leaves made left right colour = outcome made left right colour
