-- Schedules, and many collector steps at once: the sections Schedules and Many of docs/RULES.md.
use Rattle.base.specs.Choice.{pick}
use Rattle.std.specs.Prelude.{ℕ, zero, suc, ◌+◌, List, [], ◌∷◌, eqb}
use Rattle.rules.specs.Table.{State, state}
use Rattle.rules.specs.Check.{check}
use Rattle.rules.specs.Steps.{step, collecting, code_of, detail_of}
use Rattle.rules.specs.declared.Step.{Step}
use Rattle.rules.specs.declared.Ran.{Ran}

-- [Schedules 3] how many steps were done, the code and the detail; and the state that is left
pub record Followed : Type 0 where
  pub done : ℕ
  pub code : ℕ
  pub detail : ℕ
  pub state : State

abbrev pub followed : ℕ → ℕ → ℕ → State → Followed
followed n code detail s = record { done = n; code = code; detail = detail; state = s }

-- what a function hands back, with the three slices as it leaves them
abbrev pub ran : Ran → List ℕ → List ℕ → List ℕ → Followed
ran d l r c = followed d.done d.code d.detail (state l r c d.rec)

-- [Schedules 1] one step after another until one is refused, [Schedules 2] which leaves the state
-- that the earlier ones made; n were done before
unfoldable pub follow : List Step → ℕ → State → Followed
follow [] n s = followed n 0 0 s
follow (a ∷ rest) n s =
    pick (eqb (code_of (step a s).answer) 0) (follow rest (n + 1) (step a s).state)
    (followed n (code_of (step a s).answer) (detail_of (step a s).answer) s)

-- [Schedules 4] codes 1 and 2 first, for no steps too
unfoldable pub schedule : List Step → State → Followed
schedule steps s = pick (eqb (check s) 0) (follow steps 0 s) (followed 0 (check s) 0 s)

-- [Many 1] n collector steps
unfoldable pub collects : ℕ → List Step
collects zero = []
collects (suc n) = collecting ∷ collects n
