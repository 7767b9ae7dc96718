-- How many colours steps change: the section Changes of docs/RULES.md. It is counted by comparing
-- the colours before and after, so no rule is told twice.
use Rattle.base.specs.Choice.{pick}
use Rattle.std.specs.Prelude.{ℕ, ◌+◌, List, [], ◌∷◌, eqb}
use Rattle.rules.specs.Table.{State}
use Rattle.rules.specs.Steps.{step, code_of}
use Rattle.rules.specs.declared.Step.{Step}

-- 1 where two entries differ, else 0
unfoldable pub differs : ℕ → ℕ → ℕ
differs x y = pick (eqb x y) 0 1

-- how many entries of two lists differ
unfoldable pub differing : List ℕ → List ℕ → ℕ
differing [] ys = 0
differing (x ∷ xs) [] = 0
differing (x ∷ xs) (y ∷ ys) = differs x y + differing xs ys

-- [Changes 1] how many colours a step changes: the nodes whose colour differs before and after
unfoldable pub changes : Step → State → ℕ
changes a s = differing s.colour (step a s).state.colour

-- [Changes 2] of steps in order, until one is refused: the sum over those that are done
unfoldable pub changes_all : List Step → State → ℕ
changes_all [] s = 0
changes_all (a ∷ rest) s =
    pick (eqb (code_of (step a s).answer) 0) (changes a s + changes_all rest (step a s).state) 0
