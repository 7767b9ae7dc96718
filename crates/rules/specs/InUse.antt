-- The section In use of docs/RULES.md: how many nodes slots reach at the moment of asking.
use Rattle.base.specs.Choice.{pick, every}
use Rattle.std.specs.Prelude.{ℕ, ◌+◌, ◌-◌, Bool, not, List, [], ◌∷◌, get_or, ltb, eqb}
use Rattle.rules.specs.Table.{State, refused_with, refused, bad_edge}
use Rattle.rules.specs.Check.{check}
use Rattle.rules.specs.Meet.{Met, meet, lowest, any_edge, first_side}
use Rattle.rules.specs.declared.Answer.{Answer}
use Rattle.rules.specs.declared.Answer.TheVariants.{Counted}

-- [In use 2] node n is met and has a bad edge
unfoldable pub is_hurt : ℕ → List (List ℕ) → List ℕ → ℕ → Bool
is_hurt m es num n = every (not (eqb (get_or num n 0) 0) ∷ any_edge (bad_edge m) es n ∷ [])

-- [In use 2] the lowest such node; m where there is none
unfoldable pub first_hurt : ℕ → List (List ℕ) → List ℕ → ℕ
first_hurt m es num = lowest (is_hurt m es num) m 0

-- [In use 2] 7 where node n is hurt, with the first side on which its edge is bad
unfoldable pub hurt_at : ℕ → List (List ℕ) → ℕ → Answer
hurt_at m es n = refused_with 7 n (first_side (bad_edge m) es n)

-- [In use 2] 7 where a node that is met is hurt. [In use 1] Else the nodes met are counted but for
-- the slots', which have the numbers 2 to r + 1.
unfoldable pub count_met : ℕ → ℕ → List (List ℕ) → Met → Answer
count_met m r es s =
    pick (ltb (first_hurt m es s.num) m) (hurt_at m es (first_hurt m es s.num))
    (Counted (s.tail - (r + 2)))

-- [In use 2] first the codes 1 and 2; [In use 3] no colour is read
unfoldable pub in_use : State → Answer
in_use s =
    pick (eqb (check s) 0)
    (count_met s.rec.m s.rec.r s.edges (meet s.rec.m s.rec.r s.edges))
    (refused (check s) 0)
