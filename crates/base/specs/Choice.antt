-- Three words that the definitions are written with. Proofs go by their laws (proofs/Tests.antt).
use Rattle.std.specs.Prelude.{ℕ, eqb, List, [], ◌∷◌, Bool, true, false, ◌&&◌}

-- a where the test is passed, else b
unfoldable pub pick : {A : Type 0} → Bool → A → A → A
pick true a b = a
pick false a b = b

-- whether all tests are passed
unfoldable pub every : List Bool → Bool
every [] = true
every (b ∷ bs) = b && every bs

-- the first code that is not 0; 0 where each is 0
unfoldable pub first : List ℕ → ℕ
first [] = 0
first (c ∷ cs) = pick (eqb c 0) (first cs) c
