-- What a line does in the first entries of the program's own tables.
use Rattle.std.specs.Prelude.{ℕ, ◌≡◌, [], get_or, take, drop}
use Rattle.rules.specs.Table.{State, state}
use Rattle.lines.specs.Lines.{Line, prints}

-- the first m entries of each list
abbrev pub fronts : ℕ → State → State
fronts m s =
    state (take m (get_or s.edges 0 [])) (take m (get_or s.edges 1 [])) (take m s.colour)
    s.rec

-- f makes these numbers, and t in the place of s, in the first m entries of the lists; what lies
-- behind them stays
pub record Replaces (m : ℕ) (f : State → Line) (s : State) (code node : ℕ) (t : State)
    : Type 0 where
  pub front : prints code node (fronts m t) ≡ f (fronts m s)
  pub left : drop m (get_or t.edges 0 []) ≡ drop m (get_or s.edges 0 [])
  pub right : drop m (get_or t.edges 1 []) ≡ drop m (get_or s.edges 1 [])
  pub colour : drop m t.colour ≡ drop m s.colour
