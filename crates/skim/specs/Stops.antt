-- Colours that stop a look, counted.
use Rattle.std.specs.Prelude.{ℕ, zero, suc, ◌+◌, ◌%◌, ◌≤◌, ◌<◌, ◌≡◌, List, get_or, eqb}
use Rattle.base.specs.Choice.{pick}

-- a look passes over white and black; gray stops it, and so does a colour above 2
unfoldable pub stop : ℕ → ℕ
stop v = pick (eqb v 0) 0 (pick (eqb v 2) 0 1)

-- how many of the d colours from i on stop a look
unfoldable pub stops : List ℕ → ℕ → ℕ → ℕ
stops c i zero = 0
stops c i (suc d) = stops c i d + stop (get_or c (i + d) 0)

-- of the first j colours from i on those before f are passed over
pub record Upto (c : List ℕ) (i j f : ℕ) : Type 0 where
  pub none : (q : ℕ) → q ≤ j → q ≤ f → 0 ≡ stops c i q

-- a look passes over each of the d colours from i on, round a table of m
pub record NoStop (c : List ℕ) (m i d : ℕ) : Type 0 where
  pub none : (j : ℕ) → j < d → 0 ≡ stop (get_or c ((i + j) % m) 0)

-- the colours that are read at a time
abbrev pub block : ℕ
block = 64
