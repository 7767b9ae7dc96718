-- A word of an inner function's contract. No promise rests on this file.
use Rattle.base.specs.Choice.{first}
use Rattle.std.specs.Prelude.{ℕ, [], ◌∷◌}
use Rattle.rules.specs.Check.{check_of}
use Rattle.rules.specs.declared.Record.{Record}

-- 1, 2, else 10
unfoldable pub unreadable : ℕ → ℕ → ℕ → Record → ℕ
unreadable ll rl cl x = first (check_of (ll ∷ rl ∷ []) cl x ∷ 10 ∷ [])
