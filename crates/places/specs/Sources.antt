-- Words of the inner functions' contracts: the source of a step that changes an edge. No promise
-- rests on this file.
use Rattle.base.specs.Choice.{pick, first}
use Rattle.std.specs.Prelude.{ℕ, [], ◌∷◌, eqb, Result, Ok, Err}
use Rattle.rules.specs.Table.{NIL}
use Rattle.rules.specs.Places.{place_code}
use Rattle.rules.specs.Editor.{side_code, owed_code}
use Rattle.rules.specs.declared.Record.{Record}
use Rattle.rules.specs.declared.Place.{Place}
use Rattle.rules.specs.Places.{Walk}
use Rattle.rules.specs.declared.Damaged.{Damaged}
use Rattle.places.specs.declared.Refusal.{Refusal}

-- the refusals after codes 1 and 2 that read nothing of the table, in order; target is the code of
-- the target's place
unfoldable pub edit_code : Record → Place → ℕ → ℕ → ℕ
edit_code x p side target =
    first (side_code 2 side ∷ place_code 2 x.r p ∷ target ∷ owed_code x.owed ∷ [])

-- a bad edge on the way refuses the step
abbrev pub missed : Damaged → Refusal
missed d = record { code = 7; node = d.node; detail = d.side }

-- where a walk to a source ends, or why the step is refused
unfoldable pub source_of : Walk → Result ℕ Refusal
source_of (Ok n) = pick (eqb n NIL) (Err (record { code = 8; node = 0; detail = 0 })) (Ok n)
source_of (Err d) = Err (missed d)
