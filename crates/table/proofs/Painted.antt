-- A write counts one where the number that stood there is another one.
use Prim.Native.Nat.{ℕ, ◌<◌}
use mathlib.Core.Bool.{Bool, true, false, not}
use mathlib.Core.Path.{◌≡◌, refl, sym, ◌∙◌}
use mathlib.Core.List.{List}
use mir.Val.{bool_byte}
use lib.Dec.{eqb}
use lib.ListN.{length, get_or, set}
use Rattle.base.specs.Choice.{pick}
use Rattle.rules.specs.Changes.{differs, differing}
use Rattle.rules.proofs.Changes.{one_set}

as_byte : (b : Bool) → bool_byte (not b) ≡ pick b 0 1
unfolding pick
as_byte true = refl
as_byte false = refl

pub painted : (c : List ℕ) (n v : ℕ) → n < length c
    → bool_byte (not (eqb (get_or c n 0) v)) ≡ differing c (set c n v)
unfolding differs
painted c n v h = as_byte (eqb (get_or c n 0) v) ∙ sym (one_set c n v h)
