-- The colours that Take changes: those of the two nodes it shades, which may be the same.
use Prim.Native.Nat.{ℕ, ◌+◌, ◌≤◌, ◌<◌}
use mathlib.Core.Path.{◌≡◌}
use mathlib.Core.List.{List}
use lib.ListN.{length}
use Rattle.rules.specs.Table.{shade_in}
use Rattle.rules.specs.Changes.{differing}
use Rattle.rules.proofs.Changes.{shaded_most, two_shaded}

pub at_most_one : (c c₁ : List ℕ) (f a : ℕ) → c₁ ≡ shade_in c f → a ≡ differing c c₁ → a ≤ 1
at_most_one c c₁ f a p q = rw (q, p) (shaded_most c f)

pub summed : (c c₁ c₂ : List ℕ) (f g a b : ℕ) → f < length c → g < length c → c₁ ≡ shade_in c f
    → c₂ ≡ shade_in c₁ g → a ≡ differing c c₁ → b ≡ differing c₁ c₂ → a + b ≡ differing c c₂
summed c c₁ c₂ f g a b h k p q v w = rw (v, w, q, p) (two_shaded c f g h k)
