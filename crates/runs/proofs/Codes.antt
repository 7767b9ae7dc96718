-- The codes that a run may answer: whether a code is one of those that it may not is computed, so
-- that they stand in one list. What the editor's tests before the walk answer is none of them.
use Prim.Native.Nat.{ℕ}
use mathlib.Core.Bool.{Bool, true, false, ◌||◌, true≢false}
use mathlib.Core.Path.{◌≡◌, refl, ◌∙◌}
use mathlib.Core.Logic.{inl, inr}
use mathlib.Core.List.{List, [], ◌∷◌}
use lib.Dec.{eqb}
use Rattle.base.specs.Choice.{first}
use Rattle.base.proofs.Tests.{eq_yes, or_first, split}
use Rattle.rules.specs.Places.{place_code}
use Rattle.rules.specs.Editor.{side_code, owed_code}
use Rattle.rules.specs.declared.Place.{Place}
use Rattle.theory.specs.Free.{Mem}
use Rattle.runs.specs.Demand.{never, Allowed}
use Rattle.rules.specs.Records.{Owed}
use Rattle.std.specs.Prelude.{Some, None}

abbrev among : ℕ → List ℕ → Bool
among n [] = false
among n (c ∷ cs) = eqb n c || among n cs

or_second : (a b : Bool) → a || b ≡ false → b ≡ false
or_second true b q = absurd (true≢false q)
or_second false b q = q

not_among : (n : ℕ) (cs : List ℕ) → among n cs ≡ false → ¬ Mem n cs
not_among n [] q m = elim m [ ]
not_among n (c ∷ cs) q (inl e) = true≢false (or_first (eqb n c) (among n cs) (eq_yes n c e) ∙ q)
not_among n (c ∷ cs) q (inr m) = not_among n cs (or_second (eqb n c) (among n cs) q) m

-- of a code that is a numeral the test is `refl`
pub allowed : {code : ℕ} → among code never ≡ false → Allowed code
allowed {code} q = not_among code never q

-- each of the codes is allowed
abbrev pub AllAllowed : List ℕ → Type 0
AllAllowed [] = Unit {0}
AllAllowed (c ∷ cs) = Allowed c × AllAllowed cs

pub allowed_first : (cs : List ℕ) → AllAllowed cs → Allowed (first cs)
unfolding first
allowed_first [] h = allowed refl
allowed_first (c ∷ cs) h = split Allowed _ _ _ (λ q. allowed_first cs h.1) (λ q. h.0)

pub allowed_place : (e r : ℕ) (p : Place) → Allowed (place_code e r p)
unfolding place_code
allowed_place e r p =
    split Allowed _ _ _ (λ a. split Allowed _ _ _ (λ b. allowed refl) (λ b. allowed refl))
    (λ a. allowed refl)

pub allowed_side : (e side : ℕ) → Allowed (side_code e side)
unfolding side_code
allowed_side e side = split Allowed _ _ _ (λ a. allowed refl) (λ a. allowed refl)

pub allowed_owed : (o : Owed) → Allowed (owed_code o)
unfolding owed_code
allowed_owed None = allowed refl
allowed_owed (Some n) = allowed refl
