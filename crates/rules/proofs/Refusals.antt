-- What a test of the definitions tells where it refuses: the facts of Damage.
use Prim.Native.Nat.{ℕ, ◌≤◌, ◌<◌}
use mathlib.Core.Bool.{Bool, true, false, ◌||◌}
use mathlib.Core.Path.{◌≡◌, refl, ap}
use mathlib.Core.List.{List, []}
use mathlib.Core.Logic.{◌≢◌, ◌⊎◌, inl, inr}
use native.Mathlib.Decide.{dec_lt}
use native.Mathlib.Omega.{arith}
use lib.ListN.{length, get_or, get_or-eq_default}
use lib.Dec.{ltb, leb, eqb}
use borrow.Author.Tests.{ltb-false, leb-true, eqb-true, eqb-false}
use Rattle.base.proofs.Tests.{split}
use Rattle.rules.specs.Table.{State, sides, FREE, edge_of, edge, white, gray, black, bad_edge}
use Rattle.rules.specs.Check.{check_of, check}
use Rattle.rules.specs.Damage.{Bad, Means, edge_met}
use Rattle.rules.specs.declared.Answer.TheVariants.{Refused}

-- a code of those that are judged before the table is read
abbrev pub Early : ℕ → Type 0
Early code = (code ≤ 10) × (code ≢ 7)

pub check_early : (s : State) → Early (check s)
unfolding check_of
check_early s =
    split Early _ _ _
    (λ p. split Early _ _ _ (λ q. (omega arith, λ e. omega arith))
    (λ q. (omega arith, λ e. omega arith)))
    (λ p. (omega arith, λ e. omega arith))

pub either : (a b : Bool) → (a || b) ≡ true → (a ≡ true) ⊎ (b ≡ true)
either true b h = inl refl
either false b h = inr h

-- a colour that is neither black nor white, and is one
pub is_gray : (c : ℕ) → eqb c black ≡ false → eqb c white ≡ false → ltb black c ≡ false → c ≡ gray
is_gray c p q r =
    omega (arith, eqb-false c black p, eqb-false c white q, ltb-false black c r)

-- an edge on a side that the table has not is 0
no_side : (es : List (List ℕ)) (side n : ℕ) → length es ≤ side → edge_of es side n ≡ 0
unfolding edge_of
no_side es side n h = ap (λ (l : List ℕ). get_or l n 0) (get_or-eq_default es [] {n = side} h)

module _ (s : State) where
  is_bad : (e : ℕ) → bad_edge s.rec.m e ≡ true → Bad s e
  unfolding bad_edge
  is_bad e h = go (either _ _ h)
    where
      go : (leb s.rec.m e ≡ true) ⊎ (eqb e FREE ≡ true) → Bad s e
      go (inl a) = inl (leb-true _ _ a)
      go (inr a) = inr (eqb-true _ _ a)

  on_side : 3 ≤ s.rec.m → (side n : ℕ) → Bad s (edge s side n) → side < sides s
  on_side low side n b = go (dec_lt side (sides s)) b
    where
      go : Dec (side < sides s) → Bad s (edge s side n) → side < sides s
      go (yes l) b = l
      go (no l) (inl a) =
          absurd (omega (arith, low, a, no_side s.edges side n (omega arith)))
      go (no l) (inr a) =
          absurd (omega (arith, a, no_side s.edges side n (omega arith)))

  pub damaged : 3 ≤ s.rec.m → (side n : ℕ) → bad_edge s.rec.m (edge s side n) ≡ true
      → Means s (Refused 7 n side)
  damaged low side n q = let b = is_bad _ q in edge_met (on_side low side n b) b
