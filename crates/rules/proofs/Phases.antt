-- A phase and its three numbers tell the same.
use Prim.Native.Nat.{ℕ, zero, suc, ◌≤◌}
use mathlib.Core.Bool.{false, true≢false}
use mathlib.Core.Path.{◌≡◌, refl}
use native.Mathlib.Omega.{arith}
use Rattle.base.specs.Choice.{pick}
use Rattle.rules.specs.Phases.{most_tag, tag_of, position, second, has_second, phase_of}
use Rattle.rules.specs.declared.Phase.{Phase}
use Rattle.rules.specs.declared.Phase.TheVariants.{Roots, Scan, Left, ShadeLeft, Right}
use Rattle.rules.specs.declared.Phase.TheVariants.{ShadeRight, Black, Append}

pub phase_back : (p : Phase) → phase_of (tag_of p) (position p) (second p) ≡ p
unfolding phase_of pick
phase_back (Roots i) = refl
phase_back (Scan i k) = refl
phase_back (Left i) = refl
phase_back (ShadeLeft i n) = refl
phase_back (Right i) = refl
phase_back (ShadeRight i n) = refl
phase_back (Black i) = refl
phase_back (Append i) = refl

pub tag_most : (p : Phase) → tag_of p ≤ most_tag
tag_most (Roots i) = omega arith
tag_most (Scan i k) = omega arith
tag_most (Left i) = omega arith
tag_most (ShadeLeft i n) = omega arith
tag_most (Right i) = omega arith
tag_most (ShadeRight i n) = omega arith
tag_most (Black i) = omega arith
tag_most (Append i) = omega arith

-- a phase that has no second number tells 0
pub no_second : (p : Phase) → has_second (tag_of p) ≡ false → second p ≡ 0
no_second (Roots i) e = refl
no_second (Scan i k) e = absurd (true≢false e)
no_second (Left i) e = refl
no_second (ShadeLeft i n) e = absurd (true≢false e)
no_second (Right i) e = refl
no_second (ShadeRight i n) e = absurd (true≢false e)
no_second (Black i) e = refl
no_second (Append i) e = refl

-- the numbers of a phase
pub record SamePhase (tag i k : ℕ) (p : Phase) : Type 0 where
  pub tag_is : tag_of p ≡ tag
  pub i_is : position p ≡ i
  pub k_is : second p ≡ k

-- those that make a phase are its own
pub phase_there : (tag i k : ℕ) → tag ≤ most_tag → (has_second tag ≡ false → 0 ≡ k)
    → SamePhase tag i k (phase_of tag i k)
unfolding phase_of pick
phase_there zero i k h z = record { tag_is = refl; i_is = refl; k_is = z refl }
phase_there (suc zero) i k h z = record { tag_is = refl; i_is = refl; k_is = refl }
phase_there (suc (suc zero)) i k h z = record { tag_is = refl; i_is = refl; k_is = z refl }
phase_there (suc (suc (suc zero))) i k h z =
    record { tag_is = refl; i_is = refl; k_is = z refl }
phase_there (suc (suc (suc (suc zero)))) i k h z =
    record { tag_is = refl; i_is = refl; k_is = z refl }
phase_there (suc (suc (suc (suc (suc zero))))) i k h z =
    record { tag_is = refl; i_is = refl; k_is = z refl }
phase_there (suc (suc (suc (suc (suc (suc zero)))))) i k h z =
    record { tag_is = refl; i_is = refl; k_is = refl }
phase_there (suc (suc (suc (suc (suc (suc (suc zero))))))) i k h z =
    record { tag_is = refl; i_is = refl; k_is = refl }
phase_there (suc (suc (suc (suc (suc (suc (suc (suc tag)))))))) i k h z = absurd (omega arith)
