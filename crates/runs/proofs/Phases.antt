-- The phases of the record, one by one: how code 2 tests each, and what the collector's step does
-- there. What is proved of a phase elsewhere goes by its kind, or by this view of it.
use Prim.Native.Nat.{ℕ, suc, ◌<◌}
use mathlib.Core.Bool.{true, false, true≢false}
use mathlib.Core.Path.{◌≡◌, refl, sym, ap, ◌∙◌}
use mathlib.Core.Logic.{◌≢◌}
use native.Mathlib.Omega.{arith}
use Rattle.rules.specs.Table.{State, edge}
use Rattle.rules.specs.Check.{phase_ok}
use Rattle.rules.specs.Collector.{shade_step, read_step, phase_step}
use Rattle.rules.proofs.PhaseSteps.{node_ok, read_ok}
use Rattle.rules.specs.declared.Phase.{Phase}
use Rattle.rules.specs.declared.Phase.TheVariants.{Roots, Scan, Left, ShadeLeft, Right}
use Rattle.rules.specs.declared.Phase.TheVariants.{ShadeRight, Black, Append}
use Rattle.theory.specs.Phase as S
use Rattle.runs.specs.Runs.{kind, append_at}
use Rattle.runs.specs.Start.{Served}

-- edge j of i is read, and then comes the phase that shades the number read
pub record Reads (E : ℕ) (ph : Phase) (i j : ℕ) : Type 0 where
  pub then : ℕ → Phase
  pub here : kind E ph ≡ S.Working i j
  pub next : (n : ℕ) → kind E (then n) ≡ S.Holding i j n
  pub below : j < E
  pub test : (m r : ℕ) → i < m → true ≡ phase_ok m r ph
  pub step : (s : State) → phase_step s ph ≡ read_step s i j (edge s j i) (then (edge s j i))

-- edge j of i was read as n, which is shaded, and then comes the phase `then`
pub record Shades (E : ℕ) (ph : Phase) (i j n : ℕ) : Type 0 where
  pub then : Phase
  pub here : kind E ph ≡ S.Holding i j n
  pub next : kind E then ≡ S.Working i (suc j)
  pub test : (m r : ℕ) → i < m → n ≢ 1 → n < m → true ≡ phase_ok m r ph
  pub step : (s : State) → phase_step s ph ≡ shade_step s n then

pub data View (E : ℕ) : Phase → Type 0 where
  rooting : (i : ℕ) → View E (Roots i)
  seeking : (i k : ℕ) → View E (Scan i k)
  reading : {ph : Phase} {i j : ℕ} → Reads E ph i j → View E ph
  shading : {ph : Phase} {i j n : ℕ} → Shades E ph i j n → View E ph
  blackening : (i : ℕ) → View E (Black i)
  appending : (i : ℕ) → View E (Append i)

pub view : {E : ℕ} → Served E → (ph : Phase) → View E ph
unfolding phase_step
view few (Roots i) = rooting i
view few (Scan i k) = seeking i k
view few (Left i) = reading {i = i} {j = 0} record {
  then = ShadeLeft i;
  here = refl;
  next = λ n. refl;
  below = omega (arith, few);
  test = λ m r h. node_ok m r (Left i) (omega arith) refl h;
  step = λ s. refl;
}
view few (ShadeLeft i n) = shading {i = i} {j = 0} {n = n} record {
  then = Right i;
  here = refl;
  next = refl;
  test = λ m r h k l. read_ok m r (ShadeLeft i n) (omega arith) refl h k l;
  step = λ s. refl;
}
view few (Right i) = reading {i = i} {j = 1} record {
  then = ShadeRight i;
  here = refl;
  next = λ n. refl;
  below = omega (arith, few);
  test = λ m r h. node_ok m r (Right i) (omega arith) refl h;
  step = λ s. refl;
}
view few (ShadeRight i n) = shading {i = i} {j = 1} {n = n} record {
  then = Black i;
  here = refl;
  next = ap (S.Working i) few;
  test = λ m r h k l. read_ok m r (ShadeRight i n) (omega arith) refl h k l;
  step = λ s. refl;
}
view few (Black i) = blackening i
view few (Append i) = appending i

unlike : {i : ℕ} {k : S.Phase} → k ≡ S.Appending i → append_at (λ j. true) k ≡ false → ⊥
unfolding append_at
unlike q e = true≢false (ap (append_at (λ j. true)) (sym q) ∙ e)

-- no other phase is an appending
pub is_append : {E i : ℕ} {ph : Phase} → View E ph → kind E ph ≡ S.Appending i → ph ≡ Append i
unfolding append_at
is_append (rooting j) q = absurd (unlike q refl)
is_append (seeking j k) q = absurd (unlike q refl)
is_append (reading k) q = absurd (unlike (sym k.here ∙ q) refl)
is_append (shading k) q = absurd (unlike (sym k.here ∙ q) refl)
is_append (blackening j) q = absurd (unlike q refl)
is_append {i = i} (appending j) q = let z : j ≡ i = cc in ap Append z
