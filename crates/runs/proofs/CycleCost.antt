-- A cycle takes at most what its marking costs by the nodes that it blackens (`cost`), and M
-- collector steps more for the appending, whatever the editor does.
use Prim.Native.Nat.{ℕ, suc, ◌+◌, ◌*◌, ◌≤◌}
use mathlib.Core.Bool.{Bool, true, false, true≢false}
use mathlib.Core.Path.{◌≡◌, refl, sym, ap, ◌∙◌}
use mathlib.Core.List.{List, [], ◌∷◌}
use native.Mathlib.Nat.{mul-le-mul_right}
use native.Mathlib.Omega.{arith}
use Rattle.base.specs.Choice.{pick}
use Rattle.base.proofs.Tests.{each}
use Rattle.rules.specs.Table.{State}
use Rattle.rules.specs.Steps.{step}
use Rattle.rules.specs.declared.Step.{Step}
use Rattle.rules.specs.declared.Phase.TheVariants.{Roots}
use Rattle.theory.specs.Phase as K
use Rattle.theory.proofs.Update.{Colours}
use Rattle.runs.specs.Runs.{after, collector_steps, kind, last_append, completes}
use Rattle.runs.specs.Runs.{blackens, Count}
use Rattle.runs.proofs.Bill.{cost, Bill, of_roots, last_paid}
use Rattle.runs.proofs.Sound.{Sound}
use Rattle.runs.proofs.AnyStep.{Stepped, goes_on, closes, edits, stepped, sound_step}
use Rattle.runs.proofs.Machine.{one_more_lem, no_more}
use Rattle.runs.proofs.Cycles.{Reached, sound_reached, ToEnd, last, more, blackenings}

-- the most that a cycle takes which blackens b nodes
abbrev pub tight : ℕ → ℕ → ℕ → ℕ → ℕ
tight E m r b = cost E m r b + m

at_last : {E : ℕ} (c : Step) (s : State) → Sound E s → completes c s ≡ true
    → last_append s.rec.m (kind E s.rec.phase) ≡ true
unfolding completes
at_last c s g e = rw g.rows.count at (each _ (sym e)).1.0

one_black : (t : Bool) (b k : ℕ) → pick t (b + 1) b + k ≡ b + (pick t 1 0 + k)
unfolding pick
one_black true b k = omega arith
one_black false b k = omega arith

-- the rest of a cycle, with what was paid before it
rest_cost : {E m r : ℕ} {cs : List Step} {s : State} → ToEnd cs s → Sound E s → s.rec.m ≡ m
    → s.rec.r ≡ r
    → s.rec.steps + collector_steps cs ≤ tight E m r (s.rec.blackened + blackenings cs s)
unfolding collector_steps pick
rest_cost {E} {m} {r} (last {c = c} {s = s} e) g qm qr = go (stepped c s g)
  where
    go : Stepped E c s → s.rec.steps + collector_steps (c ∷ []) ≤ tight E m r
        (s.rec.blackened + blackenings (c ∷ []) s)
    go (goes_on e₁ a k) = absurd (true≢false (sym e ∙ e₁))
    go (closes e₁ a k) =
        let p = rw (qm, qr) at (last_paid (at_last c s g e) g.inv.in_phase g.bill) in
        let q : s.rec.blackened ≤ s.rec.blackened + blackenings (c ∷ []) s = omega arith in
        omega (arith, p, one_more_lem c [] k.kind, mul-le-mul_right (m + suc (2 * E)) q)
    go (edits e₁ h k) = absurd (true≢false (sym e ∙ e₁))
rest_cost {E} {m} {r} (more {c = c} {cs = cs} {s = s} e t) g qm qr = go (stepped c s g)
    (rest_cost t (sound_step c s g))
  where
    go : Stepped E c s
        → ((after c s).rec.m ≡ m → (after c s).rec.r ≡ r
        → (after c s).rec.steps + collector_steps cs ≤ tight E m r
        ((after c s).rec.blackened + blackenings cs (after c s)))
        → s.rec.steps + collector_steps (c ∷ cs) ≤ tight E m r
        (s.rec.blackened + blackenings (c ∷ cs) s)
    go (goes_on e₁ a k) f =
        let p =
        rw (
          ap (λ (n : Count). n.blackened) a,
          one_black (blackens (step c s).answer)
              s.rec.blackened _,
        ) at (f (k.nodes ∙ qm) (k.slots ∙ qr)) in
        omega (arith, p, ap (λ (n : Count). n.since) a, one_more_lem c cs k.kind)
    go (closes e₁ a k) f = absurd (true≢false (sym e₁ ∙ e))
    go (edits e₁ h k) f =
        let p =
        rw (ap (λ (n : Count). n.blackened) k.same.counts) at
        (f (k.same.m ∙ qm) (k.same.r ∙ qr)) in
        rw k.blackens
        (omega (arith, p, ap (λ (n : Count). n.since) k.same.counts, no_more c cs h))

-- a cycle begins in Roots 0
pub cycle_cost : {E m r : ℕ} {cs : List Step} {s : State} → Reached E m r s → s.rec.phase
    ≡ Roots 0 → ToEnd cs s
    → collector_steps cs ≤ tight E m r (blackenings cs s)
cycle_cost {E} {m} {r} {cs} {s} k q t = go (rw q at g.0.bill) refl refl
  where
    g : Sound E s × (s.rec.m ≡ m) × (s.rec.r ≡ r)
    g = sound_reached k

    go : {c : Colours} {m' r' n b : ℕ} → Bill E m' r' c n b (Roots 0) (K.Rooting 0) → s.rec.steps
        ≡ n → s.rec.blackened ≡ b
        → collector_steps cs ≤ tight E m r (blackenings cs s)
    go (of_roots n0 b0) qn qb =
        let z : s.rec.blackened + blackenings cs s ≡ blackenings cs s = omega arith in
        omega (arith, rw z at (rest_cost t g.0 g.1 g.2))
