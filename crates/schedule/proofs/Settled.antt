-- What holds of the state before each step of a run: the first record passes, and no step breaks
-- more than the limits of the counts.
use Prim.Native.Nat.{ℕ, ◌+◌, ◌≤◌}
use mathlib.Core.Path.{◌≡◌, refl, sym, ap, subst, ◌∙◌}
use mathlib.Core.Bool.{Bool, true, false}
use mathlib.Core.List.{List, [], ◌∷◌}
use native.Mathlib.Omega.{arith}
use Rattle.base.specs.Choice.{pick}
use Rattle.base.proofs.Tests.{each, facts}
use Rattle.rules.specs.Table.{State, Outcome, state, outcome, refusal, most_nodes, most_slots}
use Rattle.rules.specs.Check.{bound, in_limits, size_ok, record_ok, check_of, check}
use Rattle.rules.specs.Steps.{step}
use Rattle.rules.specs.declared.Answer.TheVariants.{Named}
use Rattle.rules.specs.declared.Made.{Made}
use Rattle.rules.specs.declared.Record.{Record}
use Rattle.rules.specs.declared.Step.{Step}
use Rattle.rules.proofs.AnyStep.{step_kept}
use Rattle.rules.proofs.Changes.{Tells, told_none}
use Rattle.rules.proofs.Steady.{count, Kept, passed, passes_again, now_spoilt}
use Rattle.calls.proofs.Named.{none_passes}
use Rattle.schedule.specs.Stands.{Settled}

-- what the test of the limits tells of the code n
pub within : (n : ℕ) (b : Bool) → n ≡ pick b 0 2 → true ≡ b → 0 ≡ n
unfolding pick
within n b c h = sym (c ∙ ap (λ (z : Bool). pick z 0 2) (sym h))

pub past : (n : ℕ) (b : Bool) → n ≡ pick b 0 2 → false ≡ b → 2 ≡ n
unfolding pick
past n b c h = sym (c ∙ ap (λ (z : Bool). pick z 0 2) (sym h))

-- a step past a limit, as it is handed back
pub spoilt : (a : Step) (l r c : List ℕ) (x : Record) (d : Made) → d ≡ refusal 2 0 x
    → 2 ≡ check (state l r c x)
    → Tells (outcome d l r c) d.changed a (state l r c x)
spoilt a l r c x d e p =
    told_none d l r a (state l r c x)
    (rw e (none_passes a (state l r c x) 2 p (λ z. omega arith)))
    (ap (λ (d : Made). d.changed) e)

abbrev B : State → ℕ
B s = bound (count s) s.rec.m s.rec.r

module _ (s : State) where
  -- where s passes, so does what keeps it, but for the limits
  kept_settled : 0 ≡ check s → (o : Outcome) → Kept s o → Settled o.state
  unfolding pick
  kept_settled e o k = rw same (go (in_limits o.state.rec (B s)) refl)
    where
      same : B o.state ≡ B s
      same = rw (k.edges, k.rec.m, k.rec.r) refl

      go : (b : Bool) → in_limits o.state.rec (B s) ≡ b → check o.state ≡ pick b 0 2
      go true q = sym (passes_again s e o k (sym q))
      go false q = sym (now_spoilt s e o k (sym q))

  pub starts_settled : 0 ≡ check s → Settled s
  starts_settled e =
      kept_settled e (record { answer = Named 0; state = s })
      record { rec = (passed _ _ s.rec e).self; edges = refl; colours = refl }

  pub step_settled : Settled s → (a : Step) → Settled (step a s).state
  step_settled c a = go (in_limits s.rec (B s)) refl
    where
      go : (b : Bool) → in_limits s.rec (B s) ≡ b → Settled (step a s).state
      go true q =
          let e = within _ _ c (sym q) in kept_settled e (step a s) (step_kept s e a)
      go false q =
          let e = past _ _ c (sym q) in
          subst (λ (o : Outcome). Settled o.state)
          (none_passes a s 2 e (λ z. omega arith)) c

-- the sizes are good where code 1 is not given
sized_by : (z w : Bool) (n : ℕ) → n ≡ pick z (pick w 0 2) 1 → (n ≡ 1 → ⊥) → true ≡ z
unfolding pick
sized_by true w n e h = refl
sized_by false w n e h = absurd (h e)

not_one : (b : Bool) (n : ℕ) → n ≡ pick b 0 2 → n ≡ 1 → ⊥
unfolding pick
not_one true n e q = omega arith
not_one false n e q = omega arith

pub sizes : (ll rl cl : ℕ) (x : Record) (b : Bool) → check_of (ll ∷ rl ∷ []) cl x ≡ pick b 0 2
    → (x.m ≤ most_nodes) × (x.r ≤ most_slots) × (x.r + 2 ≤ x.m)
unfolding check_of size_ok
sizes ll rl cl x b e =
    let f = each _ (sized_by (size_ok x.m x.r (ll ∷ rl ∷ []) cl) (record_ok 2 x) _ refl
    (not_one b _ e)) in
    omega facts
