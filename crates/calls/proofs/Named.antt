-- Which call a step's kind names; and what any step answers to a record that does not pass.
use Prim.Native.Nat.{ℕ}
use native.Mathlib.Omega.{arith}
use lib.Dec.{eqb}
use mathlib.Core.Path.{◌≡◌, refl, ap, ◌∙◌}
use mathlib.Core.List.{List, [], ◌∷◌}
use Rattle.base.specs.Choice.{pick, first}
use Rattle.base.proofs.Tests.{split, pick_yes, pick_no, eq_yes, eq_no, first_here, first_skip}
use Rattle.base.proofs.Tests.{first_last}
use Rattle.rules.specs.Table.{State, Outcome, outcome, refuse}
use Rattle.rules.specs.Check.{check}
use Rattle.rules.specs.Editor.{look, link, shade_owed, take}
use Rattle.rules.specs.Collector.{phase_step, collect}
use Rattle.rules.specs.Steps.{step, source, target, taking, linking, shading, collecting, looking}
use Rattle.rules.specs.Changes.{differing, changes}
use Rattle.rules.specs.declared.Step.{Step}
use Rattle.rules.specs.declared.Place.{Place}
use Rattle.rules.specs.declared.Made.{Made}
use Rattle.rules.proofs.Changes.{Tells, told}
use Rattle.rules.proofs.Laws.{step_taking, step_linking, step_shading, step_collecting}
use Rattle.rules.proofs.Laws.{step_looking, unless_done, unless_refused}

module _ (a : Step) (s : State) where
  -- a call that does b's step, which is a's, and counts the colours that it changes
  pub named : (b : Step) (o : Outcome) (n : ℕ) → Tells o n b s → step b s ≡ step a s
      → Tells o n a s
  unfolding changes
  named b o n h e = record {
    colour_value = h.colour_value ∙ e;
    changed_value =
        h.changed_value ∙ ap (λ (p : Outcome). differing s.colour p.state.colour) e;
  }

  is : (n : ℕ) (y o : Outcome) → a.kind ≡ n → y ≡ pick (eqb a.kind n) y o
  is n y o h = pick_yes _ _ _ _ (eq_yes a.kind n h) refl

  not : (n : ℕ) (z y o : Outcome) → (a.kind ≡ n → ⊥) → z ≡ o → z ≡ pick (eqb a.kind n) y o
  not n z y o h q = pick_no _ _ _ _ (eq_no a.kind n h) q

  pub kind_take : (p : Place) → p ≡ source a → a.kind ≡ 0 → step (taking p a.side) s ≡ step a s
  unfolding step
  kind_take p e h = step_taking p a.side s ∙ rw e (is 0 _ _ h)

  pub kind_link : (p q : Place) → p ≡ source a → q ≡ target a → a.kind ≡ 1
      → step (linking p a.side q) s ≡ step a s
  unfolding step
  kind_link p q e f h =
      step_linking p a.side q s ∙ rw (e, f) (not 0 _ _ _ (λ z. omega arith) (is 1 _ _ h))

  pub kind_shade : a.kind ≡ 2 → step shading s ≡ step a s
  unfolding step
  kind_shade h =
      step_shading s ∙ not 0 _ _ _ (λ z. omega arith) (not 1 _ _ _ (λ z. omega arith) (is 2 _ _ h))

  pub kind_collect : a.kind ≡ 3 → step collecting s ≡ step a s
  unfolding step
  kind_collect h =
      step_collecting s ∙ not 0 _ _ _ (λ z. omega arith)
      (not 1 _ _ _ (λ z. omega arith) (not 2 _ _ _ (λ z. omega arith) (is 3 _ _ h)))

  pub kind_look : (p : Place) → p ≡ source a → a.kind ≡ 4 → step (looking p) s ≡ step a s
  unfolding step
  kind_look p e h =
      step_looking p s ∙ rw e
      (not 0 _ _ _ (λ z. omega arith) (not 1 _ _ _ (λ z. omega arith)
      (not 2 _ _ _ (λ z. omega arith) (not 3 _ _ _ (λ z. omega arith) (is 4 _ _ h)))))

  pub kind_none : (code : ℕ) → code ≡ first (check s ∷ 10 ∷ []) → (a.kind ≡ 0 → ⊥)
      → (a.kind ≡ 1 → ⊥) → (a.kind ≡ 2 → ⊥) → (a.kind ≡ 3 → ⊥) → (a.kind ≡ 4 → ⊥)
      → refuse s code 0 ≡ step a s
  unfolding step
  kind_none code e h i j k l =
      not 0 _ _ _ h (not 1 _ _ _ i (not 2 _ _ _ j (not 3 _ _ _ k (not 4 _ _ _ l (rw e)))))

  -- any step of a record that does not pass
  pub none_passes : (code : ℕ) → code ≡ check s → (code ≡ 0 → ⊥) → refuse s code 0 ≡ step a s
  unfolding step take link shade_owed collect look
  none_passes code e n =
      let Refuses : Outcome → Type 0 = λ o. refuse s code 0 ≡ o in
      split Refuses _ _ _ (λ q. unless_refused _ s _ _ (first_here _ _ _ _ e n refl) n)
      (λ q. split Refuses _ _ _ (λ q. unless_refused _ s _ _ (first_here _ _ _ _ e n refl) n)
      (λ q. split Refuses _ _ _ (λ q. unless_refused _ s _ _ e n)
      (λ q. split Refuses _ _ _ (λ q. unless_refused _ s _ _ e n)
      (λ q. split Refuses _ _ _ (λ q. unless_refused _ s _ _ (first_here _ _ _ _ e n refl) n)
      (λ q. ap (λ (k : ℕ). refuse s k 0) (first_here _ _ _ _ e n refl))))))

-- the step of the phase is the collector's where the record passes
pub collected : (d : Made) (l r c : List ℕ) (s : State) → 0 ≡ check s
    → outcome d l r c ≡ phase_step s s.rec.phase → d.changed ≡ differing s.colour c
    → Tells (outcome d l r c) d.changed collecting s
unfolding collect
collected d l r c s p e n =
    told d l r c collecting s (rw step_collecting (unless_done _ _ _ 0 _ p refl e)) n

-- [Steps 4] what is no step, where the record passes
pub none_read : (code : ℕ) → 0 ≡ code → 10 ≡ first (code ∷ 10 ∷ [])
none_read code p = first_skip 10 0 _ _ p refl (first_last _ _ refl)
