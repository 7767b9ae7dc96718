-- [Answers 4] A refused step leaves the state as it was: by the cases of the definitions.
use Prim.Native.Nat.{ℕ}
use mathlib.Core.Bool.{Bool, true, false}
use mathlib.Core.Path.{◌≡◌, refl}
use Rattle.base.specs.Choice.{pick}
use Rattle.rules.specs.Table.{State, Outcome, unless}
use Rattle.rules.specs.Places.{arrive}
use Rattle.rules.specs.Editor.{look, depart, link_to, link, pay, shade_owed, take_next}
use Rattle.rules.specs.Editor.{take_first, take}
use Rattle.rules.specs.Collector.{collect}
use Rattle.rules.specs.Steps.{step, code_of}
use Rattle.rules.specs.declared.Step.{Step}
use Rattle.rules.specs.Places.{Walk}
use Rattle.std.specs.Prelude.{Ok, Err, Some, None}
use Rattle.rules.proofs.PhaseSteps.{collect_comes}
use Rattle.rules.specs.Records.{Owed}

module _ (s : State) where
  abbrev Stays : Outcome → Type 0
  Stays o = (code_of o.answer ≡ 0 → ⊥) → o.state ≡ s

  refused : {H : Type 0} → H → s ≡ s
  refused h = refl

  done : {P : Type 0} → (◌≡◌ {A = ℕ} 0 0 → ⊥) → P
  done h = absurd (h refl)

  either : (b : Bool) (x y : Outcome) → Stays x → Stays y → Stays (pick b x y)
  unfolding pick
  either true x y p q = p
  either false x y p q = q

  judged : (code : ℕ) (o : Outcome) → Stays o → Stays (unless code s o)
  unfolding unless
  judged code o p = either _ _ _ p refused

  arrives : (w : Walk) (go : ℕ → Outcome) → ((n : ℕ) → Stays (go n)) → Stays (arrive s w go)
  unfolding arrive
  arrives (Ok n) go p = p n
  arrives (Err d) go p = refused

  pays : (owed : Owed) → Stays (pay s owed)
  unfolding pay
  pays None = refused
  pays (Some n) = either _ _ _ refused done

  collects : Stays (collect s)
  collects = collect_comes s Stays record {
    stays = λ a t. refused;
    shades = λ n p h k. done;
    looks = λ i p h k. done;
    marks = λ i k. done;
    blackens = λ i h k. done;
    whitens = λ i e h. done;
    appends = λ i e l h w. done;
  }

  takes : (side f n : ℕ) → Stays (take_first s side f n)
  unfolding take_first take_next
  takes side f n =
      either _ _ _ refused (either _ _ _ refused
      (either _ _ _ refused (either _ _ _ refused
      (either _ _ _ done (either _ _ _ refused done)))))

  pub refused_stays : (a : Step) → Stays (step a s)
  unfolding step take link link_to depart shade_owed look
  refused_stays a =
      either _ _ _ (judged _ _ (arrives _ _ (λ n. either _ _ _ refused (takes _ _ _))))
      (either _ _ _ (judged _ _ (arrives _ _ (λ n. either _ _ _ refused (arrives _ _ (λ t. done)))))
      (either _ _ _ (judged _ _ (pays _))
      (either _ _ _ collects
      (either _ _ _ (judged _ _ (arrives _ _ (λ n. done))) refused))))
