-- Any step of an editor, from a ready state.
use Prim.Native.Nat.{ℕ}
use mathlib.Core.Bool.{false}
use mathlib.Core.Path.{◌≡◌, refl, sym}
use mathlib.Core.List.{[], ◌∷◌}
use Rattle.base.specs.Choice.{first}
use Rattle.base.proofs.Tests.{split}
use Rattle.rules.specs.Table.{State}
use Rattle.rules.specs.Check.{check}
use Rattle.rules.specs.Steps.{step}
use Rattle.rules.specs.declared.Step.{Step}
use Rattle.theory.proofs.Steps as S
use Rattle.runs.specs.Runs.{collector}
use Rattle.runs.specs.Demand.{Allowed}
use Rattle.runs.proofs.Picks.{if_no}
use Rattle.runs.proofs.Codes.{allowed, allowed_first}
use Rattle.runs.proofs.Ready.{Ready}
use Rattle.runs.proofs.Edited.{Edited, refused}
use Rattle.runs.proofs.LinkStep.{look_edited, link_edited}
use Rattle.runs.proofs.TakeStep.{shade_edited, take_edited}

pub edits_is : {E : ℕ} (c : Step) (s : State) {ph : S.Phase} → Ready E s ph → collector c ≡ false
    → Edited E s ph (step c s)
unfolding step
edits_is {E} c s {ph} g h =
    split (Edited E s ph) _ _ _ (λ a. take_edited g _ _)
    (λ a. split (Edited E s ph) _ _ _ (λ a. link_edited g _ _ _)
    (λ a. split (Edited E s ph) _ _ _ (λ a. shade_edited g)
    (λ a. if_no (Edited E s ph) _ _ _ (sym h)
    (split (Edited E s ph) _ _ _ (λ a. look_edited g _)
    (λ a. refused g.fits _ 0 unreadable)))))
  where
    unreadable : Allowed (first (check s ∷ 10 ∷ []))
    unreadable =
        allowed_first (check s ∷ 10 ∷ []) (rw (← g.good) (allowed refl), (allowed refl, tt))
