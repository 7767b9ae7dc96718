-- A schedule is part of a run: the steps that it did. That the refused one changes nothing is
-- `Refused.antt`'s, of crate rules.
use Prim.Native.Nat.{ℕ, suc, ◌+◌}
use mathlib.Core.List.{List, [], ◌∷◌}
use mathlib.Core.Path.{◌≡◌, refl, ap, ◌∙◌}
use native.Mathlib.Omega.{arith}
use lib.ListN.{take}
use Rattle.base.proofs.Tests.{split}
use Rattle.rules.specs.Table.{State}
use Rattle.rules.specs.Steps.{step, run}
use Rattle.rules.specs.Schedules.{Followed, follow, schedule}
use Rattle.rules.specs.declared.Step.{Step}

-- k more than n were done
abbrev Ran : List Step → ℕ → State → Followed → Type 0
Ran xs n s z = (k : ℕ) × ((k + n ≡ z.done) × (z.state ≡ run (take k xs) s))

follow_run : (xs : List Step) (n : ℕ) (s : State) → Ran xs n s (follow xs n s)
unfolding follow run
follow_run [] n s = (0, (omega arith, refl))
follow_run (a ∷ xs) n s =
    split (Ran (a ∷ xs) n s) _ _ _ (λ h. let p = follow_run xs (n + 1) (step a s).state in
    (suc p.0, (omega (arith, p.1.0), p.1.1))) (λ h. (0, (omega arith, refl)))

pub schedule_run : (xs : List Step) (s : State) → (schedule xs s).state
    ≡ run (take (schedule xs s).done xs) s
unfolding schedule run
schedule_run xs s =
    let p = follow_run xs 0 s in
    let e : p.0 ≡ (follow xs 0 s).done = omega (arith, p.1.0) in
    split (λ (z : Followed). z.state ≡ run (take z.done xs) s) _ _ _
    (λ h. p.1.1 ∙ ap (λ (k : ℕ). run (take k xs) s) e) (λ h. refl)
