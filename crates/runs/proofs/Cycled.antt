-- The cycles counted along a run stay within the largest number that the record holds.
use Prim.Native.Nat.{ℕ, ◌≤◌}
use mathlib.Core.List.{List, [], ◌∷◌}
use native.Mathlib.Omega.{arith}
use borrow.Author.Tests.{ltb-true}
use Rattle.base.proofs.Tests.{split}
use Rattle.rules.specs.Table.{State}
use Rattle.rules.specs.Records.{most_cycles, one_more}
use Rattle.rules.specs.declared.Step.{Step}
use Rattle.runs.specs.Runs.{Count, Told, told, counted, count, after}

abbrev pub Held : Count → Type 0
Held n = n.cycles ≤ most_cycles

one_held : (n : ℕ) → n ≤ most_cycles → one_more n ≤ most_cycles
unfolding one_more
one_held n h =
    split (λ (k : ℕ). k ≤ most_cycles) _ _ _ (λ q. omega (arith, ltb-true n most_cycles q))
    (λ q. omega arith)

step_held : (t : Told) (c : Step) (n : Count) → Held n → Held (counted t c n)
unfolding counted
step_held t c n h =
    split Held _ _ _ (λ q. one_held n.cycles h) (λ q. split Held _ _ _ (λ p. h) (λ p. h))

pub count_held : (cs : List Step) (s : State) (n : Count) → Held n → Held (count cs s n)
count_held [] s n h = h
count_held (c ∷ cs) s n h = count_held cs (after c s) _ (step_held (told c s) c n h)
