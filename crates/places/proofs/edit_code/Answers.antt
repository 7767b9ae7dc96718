-- The tests stand in the order of the definition's list: the first code that is not 0 is answered.
-- the target's code is not a call's answer
use Prim.Native.Nat.{ℕ}
use mathlib.Core.Path.{◌≡◌, refl}
use mathlib.Core.List.{List, ◌∷◌}
use borrow.Author.Rules.{rules}
use Rattle.base.specs.Choice.{first}
use Rattle.base.proofs.Tests.{firsts, first_here, first_skip}
use Rattle.places.specs.Sources.{edit_code}
use Rattle.places.proofs.edit_code.Goals as goal

here : (z c : ℕ) (cs : List ℕ) → (c ≡ 0 → ⊥) → z ≡ c → z ≡ first (c ∷ cs)
here z c cs h k = first_here z c c cs refl h k

skip : (z c : ℕ) (cs : List ℕ) → c ≡ 0 → z ≡ first cs → z ≡ first (c ∷ cs)
skip z c cs h k = first_skip z c c cs refl h k

pub returns-then-sided-ne0 : goal.returns-then-sided-ne0
unfolding edit_code
returns-then-sided-ne0 c = search (firsts, rules) depth 12

pub returns-then-from-ne0 : goal.returns-then-from-ne0
unfolding edit_code
returns-then-from-ne0 c = search (firsts, rules) depth 12

pub returns-then-target-ne0 : goal.returns-then-target-ne0
unfolding edit_code
returns-then-target-ne0 c = search (firsts, here, rules) depth 12

pub returns : goal.returns
unfolding edit_code
returns c = search (firsts, skip, rules) depth 12
