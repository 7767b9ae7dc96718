-- A stride of the batch and the step after it: what the inner functions promise one another.
use Rattle.std.specs.Prelude.{ℕ, suc, ◌+◌, ◌≤◌, ◌≡◌, true, false}
use Rattle.rules.specs.Table.{State}
use Rattle.rules.specs.Check.{in_limits, check}
use Rattle.rules.specs.Steps.{code_of}
use Rattle.rules.specs.Schedules.{collects}
use Rattle.rules.specs.Changes.{changes_all}
use Rattle.rules.specs.declared.Answer.{Answer}
use Rattle.ahead.specs.Leads.{lasted, more, Passes}

-- from s on d steps, and then one that answers a and leaves t, b being B; v colours are changed
pub record StrideAndStep (b : ℕ) (s : State) (d v : ℕ) (a : Answer) (t : State) : Type 0 where
  pub m : t.rec.m ≡ s.rec.m
  pub r : t.rec.r ≡ s.rec.r
  pub done : code_of a ≡ 0 → (n e : ℕ) (a₀ : Answer) → more (d + suc n) e a₀ s
      ≡ more n (e + d + 1) a t
  pub refused : (code_of a ≡ 0 → ⊥) → (n e : ℕ) (a₀ : Answer) → more (d + suc n) e a₀ s
      ≡ lasted (e + d) a t
  pub sum : code_of a ≡ 0 → (n : ℕ) → changes_all (collects (d + suc n)) s
      ≡ v + changes_all (collects n) t
  pub sum_refused : (code_of a ≡ 0 → ⊥) → (n : ℕ) → changes_all (collects (d + suc n)) s ≡ v
  pub few : v ≤ d + 1
  pub passes : true ≡ in_limits t.rec b → Passes t
  pub spoilt : false ≡ in_limits t.rec b → 2 ≡ check t
