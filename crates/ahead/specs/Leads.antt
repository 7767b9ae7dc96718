-- Many collector steps at once: what the inner functions of a batch promise one another.
use Rattle.std.specs.Prelude.{ℕ, zero, suc, ◌+◌, ◌≤◌, ◌<◌, ◌≡◌, List, get_or, eqb}
use Rattle.base.specs.Choice.{pick}
use Rattle.rules.specs.Table.{State}
use Rattle.rules.specs.Check.{bound, check}
use Rattle.rules.specs.Steps.{step, collecting, code_of}
use Rattle.rules.specs.Schedules.{collects}
use Rattle.rules.specs.Changes.{changes_all}
use Rattle.rules.specs.declared.Answer.{Answer}
use Rattle.rules.specs.declared.Record.{Record}

-- how many steps were done, what the last one answered, and the state that is left
pub record Lasted : Type 0 where
  pub done : ℕ
  pub answer : Answer
  pub state : State

abbrev pub lasted : ℕ → Answer → State → Lasted
lasted n a s = record { done = n; answer = a; state = s }

-- n more collector steps until one is refused, after d of which the last answered a
unfoldable pub more : ℕ → ℕ → Answer → State → Lasted
more zero d a s = lasted d a s
more (suc n) d a s =
    pick (eqb (code_of (step collecting s).answer) 0)
    (more n (d + 1) (step collecting s).answer (step collecting s).state)
    (lasted d (step collecting s).answer s)

-- neither code 1 nor code 2
pub record Passes (s : State) : Type 0 where
  pub code : 0 ≡ check s

-- so many steps stay below B
pub record Room (x : Record) (cap : ℕ) : Type 0 where
  pub steps : x.steps + cap < bound 2 x.m x.r

-- d steps that are done lead from s to t, and change v colours in all
pub record Leads (s : State) (d v : ℕ) (t : State) : Type 0 where
  pub m : t.rec.m ≡ s.rec.m
  pub r : t.rec.r ≡ s.rec.r
  pub passes : Passes t
  pub same : (n e : ℕ) (a : Answer) → more (d + suc n) e a s ≡ more (suc n) (e + d) a t
  pub sum : (n : ℕ) → changes_all (collects (d + n)) s ≡ v + changes_all (collects n) t

-- a good edge to a node with a good colour
pub record CanShade (m : ℕ) (c : List ℕ) (e : ℕ) : Type 0 where
  pub below : e < m
  pub not_free : e ≡ 1 → ⊥
  pub colour : get_or c e 0 ≤ 2
