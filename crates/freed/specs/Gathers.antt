-- What the inner functions of `collect_freed` promise one another: the run, its colours and its
-- nodes as one fold, and a turn of it, of which only the last step can append a node.
use Rattle.std.specs.Prelude.{ℕ, zero, suc, ◌+◌, ◌-◌, ◌≤◌, ◌≡◌, List, ◌++◌, length, get_or, eqb}
use Rattle.base.specs.Choice.{pick}
use Rattle.rules.specs.Table.{State, white}
use Rattle.rules.specs.Phases.{append_tag, tag_of, position}
use Rattle.rules.specs.Facts.{quiet}
use Rattle.rules.specs.Steps.{step, collecting, code_of, detail_of}
use Rattle.rules.specs.Schedules.{Followed, followed}
use Rattle.rules.specs.Changes.{changes}
use Rattle.rules.specs.declared.Answer.{Answer}
use Rattle.rules.specs.declared.Phase.{Phase}
use Rattle.freed.specs.Freed.{appended_by}

-- the run, how many colours were changed, and the nodes that were appended
pub record Gathered : Type 0 where
  pub run : Followed
  pub changed : ℕ
  pub nodes : List ℕ

abbrev pub gathered : Followed → ℕ → List ℕ → Gathered
gathered f v l = record { run = f; changed = v; nodes = l }

-- at most n more steps, while there is room for a node: d were done before, they changed v colours
-- and appended the nodes of l
unfoldable pub gather : ℕ → ℕ → ℕ → ℕ → List ℕ → State → Gathered
gather zero room d v l s = gathered (followed d 0 0 s) v l
gather (suc n) zero d v l s = gathered (followed d 0 0 s) v l
gather (suc n) (suc room) d v l s =
    pick (eqb (code_of (step collecting s).answer) 0)
    (gather n (suc room - length (appended_by (step collecting s).answer)) (d + 1)
    (v + changes collecting s) (l ++ appended_by (step collecting s).answer)
    (step collecting s).state)
    (gathered
    (followed d (code_of (step collecting s).answer) (detail_of (step collecting s).answer) s) v l)

-- how many of n colours from the i-th on, in a row, are not white
unfoldable pub dark : ℕ → ℕ → List ℕ → ℕ
dark zero i c = 0
dark (suc n) i c = pick (eqb (get_or c i 0) white) 0 (suc (dark n (i + 1) c))

-- in Append so many steps come before the first that can append a node; m is M
unfoldable pub dark_in : ℕ → List ℕ → Phase → ℕ
dark_in m c p = pick (eqb (tag_of p) append_tag) (dark (m - position p) (position p) c) 0

-- so many steps, at least, append nothing
abbrev pub far : ℕ → List ℕ → Phase → ℕ
far m c p = quiet m p + dark_in m c p

-- at most n steps from s on: d are done, which change v colours and lead to t; a is the answer of
-- the last one, or of the one that is refused, and no step before that one appends a node
pub record Turn (s : State) (n d v : ℕ) (a : Answer) (t : State) : Type 0 where
  pub most : d ≤ n
  pub some : code_of a ≡ 0 → 1 ≤ d
  pub few : v ≤ d
  pub done : code_of a ≡ 0 → (room e w : ℕ) (l : List ℕ) → gather n (suc room) e w l s
      ≡ gather (n - d) (suc room - length (appended_by a)) (e + d) (w + v) (l ++ appended_by a) t
  pub refused : (code_of a ≡ 0 → ⊥) → (room e w : ℕ) (l : List ℕ) → gather n (suc room) e w l s
      ≡ gathered (followed (e + d) (code_of a) (detail_of a) t) (w + v) l
