-- Cycles of a run: the states that runs reach, the steps of a cycle up to the one that completes
-- it, and what they append and blacken. Those steps are the rest of a cycle in the theory's sense.
use Prim.Native.Nat.{ℕ, suc, ◌+◌}
use mathlib.Core.Bool.{true, false, true≢false}
use mathlib.Core.Path.{◌≡◌, sym, ◌∙◌, subst₂}
use mathlib.Core.List.{List, [], ◌∷◌}
use Rattle.base.specs.Choice.{pick}
use Rattle.rules.specs.Table.{State}
use Rattle.rules.specs.Steps.{step, run}
use Rattle.rules.specs.declared.Step.{Step}
use Rattle.theory.proofs.Cycle.{note, Rest, last_step, collector, editor}
use Rattle.runs.specs.Runs.{after, completes, blackens, begun}
use Rattle.runs.specs.Start.{Start}
use Rattle.runs.proofs.Sound.{Sound}
use Rattle.runs.proofs.Ready.{abs, top}
use Rattle.runs.proofs.Answers.{act}
use Rattle.runs.proofs.Edited.{made_there}
use Rattle.runs.proofs.AnyStep.{Stepped, goes_on, closes, edits, stepped, sound_step}
use Rattle.runs.proofs.Counting.{carried_run}
use Rattle.runs.proofs.Starts.{starts}

-- s is a state that some steps reach from a start with m nodes and r slots
pub data Reached (E m r : ℕ) : State → Type 0 where
  reached : {s : State} → Start E m r s → (cs : List Step) → Reached E m r (run cs s)

pub sound_reached : {E m r : ℕ} {s : State} → Reached E m r s
    → Sound E s × (s.rec.m ≡ m) × (s.rec.r ≡ r)
sound_reached (reached {s = s} k cs) =
    let v = carried_run cs s begun (starts k) in
    (v.sound, v.nodes, v.slots)

-- the steps from s up to the one that completes the cycle
pub data ToEnd : List Step → State → Type 0 where
  last : {c : Step} {s : State} → completes c s ≡ true → ToEnd (c ∷ []) s
  more : {c : Step} {cs : List Step} {s : State} → completes c s ≡ false → ToEnd cs (after c s)
      → ToEnd (c ∷ cs) s

-- the nodes that the steps of a list append, in order
abbrev pub appended : List Step → State → List ℕ
appended [] s = []
appended (c ∷ cs) s = note (act (step c s).answer) (appended cs (after c s))

-- how many nodes they blacken
abbrev pub blackenings : List Step → State → ℕ
blackenings [] s = 0
blackenings (c ∷ cs) s = pick (blackens (step c s).answer) 1 0 + blackenings cs (after c s)

-- the rest of a cycle is one of the theory's
pub rest_of : {E : ℕ} {cs : List Step} {s : State} → ToEnd cs s → Sound E s
    → Rest E s.rec.m (top s) (abs E s) (appended cs s) (abs E (run cs s))
unfolding run
rest_of {E} (last {c = c} {s = s} e) g = go (stepped c s g)
  where
    go : Stepped E c s → Rest E s.rec.m (top s) (abs E s) (appended (c ∷ []) s)
        (abs E (after c s))
    go (goes_on e₁ a k) = absurd (true≢false (sym e ∙ e₁))
    go (closes e₁ a k) = last_step k.made
    go (edits e₁ h k) = absurd (true≢false (sym e ∙ e₁))
rest_of {E} (more {c = c} {cs = cs} {s = s} e t) g = go (stepped c s g)
    (rest_of t (sound_step c s g))
  where
    kept : (after c s).rec.m ≡ s.rec.m → (after c s).rec.r ≡ s.rec.r
        → Rest E (after c s).rec.m (top (after c s)) (abs E (after c s)) (appended cs (after c s))
        (abs E (run cs (after c s)))
        → Rest E s.rec.m (top s) (abs E (after c s)) (appended cs (after c s))
        (abs E (run cs (after c s)))
    kept p q f =
        subst₂ (λ m r. Rest E m (suc (suc r)) (abs E (after c s)) (appended cs (after c s))
        (abs E (run cs (after c s)))) p q f

    go : Stepped E c s → Rest E (after c s).rec.m (top (after c s)) (abs E (after c s))
        (appended cs (after c s)) (abs E (run cs (after c s)))
        → Rest E s.rec.m (top s) (abs E s) (appended (c ∷ cs) s) (abs E (run cs (after c s)))
    go (goes_on e₁ a k) f = collector k.made (kept k.nodes k.slots f)
    go (closes e₁ a k) f = absurd (true≢false (sym e₁ ∙ e))
    go (edits e₁ h k) f = rw k.appends (editor (made_there k) (kept k.same.m k.same.r f))
