-- What a cycle appends: each node once that is white at Append 0, and no other. And a node that is
-- garbage at Append 0 is appended in this cycle or in the next one.
use Prim.Native.Nat.{ℕ, suc, ◌<◌}
use mathlib.Core.Bool.{true≢false}
use mathlib.Core.Path.{◌≡◌, refl, sym, ap, subst₂, ◌∙◌}
use mathlib.Core.Logic.{◌⊎◌, inl, inr}
use mathlib.Core.List.{List, [], ◌∷◌, ◌++◌}
use native.Mathlib.Omega.{arith}
use Rattle.rules.specs.Table.{State, colour_of, white}
use Rattle.rules.specs.Steps.{step, run}
use Rattle.rules.specs.declared.Step.{Step}
use Rattle.rules.specs.declared.Phase.TheVariants.{Roots, Append}
use Rattle.theory.specs.Free.{Mem}
use Rattle.theory.proofs.Steps as S
use S.{Act, other, Tick, goes, ends, CStep, root, last_root, look, find, no_gray, edge, blacken}
use S.{whiten, append}
use Rattle.theory.proofs.Cycle as C
use C.{Rest}
use Rattle.theory.proofs.Sweep.{Exactly, appends_white}
use Rattle.runs.specs.Runs.{after, kind}
use Rattle.runs.specs.Demand.{RootReaches}
use Rattle.runs.proofs.Tables.{reach_from}
use Rattle.runs.proofs.Phases.{view, is_append}
use Rattle.runs.proofs.Ready.{abs, sizes}
use Rattle.runs.proofs.Sound.{Sound}
use Rattle.runs.proofs.Answers.{act}
use Rattle.runs.proofs.AnyStep.{Stepped, goes_on, closes, edits, stepped, sound_step}
use Rattle.runs.proofs.Counting.{carried_from}
use Rattle.runs.proofs.Cycles.{Reached, sound_reached, ToEnd, last, more, appended, rest_of}

-- from the state in which the appending begins
appends_exactly : {E : ℕ} {cs : List Step} {s : State} → ToEnd cs s → Sound E s → s.rec.phase
    ≡ Append 0
    → Exactly (λ x. (x < s.rec.m) × (colour_of s x ≡ white)) (appended cs s)
appends_exactly {E} t g q = appends_white (sizes g.fits) g.inv (ap (kind E) q) (rest_of t g)

-- before the appending
data Early : S.Phase → Type 0 where
  rooting : {i : ℕ} → Early (S.Rooting i)
  seeking : Early S.Seeking
  working : {i j : ℕ} → Early (S.Working i j)
  holding : {i j n : ℕ} → Early (S.Holding i j n)

-- a step then appends nothing and ends no cycle
early_next : {E m t : ℕ} {σ σ' : S.State} {a : Act} {tk : Tick} → CStep E m t σ σ' a tk
    → Early (S.phase σ)
    → (a ≡ other) × (tk ≡ goes) × (Early (S.phase σ') ⊎ (S.phase σ' ≡ S.Appending 0))
early_next (root l h) k = (refl, refl, inl rooting)
early_next (last_root q h) k = (refl, refl, inl seeking)
early_next look k = (refl, refl, inl seeking)
early_next (find g) k = (refl, refl, inl working)
early_next (no_gray g) k = (refl, refl, inr refl)
early_next (edge l h) k = (refl, refl, inl working)
early_next (S.read l) k = (refl, refl, inl holding)
early_next (S.shade h) k = (refl, refl, inl working)
early_next (blacken u) k = (refl, refl, inl seeking)
early_next (whiten g u f) k = elim k [ ]
early_next (append g u f) k = elim k [ ]

early_goes : {E m t : ℕ} {σ σ' : S.State} {a : Act} → CStep E m t σ σ' a ends → Early (S.phase σ)
    → ⊥
early_goes d k =
    let q = (early_next d k).1 in
    absurd (let z : ◌≡◌ {A = ℕ} 0 1 = cc in omega arith)

-- a cycle's steps up to its appending, which append nothing, and those from there on
pub record Parts (cs : List Step) (s : State) : Type 0 where
  pub before : List Step
  pub rest : List Step
  pub all : cs ≡ before ++ rest
  pub begins : (run before s).rec.phase ≡ Append 0
  pub to_end : ToEnd rest (run before s)
  pub nothing : appended cs s ≡ appended rest (run before s)

parts : {E : ℕ} {cs : List Step} {s : State} → ToEnd cs s → Sound E s
    → Early (kind E s.rec.phase) → Parts cs s
unfolding run
parts {E} (last {c = c} {s = s} e) g k = go (stepped c s g)
  where
    go : Stepped E c s → Parts (c ∷ []) s
    go (goes_on e₁ a d) = absurd (true≢false (sym e ∙ e₁))
    go (closes e₁ a d) = absurd (early_goes d.made k)
    go (edits e₁ h d) = absurd (true≢false (sym e ∙ e₁))
parts {E} (more {c = c} {cs = cs} {s = s} e t) g k = go (stepped c s g) (parts t (sound_step c s g))
  where
    on_to : act (step c s).answer ≡ other → Parts cs (after c s) → Parts (c ∷ cs) s
    on_to q p = record {
      before = c ∷ p.before;
      rest = p.rest;
      all = ap (λ (ds : List Step). c ∷ ds) p.all;
      begins = p.begins;
      to_end = p.to_end;
      nothing = rw q p.nothing;
    }

    go : Stepped E c s → (Early (kind E (after c s).rec.phase) → Parts cs (after c s))
        → Parts (c ∷ cs) s
    go (goes_on e₁ a d) f = by (early_next d.made k).0 (early_next d.made k).2
      where
        by : act (step c s).answer ≡ other
            → Early (kind E (after c s).rec.phase) ⊎
            (kind E (after c s).rec.phase ≡ S.Appending 0) → Parts (c ∷ cs) s
        by n (inl y) = on_to n (f y)
        by n (inr q) = on_to n record {
          before = [];
          rest = cs;
          all = refl;
          begins = is_append (view g.fits.few (after c s).rec.phase) q;
          to_end = t;
          nothing = refl;
        }
    go (closes e₁ a d) f = absurd (true≢false (sym e₁ ∙ e))
    go (edits e₁ h d) f = on_to d.appends (f (rw d.same.phase k))

-- a cycle begins in Roots 0
pub cycle_appends : {E m r : ℕ} {cs : List Step} {s : State} → Reached E m r s → s.rec.phase
    ≡ Roots 0 → ToEnd cs s
    → (p : Parts cs s) × Exactly (λ x. (x < m) × (colour_of (run p.before s) x ≡ white))
    (appended cs s)
cycle_appends {E} {m} {cs = cs} {s} k q t =
    let c = carried_from p.before s g in (
      p,
      subst₂ (λ n xs. Exactly (λ x. (x < n) × (colour_of (run p.before s) x ≡ white)) xs)
          (c.1.nodes ∙ (sound_reached k).1) (sym p.nothing)
          (appends_exactly p.to_end c.1.sound p.begins),
    )
  where
    g : Sound E s
    g = (sound_reached k).0

    p : Parts cs s
    p = parts t g (rw q rooting)

-- garbage when an appending begins
pub garbage_by_next : {E m r x : ℕ} {cs ds : List Step} {s : State} → Reached E m r s
    → s.rec.phase ≡ Append 0 → x < m → ¬ RootReaches s x → ToEnd cs s
    → ToEnd ds (run cs s) → Mem x (appended cs s) ⊎ Mem x (appended ds (run cs s))
garbage_by_next {E} {cs = cs} {ds} {s} k q hx u t t₁ =
    let c = carried_from cs s g in
    C.appended_by_next (sizes g.fits) g.inv (ap (kind E) q)
    (omega (arith, (sound_reached k).1))
    (λ a. u (rw g.rows.count (reach_from (λ n h. omega arith) a)))
    (rest_of t g)
    (subst₂ (λ m r. Rest E m (suc (suc r)) (abs E (run cs s)) (appended ds (run cs s))
    (abs E (run ds (run cs s)))) c.1.nodes c.1.slots
    (rest_of t₁ c.1.sound))
  where
    g : Sound E s
    g = (sound_reached k).0
