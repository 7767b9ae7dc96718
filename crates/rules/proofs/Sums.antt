-- The colours that steps change one after the other, and the most that one step changes: two, and
-- the collector's one. By the cases of the definitions.
use Prim.Native.Nat.{ℕ, zero, suc, ◌+◌, ◌*◌, ◌≤◌}
use mathlib.Core.Bool.{Bool, true, false}
use mathlib.Core.Path.{◌≡◌, refl, sym}
use mathlib.Core.List.{List, [], ◌∷◌}
use native.Mathlib.Omega.{arith}
use lib.ListN.{length, set}
use Rattle.base.specs.Choice.{pick, first}
use Rattle.base.proofs.Tests.{split, pick_yes, pick_no, eq_yes, eq_no, first_here}
use Rattle.rules.specs.Table.{State, Outcome, unless, shade_in, with_edge, cleared}
use Rattle.rules.specs.Check.{check}
use Rattle.rules.specs.Places.{arrive}
use Rattle.rules.specs.Editor.{look, depart, link_to, link, pay, shade_owed, relink, take_next}
use Rattle.rules.specs.Editor.{take_first, take}
use Rattle.rules.specs.Collector.{append, collect}
use Rattle.rules.specs.Steps.{step, collecting, code_of}
use Rattle.rules.specs.Schedules.{collects}
use Rattle.rules.specs.Changes.{differing, changes, changes_all}
use Rattle.rules.specs.declared.Step.{Step}
use Rattle.rules.specs.Places.{Walk}
use Rattle.std.specs.Prelude.{Ok, Err, Some, None}
use Rattle.rules.proofs.PhaseSteps.{collect_comes}
use Rattle.rules.proofs.Laws.{unless_refused, step_collecting}
use Rattle.rules.proofs.Changes.{unchanged, most_more}
use Rattle.rules.specs.Records.{Owed}

-- where code 1 or 2 is given, no step is done
module _ (s : State) (h : check s ≡ 0 → ⊥) where
  abbrev No : Outcome → Type 0
  No o = code_of o.answer ≡ 0 → ⊥

  neither : (b : Bool) (x y : Outcome) → No x → No y → No (pick b x y)
  unfolding pick
  neither true x y p q = p
  neither false x y p q = q

  not_first : (cs : List ℕ) (o : Outcome) → No (unless (first (check s ∷ cs)) s o)
  not_first cs o =
      rw (← unless_refused o s (check s) (first (check s ∷ cs))
      (first_here _ _ _ cs refl h refl) h) h

  not_only : (o : Outcome) → No (unless (check s) s o)
  not_only o = rw (← unless_refused o s (check s) (check s) refl h) h

  pub none_done : (a : Step) → No (step a s)
  unfolding step take link shade_owed collect look
  none_done a =
      neither _ _ _ (not_first _ _) (neither _ _ _ (not_first _ _) (neither _ _ _ (not_only _)
      (neither _ _ _ (not_only _) (neither _ _ _ (not_first _ _)
      (rw (← first_here (check s) (check s) (check s) (10 ∷ []) refl h refl) h)))))

-- [Changes 2] a step that is done, and those after it
pub sum_done : (a : Step) (rest : List Step) (s : State) → code_of (step a s).answer ≡ 0
    → changes_all (a ∷ rest) s ≡ changes a s + changes_all rest (step a s).state
unfolding changes_all
sum_done a rest s h = sym (pick_yes _ _ _ _ (eq_yes _ _ h) refl)

pub sum_refused : (a : Step) (rest : List Step) (s : State) → (code_of (step a s).answer ≡ 0 → ⊥)
    → changes_all (a ∷ rest) s ≡ 0
unfolding changes_all
sum_refused a rest s h = sym (pick_no _ _ _ _ (eq_no _ _ h) refl)

pub sum_none : (steps : List Step) (s : State) → (check s ≡ 0 → ⊥) → changes_all steps s ≡ 0
unfolding changes_all
sum_none [] s h = refl
sum_none (a ∷ rest) s h = sum_refused a rest s (none_done s h a)

-- at most n colours differ
module _ (s : State) (n : ℕ) (some : 1 ≤ n) where
  abbrev Few : Outcome → Type 0
  Few o = differing s.colour o.state.colour ≤ n

  none : differing s.colour s.colour ≤ n
  none = let z = unchanged s.colour in omega arith

  one : (i v : ℕ) → differing s.colour (set s.colour i v) ≤ n
  one i v =
      let z = unchanged s.colour in let y = most_more s.colour s.colour i v in omega arith

  shaded_more : (d : List ℕ) (i k : ℕ) → differing s.colour d ≤ k
      → differing s.colour (shade_in d i) ≤ k + 1
  unfolding shade_in
  shaded_more d i k h =
      split (λ (e : List ℕ). differing s.colour e ≤ k + 1) _ _ _
      (λ q. let y = most_more s.colour d i 1 in omega arith) (λ q. omega arith)

  shaded : (i : ℕ) → differing s.colour (shade_in s.colour i) ≤ n
  shaded i =
      let z = unchanged s.colour in
      let y = shaded_more s.colour i 0 (omega arith) in omega arith

  both_shaded : 2 ≤ n → (f g : ℕ)
      → differing s.colour (shade_in (shade_in s.colour f) g) ≤ n
  both_shaded h f g =
      let z = unchanged s.colour in
      let y = shaded_more s.colour f 0 (omega arith) in
      let x = shaded_more (shade_in s.colour f) g 1 (omega arith) in omega arith

  either : (b : Bool) (x y : Outcome) → Few x → Few y → Few (pick b x y)
  unfolding pick
  either true x y p q = p
  either false x y p q = q

  judged : (code : ℕ) (o : Outcome) → Few o → Few (unless code s o)
  unfolding unless
  judged code o p = either _ _ _ p none

  arrives : (w : Walk) (go : ℕ → Outcome) → ((i : ℕ) → Few (go i)) → Few (arrive s w go)
  unfolding arrive
  arrives (Ok i) go p = p i
  arrives (Err d) go p = none

  pays : (owed : Owed) → Few (pay s owed)
  unfolding pay
  pays None = none
  pays (Some i) = either _ _ _ none (shaded i)

  collected : Few (collect s)
  unfolding append with_edge cleared
  collected = collect_comes s Few record {
    stays = λ a t. none;
    shades = λ i p h k. shaded i;
    looks = λ i p h k. none;
    marks = λ i k. none;
    blackens = λ i h k. one i 2;
    whitens = λ i e h. one i 0;
    appends = λ i e l h w. none;
  }

  takes : 2 ≤ n → (side f i : ℕ) → Few (take_first s side f i)
  unfolding take_first take_next relink with_edge
  takes h side f i =
      either _ _ _ none (either _ _ _ none
      (either _ _ _ none (either _ _ _ none
      (either _ _ _ (shaded f) (either _ _ _ none (both_shaded h f _))))))

-- [Changes 3] a step changes at most two colours
pub most_two : (a : Step) (s : State) → changes a s ≤ 2
unfolding changes step take link link_to depart shade_owed look with_edge
most_two a s =
    let h : 1 ≤ 2 = omega arith in
    either s 2 h _ _ _
    (judged s 2 h _ _ (arrives s 2 h _ _ (λ i. either s 2 h _ _ _ (none s 2 h)
    (takes s 2 h (omega arith) _ _ _))))
    (either s 2 h _ _ _
    (judged s 2 h _ _ (arrives s 2 h _ _ (λ i. either s 2 h _ _ _ (none s 2 h)
    (arrives s 2 h _ _ (λ t. none s 2 h)))))
    (either s 2 h _ _ _ (judged s 2 h _ _ (pays s 2 h _))
    (either s 2 h _ _ _ (collected s 2 h)
    (either s 2 h _ _ _ (judged s 2 h _ _ (arrives s 2 h _ _ (λ i. none s 2 h))) (none s 2 h)))))

-- and the collector at most one
pub most_one : (s : State) → changes collecting s ≤ 1
unfolding changes
most_one s = rw step_collecting (collected s 1 (omega arith))

-- so many of the collector's steps change no more colours
pub most_collects : (n : ℕ) (s : State) → changes_all (collects n) s ≤ n
unfolding changes_all collects
most_collects zero s = omega arith
most_collects (suc n) s =
    split (λ (k : ℕ). k ≤ suc n) _ _ _
    (λ q. let z = most_one s in
    let y = most_collects n (step collecting s).state in omega arith)
    (λ q. omega arith)

-- and steps twice as many
pub most_all : (steps : List Step) (s : State) → changes_all steps s ≤ 2 * length steps
unfolding changes_all
most_all [] s = omega arith
most_all (a ∷ rest) s =
    split (λ (k : ℕ). k ≤ 2 * length (a ∷ rest)) _ _ _
    (λ q. let z = most_two a s in
    let y = most_all rest (step a s).state in omega arith)
    (λ q. omega arith)
