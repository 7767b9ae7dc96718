-- The loop of `run`: what holds before each step, that a step which is done keeps it, and what the
-- run hands back where one is refused or none is left.
use mathlib.Core.Path.{◌≡◌, refl, sym, ap, ap₂, ◌∙◌, subst}
use mathlib.Core.Bool.{Bool}
use mathlib.Core.List.{List, ◌∷◌}
use Prim.Native.Nat.{ℕ, ◌≤◌, ◌+◌}
use native.Mathlib.Omega.{arith}
use lib.Dec.{eqb}
use lib.ListN.{length, drop, drop_of_length-le}
use borrow.Author.Tests.{eqb-true, eqb-false}
use Rattle.base.specs.Choice.{pick}
use Rattle.base.proofs.Tests.{split, pick_yes, pick_no, code_yes, code_no}
use Rattle.rules.specs.Table.{State, Outcome, state, outcome}
use Rattle.rules.specs.Check.{check}
use Rattle.rules.specs.Steps.{step, code_of, detail_of}
use Rattle.rules.specs.Schedules.{Followed, followed, follow, schedule}
use Rattle.rules.specs.Changes.{changes, changes_all}
use Rattle.rules.specs.declared.Record.{Record}
use Rattle.rules.specs.declared.Made.{Made}
use Rattle.rules.specs.declared.Step.{Step}
use Rattle.rules.specs.declared.Ran.{Ran}
use Rattle.schedule.specs.Stands.{gone, ended, after, Settled}
use Rattle.rules.proofs.Refused.{refused_stays}
use Rattle.rules.proofs.Sums.{sum_done, sum_refused, sum_none, most_two}
use Rattle.schedule.proofs.Settled.{starts_settled, step_settled}

-- what a test picks, once it is known
picked : {A : Type 0} (z x y : A) (b c : Bool) → z ≡ pick b x y → b ≡ c → z ≡ pick c x y
picked z x y b c e h = e ∙ ap (λ (t : Bool). pick t x y) h

-- a step changes at most two colours
pub at_most_two : (n : ℕ) (a : Step) (s : State) → n ≡ changes a s → n ≤ 2
at_most_two n a s e = rw e (most_two a s)

-- a step that is done, and the colours that are changed after it
sum_step : (a : Step) (rest : List Step) (s : State) (d : Made) (l r c : List ℕ)
    → outcome d l r c ≡ step a s → d.changed ≡ changes a s → code_of d.answer ≡ 0
    → changes_all (a ∷ rest) s ≡ d.changed + changes_all rest (state l r c d.rec)
sum_step a rest s d l r c e k z =
    sum_done a rest s (ap (λ (o : Outcome). code_of o.answer) (sym e) ∙ z)
    ∙ ap (λ (o : Outcome). changes a s + changes_all rest o.state) (sym e)
    ∙ ap (λ (n : ℕ). n + changes_all rest (state l r c d.rec)) (sym k)

-- and one that is refused
sum_stop : (a : Step) (rest : List Step) (s : State) (d : Made) (l r c : List ℕ)
    → outcome d l r c ≡ step a s → (code_of d.answer ≡ 0 → ⊥) → changes_all (a ∷ rest) s ≡ 0
sum_stop a rest s d l r c e f =
    sum_refused a rest s (λ q. f (ap (λ (o : Outcome). code_of o.answer) e ∙ q))

module _ (xs : List Step) (last : Followed) (sum : ℕ) where
  -- the whole run is what is left of it, and so are the colours changed
  abbrev pub Inv : Ran → State → Type 0
  Inv g s =
      (g.code ≡ 0) × (g.detail ≡ 0) × (last ≡ follow (drop g.done xs) g.done s) ×
      (sum ≡ g.changed + changes_all (drop g.done xs) s) × Settled s

  -- the run is over
  abbrev pub Over : Ran → State → Type 0
  Over g s = (followed g.done g.code g.detail s ≡ last) × (g.changed ≡ sum)

  pub leaves : (g : Ran) (s : State) → Inv g s → length xs ≤ g.done → Over g s
  unfolding follow changes_all
  leaves g s p le =
      let none = drop_of_length-le xs {i = g.done} le in
      let left = ap (λ (ys : List Step). changes_all ys s) none in (
        sym (p.2 ∙ ap (λ (ys : List Step). follow ys g.done s) none
            ∙ ap₂ (λ (n d : ℕ). followed g.done n d s) (sym p.0) (sym p.1)),
        omega (arith, p.3, left),
      )

  -- at what `advance` ensures of the i-th step
  pub turns : (i : ℕ) (g : Ran) (s : State) (a : Step) (d : Made) (l r c : List ℕ) (g' : Ran)
      → g.done ≡ i → Inv g s → drop i xs ≡ a ∷ drop (i + 1) xs
      → outcome d l r c ≡ step a s → d.changed ≡ changes a s → g' ≡ after g d
      → (g'.code ≡ 0 → (g'.done ≡ i + 1) × Inv g' (state l r c g'.rec))
      × ((g'.code ≡ 0 → ⊥) → Over g' (state l r c g'.rec))
  unfolding after pick follow
  turns i g s a d l r c g' z p next e k h =
      let cons = subst (λ (n : ℕ). drop n xs ≡ a ∷ drop (n + 1) xs) (sym z) next in
      let rest = drop (g.done + 1) xs in
      let summed = p.3 ∙ ap (λ (ys : List Step). g.changed + changes_all ys s) cons in
      let first =
      p.2 ∙ ap (λ (ys : List Step). follow ys g.done s) cons
      ∙ ap (λ (o : Outcome). pick (eqb (code_of o.answer) 0)
      (follow (drop (g.done + 1) xs) (g.done + 1) o.state)
      (followed g.done (code_of o.answer) (detail_of o.answer) s)) (sym e) in
      let stays =
      subst (λ (o : Outcome). (code_of o.answer ≡ 0 → ⊥) → o.state ≡ s) (sym e)
      (refused_stays s a) in
      let Kept : Ran → Type 0 = λ y.
      (y.code ≡ 0 → (y.done ≡ i + 1) × Inv y (state l r c y.rec))
      × ((y.code ≡ 0 → ⊥) → Over y (state l r c y.rec)) in
      subst Kept (sym h)
      (split Kept (eqb (code_of d.answer) 0) (gone g d) (ended g d)
      (λ t. (
        (λ q. (
          ap (λ (n : ℕ). n + 1) z,
          (
            p.0,
            p.1,
            picked _ _ _ _ _ first t,
            omega (arith, summed, sum_step a rest s d l r c e k (eqb-true _ _ t)),
            subst (λ (o : Outcome). Settled o.state) (sym e) (step_settled s p.4 a),
          ),
        )),
        (λ f. absurd (f p.0)),
      ))
      (λ t. (
        (λ q. absurd (eqb-false _ _ t q)),
        (λ f. (
          sym (picked _ _ _ _ _ first t
              ∙ ap (followed g.done (code_of d.answer) (detail_of d.answer))
              (sym (stays (eqb-false _ _ t)))),
          omega (arith, summed, sum_stop a rest s d l r c e (eqb-false _ _ t)),
        )),
      )))

-- nothing is done yet
abbrev pub start : ℕ → Record → Ran
start code x = record { done = 0; code = code; detail = 0; changed = 0; rec = x }

module _ (xs : List Step) (l r c : List ℕ) (x : Record) (code : ℕ) (e : code ≡ check (state l r c x))
  where
    pub begins : code ≡ 0
        → Inv xs (schedule xs (state l r c x)) (changes_all xs (state l r c x)) (start code x)
        (state l r c x)
    unfolding schedule
    begins h =
        let s = state l r c x in (
          h,
          refl,
          sym (pick_yes _ _ _ _ (code_yes code (check s) 0 e h) refl),
          omega arith,
          starts_settled s (sym h ∙ e),
        )

    pub spurned : (code ≡ 0 → ⊥)
        → Over xs (schedule xs (state l r c x)) (changes_all xs (state l r c x)) (start code x)
        (state l r c x)
    unfolding schedule
    spurned n =
        let s = state l r c x in (
          pick_no _ _ _ _ (code_no code (check s) 0 e n) (ap (λ (k : ℕ). followed 0 k 0 s) e),
          sym (sum_none xs s (λ q. n (e ∙ q))),
        )
