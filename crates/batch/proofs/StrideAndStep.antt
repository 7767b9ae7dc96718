-- A stride and the step after it; and a run, which is as many of these as it takes.
use Prim.Native.Nat.{ℕ, zero, suc, ◌+◌, ◌-◌, ◌≤◌, ◌<◌}
use mathlib.Core.Path.{◌≡◌, refl, sym, ap, ◌∙◌}
use mathlib.Core.Bool.{false}
use mathlib.Core.List.{List}
use lib.ListN.{length}
use native.Mathlib.Omega.{arith}
use Rattle.base.proofs.Tests.{pick_no, eq_no}
use Rattle.rules.specs.declared.Record.{Record}
use Rattle.rules.specs.declared.Answer.{Answer}
use Rattle.rules.specs.Table.{State, Outcome, most_slots, state, refused, refuse}
use Rattle.rules.specs.Check.{bound, in_limits, check}
use Rattle.rules.specs.Collector.{phase_step, collect}
use Rattle.rules.specs.Steps.{step, collecting, code_of}
use Rattle.rules.specs.Facts.{Checked, InRange}
use Rattle.rules.specs.Schedules.{collects}
use Rattle.rules.specs.Changes.{differing, changes, changes_all}
use Rattle.rules.proofs.Changes.{refused_none}
use Rattle.rules.proofs.Sums.{sum_refused, sum_none, most_one}
use Rattle.rules.proofs.Checked.{good, inside}
use Rattle.rules.proofs.Refused.{refused_stays}
use Rattle.rules.proofs.Laws.{step_collecting, unless_refused}
use Rattle.ahead.specs.Leads.{lasted, more, Passes, Room, Leads}
use Rattle.rules.proofs.Steady.{count, Kept, kept, steps_below, passes_again, now_spoilt}
use Rattle.ahead.proofs.Strides.{step_is, done_on, sum_on, few}
use Rattle.batch.specs.StrideAndStep.{StrideAndStep}

pub ready : (l k c : List ℕ) (y : Record) → Passes (state l k c y)
    → (Checked (length l) (length k) (length c) y) × (InRange y.m y.r y.phase)
ready l k c y p = (good _ _ _ y p.code, inside _ _ y p.code)

pub steps_in : (l k c : List ℕ) (x : Record) (b : ℕ) → Passes (state l k c x) → b
    ≡ bound 2 x.m x.r → x.steps < b
steps_in l k c x b p q = rw q (steps_below _ _ x p.code)

pub room : (x : Record) (b cap : ℕ) → b ≡ bound 2 x.m x.r → x.steps + cap < b → Room x cap
room x b cap q h = record { steps = rw (← q) h }

-- M and R stay in their ranges
pub sizes_still : (l k c : List ℕ) (x : Record) (m r : ℕ) → Passes (state l k c x) → m ≡ x.m
    → r ≡ x.r → (r ≤ most_slots) × (r + 2 ≤ m)
sizes_still l k c x m r p e f = let g = good _ _ _ x p.code in (omega arith, omega arith)

-- a step that is refused ends the run, and changes nothing
refused_at : (s : State) (o : Outcome) (n e : ℕ) (a : Answer) → o ≡ step collecting s
    → (code_of o.answer ≡ 0 → ⊥) → more (suc n) e a s ≡ lasted e o.answer s
unfolding more
refused_at s o n e a w z = rw (← w) (sym (pick_no _ _ _ _ (eq_no _ _ z) refl))

-- the colours that a step changed
counted : (t : State) (o : Outcome) (v : ℕ) → o ≡ step collecting t
    → v ≡ differing t.colour o.state.colour → v ≡ changes collecting t
unfolding changes
counted t o v w e = e ∙ ap (λ (q : Outcome). differing t.colour q.state.colour) w

-- a step that is refused ends the sum
refused_sum : (t : State) (n : ℕ) → (code_of (step collecting t).answer ≡ 0 → ⊥)
    → changes_all (collects (suc n)) t ≡ 0
unfolding collects
refused_sum t n h = sum_refused collecting (collects n) t h

module _ (s t : State) (d u v : ℕ) (o : Outcome) (p : Leads s d u t) (w : o ≡ step collecting t)
    (e : v ≡ differing t.colour o.state.colour) where
  sum_done_last : code_of o.answer ≡ 0 → (n : ℕ) → changes_all (collects (d + suc n)) s
      ≡ u + v + changes_all (collects n) o.state
  sum_done_last f n =
      let i : 1 + n ≡ suc n = omega arith in
      let a = p.sum (suc n) in
      let b = rw i at (sum_on t o n v w f e) in omega arith

  sum_refused_last : (code_of o.answer ≡ 0 → ⊥) → (n : ℕ) → changes_all (collects (d + suc n)) s
      ≡ u + v
  sum_refused_last f n =
      let g : code_of (step collecting t).answer ≡ 0 → ⊥ = rw w at f in
      let a = p.sum (suc n) in
      let b = refused_sum t n g in
      let k = counted t o v w e in
      let z = refused_none collecting t g in omega arith

  few_more : u + v ≤ d + 1
  few_more =
      let a = few s t d u p in
      let k = counted t o v w e in
      let z = most_one t in omega arith

-- no more colours are changed than steps made
pub stepped_few : (s t : State) (d u v : ℕ) (o : Outcome) → Leads s d u t
    → o ≡ phase_step t t.rec.phase → v ≡ differing t.colour o.state.colour
    → u + v ≤ d + 1
stepped_few s t d u v o p w e = few_more s t d u v o p (w ∙ step_is t p.passes) e

pub stepped : (b : ℕ) (s t : State) (d u v : ℕ) (o : Outcome) → b
    ≡ bound (count s) s.rec.m s.rec.r → Leads s d u t → count t ≡ count s → o
    ≡ phase_step t t.rec.phase → v ≡ differing t.colour o.state.colour
    → StrideAndStep b s d (u + v) o.answer o.state
stepped b s t d x y o q p j w c =
    let k : Kept t o = rw w (kept t p.passes.code) in
    let v = w ∙ step_is t p.passes in
    let u : b ≡ bound (count t) t.rec.m t.rec.r = rw (p.m, p.r, j) q in
    record {
      m = k.rec.m ∙ p.m;
      r = k.rec.r ∙ p.r;
      done = λ f n e a. p.same n e a ∙ done_on t o n (e + d) a v f;
      refused =
          λ f n e a. p.same n e a ∙ refused_at t o n (e + d) a v f
          ∙ ap (lasted (e + d) o.answer) (sym (rw (← v) at (refused_stays t collecting) f));
      sum = sum_done_last s t d x y o p v c;
      sum_refused = sum_refused_last s t d x y o p v c;
      few = few_more s t d x y o p v c;
      passes = λ f. record { code = passes_again t p.passes.code o k (rw (← u) f) };
      spoilt = λ f. now_spoilt t p.passes.code o k (rw (← u) f);
    }

-- v colours are changed in all but those of n steps, and w in all
pub none_summed : (n v w : ℕ) (s : State) → w ≡ v + changes_all (collects n) s → n ≤ 0 → v ≡ w
unfolding changes_all collects
none_summed zero v w s e h = omega arith
none_summed (suc n) v w s e h = absurd (omega arith)

pub none_left : (n e : ℕ) (a : Answer) (s : State) → n ≤ 0 → lasted e a s ≡ more n e a s
unfolding more
none_left zero e a s h = refl
none_left (suc n) e a s h = absurd (omega arith)

-- a record that does not pass
bad_step : (c : ℕ) (s : State) → c ≡ check s → (c ≡ 0 → ⊥) → refuse s c 0 ≡ step collecting s
unfolding collect
bad_step c s e f = rw step_collecting (unless_refused _ _ _ _ e f)

-- n more steps from a record with a count past its limit
spoilt_run : (s : State) → 2 ≡ check s → (n e : ℕ) (a r : Answer) → (0 < n → r ≡ refused 2 0)
    → (n ≤ 0 → r ≡ a) → lasted e r s ≡ more n e a s
unfolding more
spoilt_run s h zero e a r f g = rw (g (omega arith))
spoilt_run s h (suc n) e a r f g = rw (f (omega arith))
    (sym (refused_at s (refuse s 2 0) n e a (bad_step 2 s h (λ z. omega arith)) (λ z. omega arith)))

module _ (b : ℕ) (s : State) (d v : ℕ) (a : Answer) (t : State) (p : StrideAndStep b s d v a t)
  where
    pub refused_end : (n e : ℕ) (a₀ : Answer) → d < n → (code_of a ≡ 0 → ⊥) → lasted (e + d) a t
        ≡ more n e a₀ s
    refused_end n e a₀ h f =
        let z : n ≡ d + suc (n - d - 1) = omega arith in rw z (sym (p.refused f (n - d - 1) e a₀))

    -- u colours were changed before, and w in all
    module _ (n u w : ℕ) (e : w ≡ u + changes_all (collects n) s) where
      pub refused_summed : d < n → (code_of a ≡ 0 → ⊥) → u + v ≡ w
      refused_summed h f =
          let z : n ≡ d + suc (n - d - 1) = omega arith in
          let y = rw z at e in
          let x = p.sum_refused f (n - d - 1) in omega arith

      pub on_summed : (k : ℕ) → n ≡ d + suc k → code_of a ≡ 0
          → w ≡ u + v + changes_all (collects k) t
      on_summed k h f = let y = rw h at e in let x = p.sum f k in omega arith

      pub spoilt_summed : false ≡ in_limits t.rec b → code_of a ≡ 0 → d < n → u + v ≡ w
      spoilt_summed h f l =
          let y = on_summed (n - d - 1) (omega arith) f in
          let c = p.spoilt h in
          let z = sum_none (collects (n - d - 1)) t (λ q. omega arith) in omega arith

    pub gone_on : (n e k : ℕ) (a₀ : Answer) → n ≡ d + suc k → code_of a ≡ 0 → more n e a₀ s
        ≡ more k (e + d + 1) a t
    gone_on n e k a₀ h f = rw h (p.done f k e a₀)

    pub spoilt_end : false ≡ in_limits t.rec b → code_of a ≡ 0 → (n e : ℕ) (a₀ r : Answer)
        → d < n - e → (e + d + 1 < n → r ≡ refused 2 0)
        → (n ≤ e + d + 1 → r ≡ a) → lasted (e + d + 1) r t ≡ more (n - e) e a₀ s
    spoilt_end h f n e a₀ r l v w =
        spoilt_run t (p.spoilt h) (n - (e + d + 1)) (e + d + 1) a r (λ q. v (omega arith))
        (λ q. w (omega arith))
        ∙ sym (gone_on (n - e) e (n - (e + d + 1)) a₀ (omega arith) f)
