-- Collector steps of a line: all but the last, and the last.
use Prim.Native.Nat.{ℕ, zero, suc, ◌+◌, ◌-◌, ◌<◌, ◌≤◌}
use mathlib.Core.Bool.{Bool, true, false}
use mathlib.Core.Path.{◌≡◌, refl, sym, ap}
use native.Mathlib.Omega.{arith}
use native.Mathlib.Nat.{add-zero}
use native.Mathlib.Numerals.{sub-one}
use borrow.Author.Tests.{eqb-false, eq-eqb, ne_eqb}
use lib.Dec.{eqb}
use Rattle.base.specs.Choice.{pick}
use Rattle.base.proofs.Tests.{split, pick_no, eq_no}
use Rattle.rules.specs.Table.{State, Outcome, refused, unless}
use Rattle.rules.specs.Check.{check}
use Rattle.rules.specs.Collector.{collect}
use Rattle.rules.specs.Steps.{step, collecting, code_of}
use Rattle.rules.specs.Schedules.{Followed, followed, follow, schedule, collects}
use Rattle.rules.proofs.Laws.{step_collecting}
use Rattle.rules.specs.Phases.{position}
use Rattle.lines.specs.Lines.{prints, start_of, collected}

-- one step more, where none was refused
onward : Followed → Followed
onward f =
    let b = schedule (collects 1) f.state in
    pick (eqb f.code 0) (followed (f.done + b.done) b.code b.detail b.state) f

-- the first step's answer where 1 or 2 is given
judged : (s : State) → (check s ≡ 0 → ⊥) → (step collecting s).answer ≡ refused (check s) 0
unfolding collect unless
judged s h =
    rw step_collecting
    (sym (ap (λ (o : Outcome). o.answer) (pick_no _ _ _ _ (eq_no _ _ h) refl)))

one : (n : ℕ) (s : State) → follow (collects 1) n s ≡ onward (followed n 0 0 s)
unfolding onward schedule follow collects pick
one n s = go (eqb (check s) 0) refl (eqb (code_of (step collecting s).answer) 0) refl
  where
    go : (a : Bool) → eqb (check s) 0 ≡ a → (b : Bool) → eqb (code_of (step collecting s).answer) 0
        ≡ b → follow (collects 1) n s ≡ onward (followed n 0 0 s)
    go true q true p = rw (p, q)
    go true q false p = rw (p, q, add-zero)
    go false q b p = rw (judged s (eqb-false _ _ q), q, add-zero)

more : (k n : ℕ) (s : State) → follow (collects (suc k)) n s ≡ onward (follow (collects k) n s)
unfolding onward follow collects pick
more zero n s = one n s
more (suc k) n s = go (eqb (code_of (step collecting s).answer) 0) refl (more k (n + 1) _)
  where
    go : (b : Bool) → eqb (code_of (step collecting s).answer) 0 ≡ b
        → follow (collects (suc k)) (n + 1) (step collecting s).state
        ≡ onward (follow (collects k) (n + 1) (step collecting s).state)
        → follow (collects (suc (suc k))) n s ≡ onward (follow (collects (suc k)) n s)
    go true p e = rw p e
    go false p e = rw (p, p)

next : (k : ℕ) (s : State) → schedule (collects (suc k)) s ≡ onward (schedule (collects k) s)
unfolding onward schedule pick
next k s = go (eqb (check s) 0) refl
  where
    go : (b : Bool) → eqb (check s) 0 ≡ b → schedule (collects (suc k)) s
        ≡ onward (schedule (collects k) s)
    go true q = rw q (more k 0 s)
    go false q = rw (q, q)

done_most : (k n : ℕ) (s : State) → (follow (collects k) n s).done ≤ n + k
unfolding follow collects
done_most zero n s = omega arith
done_most (suc k) n s =
    split (λ (f : Followed). f.done ≤ n + suc k) _ _ _
    (λ e. let h = done_most k (n + 1) (step collecting s).state in
    omega arith) (λ e. omega arith)

-- no more are done than asked for
pub most : (k : ℕ) (s : State) (f : Followed) → f ≡ schedule (collects k) s → f.done ≤ k
unfolding schedule
most k s f e =
    rw e (split (λ (f : Followed). f.done ≤ k) _ _ _ (λ q. let h = done_most k 0 s in
    omega arith) (λ q. omega arith))

parts : (n : ℕ) (s : State) (f : Followed) → 0 < n → f ≡ schedule (collects (n - 1)) s
    → prints (onward f).code (start_of (onward f).done (position f.state.rec.phase))
    (onward f).state ≡ collected n s
unfolding collected
parts zero s f h e = absurd (omega arith)
parts (suc k) s f h e = rw (next k s, sub-one, e, sub-one)

module _ (n : ℕ) (s : State) (f : Followed) where
  pub nothing : n ≤ 0 → f ≡ schedule (collects 0) s → prints f.code 0 f.state ≡ collected n s
  unfolding collected start_of pick
  nothing h e =
      let z : n ≡ 0 = omega arith in
      let d : (schedule (collects 0) s).done ≡ 0 = let q = most 0 s _ refl in omega arith in
      rw (z, d, e) refl

  module _ (h : 0 < n) (i node : ℕ) (e : f ≡ schedule (collects (n - 1)) s)
      (p : i ≡ position f.state.rec.phase) where
    -- a step before the last was refused
    pub stopped : (f.code ≡ 0 → ⊥) → node ≡ start_of f.done i → prints f.code node f.state
        ≡ collected n s
    unfolding onward pick
    stopped c q = rw (q, p) (rw (ne_eqb _ _ c) at (parts n s f h e))

    pub last : (g : Followed) → g ≡ schedule (collects 1) f.state → f.code ≡ 0 → node
        ≡ start_of (f.done + g.done) i → prints g.code node g.state ≡ collected n s
    unfolding onward pick
    last g l c q = rw (q, p) (rw (eq-eqb _ _ c, ← l) at (parts n s f h e))
