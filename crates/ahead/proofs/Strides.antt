-- Steps put together to strides.
use Prim.Native.Nat.{ℕ, suc, ◌+◌, ◌-◌, ◌≤◌, ◌<◌}
use mathlib.Core.Path.{◌≡◌, refl, sym, ◌∙◌}
use mathlib.Core.Bool.{true}
use mathlib.Core.List.{List}
use lib.ListN.{length}
use native.Mathlib.Omega.{arith}
use Rattle.base.proofs.Tests.{pick_yes, eq_yes, lt_yes, le_yes, every_skip, every_last}
use Rattle.base.proofs.Tests.{every_none, each, facts}
use Rattle.rules.specs.declared.Record.{Record}
use Rattle.rules.specs.declared.Answer.{Answer}
use Rattle.rules.specs.Table.{State, Outcome, state, most_nodes}
use Rattle.rules.specs.Facts.{many_steps}
use Rattle.rules.specs.Check.{size_ok, free_ok, bound, cycle_ok, in_limits}
use Rattle.rules.specs.Collector.{phase_step, collect}
use Rattle.rules.specs.Steps.{step, collecting, code_of}
use Rattle.rules.specs.Schedules.{collects}
use Rattle.rules.specs.Changes.{differing, changes, changes_all}
use Rattle.rules.proofs.Checked.{passes, good}
use Rattle.rules.proofs.Sizes.{square}
use Rattle.rules.proofs.Sums.{sum_done, most_collects}
use Rattle.rules.proofs.Laws.{step_collecting, unless_done}
use Rattle.ahead.specs.Leads.{more, Passes, Room, Leads}
use Rattle.rules.proofs.Steady.{count, Kept, free_passes, kept, passes_again}

-- M, and the lengths of the three slices, which are M
pub record Sized (m ll rl cl : ℕ) : Type 0 where
  pub low : 3 ≤ m
  pub high : m ≤ most_nodes
  pub lefts : ll ≡ m
  pub rights : rl ≡ m
  pub colours : cl ≡ m

pub sized : (l k c : List ℕ) (x : Record) → Passes (state l k c x)
    → Sized x.m (length l) (length k) (length c)
sized l k c x p =
    let g = good _ _ _ x p.code in
    record {
      low = g.m_low;
      high = g.m_high;
      lefts = g.lefts;
      rights = g.rights;
      colours = g.colours;
    }

-- no step
pub stay : (s : State) (d v : ℕ) → d ≡ 0 → v ≡ 0 → Passes s → Leads s d v s
stay s d v h k p =
    record {
      m = refl;
      r = refl;
      passes = p;
      same =
          λ n e a. let z : e + 0 ≡ e = omega arith in let y : 0 + suc n ≡ suc n = omega arith in
          rw (h, z, y);
      sum = λ n. let y : 0 + n ≡ n = omega arith in rw (h, k, y) (omega arith);
    }

-- a stride and the stride after it
pub then : (s t u : State) (d e f v w z : ℕ) → f ≡ d + e → z ≡ v + w → Leads s d v t → Leads t e w u
    → Leads s f z u
then s t u d e f v w z h g p q =
    record {
      m = q.m ∙ p.m;
      r = q.r ∙ p.r;
      passes = q.passes;
      same = λ n b a.
          let i : f + suc n ≡ d + suc (e + n) = omega arith in
          let j : suc (e + n) ≡ e + suc n = omega arith in
          let k : b + f ≡ b + d + e = omega arith in
          rw (i, k) (p.same (e + n) b a ∙ rw j (q.same n (b + d) a));
      sum = λ n.
          let i : f + n ≡ d + (e + n) = omega arith in
          let a = p.sum (e + n) in
          let b = q.sum n in rw i (omega arith);
    }

-- the same where the steps are counted from a start
pub on : (s t u : State) (d e f v w z : ℕ) → d ≤ e → e ≤ f → v ≤ w → w ≤ z
    → Leads s (e - d) (w - v) t → Leads t (f - e) (z - w) u → Leads s (f - d) (z - v) u
on s t u d e f v w z h k i j =
    then s t u (e - d) (f - e) (f - d) (w - v) (z - w) (z - v) (omega arith) (omega arith)

-- a step changes at most one colour
pub few : (s t : State) (d v : ℕ) → Leads s d v t → v ≤ d
few s t d v p = let a = p.sum 0 in let b = most_collects (d + 0) s in omega arith

pub fewer : (x : Record) (cap d : ℕ) → d ≤ cap → Room x cap → Room x d
fewer x cap d h b = let z = b.steps in record { steps = omega arith }

-- the steps fit
pub small : (s : State) (cap : ℕ) → Passes s → Room s.rec cap → s.rec.steps + cap < many_steps
unfolding bound size_ok
small s cap p b =
    let g = each _ (passes _ _ s.rec p.code).0 in
    let q = square s.rec.m (omega facts) in
    let z = b.steps in
    omega facts

-- where the record passes, a step is the step of its phase
pub step_is : (s : State) → Passes s → phase_step s s.rec.phase ≡ step collecting s
unfolding collect
step_is s p = rw step_collecting (unless_done _ _ _ _ _ p.code refl refl)

pub done_on : (s : State) (o : Outcome) (n e : ℕ) (a : Answer) → o ≡ step collecting s
    → code_of o.answer ≡ 0
    → more (suc n) e a s ≡ more n (e + 1) o.answer o.state
unfolding more
done_on s o n e a w z = rw (← w) (sym (pick_yes _ _ _ _ (eq_yes _ _ z) refl))

any_answer : (s : State) (n e : ℕ) (a b : Answer) → more (suc n) e a s ≡ more (suc n) e b s
unfolding more
any_answer s n e a b = refl

-- a step that is done, with the colours that it changes, and the steps after it
pub sum_on : (s : State) (o : Outcome) (n v : ℕ) → o ≡ step collecting s → code_of o.answer ≡ 0
    → v ≡ differing s.colour o.state.colour
    → changes_all (collects (1 + n)) s ≡ v + changes_all (collects n) o.state
unfolding collects changes
sum_on s o n v w z e =
    let i : 1 + n ≡ suc n = omega arith in
    let y : code_of (step collecting s).answer ≡ 0 = rw (← w) z in
    rw (i, e, w) (sum_done collecting (collects n) s y)

-- how many are free where the record passes
pub free_fits : {s : State} → Passes s
    → true ≡ free_ok s.rec.m s.rec.r s.rec.last s.rec.free
free_fits {s} p = free_passes _ _ s.rec p.code

-- a step that is done and leaves the counts within their limits
pub step_on : (s : State) (o : Outcome) (v : ℕ) → Passes s → o ≡ phase_step s s.rec.phase
    → code_of o.answer ≡ 0 → o.state.rec.blackened ≤ s.rec.m
    → o.state.rec.steps < bound (count s) s.rec.m s.rec.r
    → true ≡ free_ok s.rec.m s.rec.r o.state.rec.last o.state.rec.free
    → v ≡ differing s.colour o.state.colour → Leads s 1 v o.state
unfolding in_limits cycle_ok
step_on s o v p w z k l f c =
    let h : Kept s o = rw w (kept s p.code) in
    let b : o.state.rec.blackened ≤ o.state.rec.m = rw h.rec.m k in
    let g : true
    ≡ free_ok o.state.rec.m o.state.rec.r o.state.rec.last o.state.rec.free =
    rw (h.rec.m, h.rec.r) f in
    record {
      m = h.rec.m;
      r = h.rec.r;
      passes = record {
        code =
            passes_again s p.code o h (every_skip _ _ _ g (every_last _ _
            (every_skip _ _ _ (le_yes _ _ b) (every_skip _ _ _ (lt_yes _ _ l) every_none))));
      };
      same = λ n e a.
          let i : 1 + suc n ≡ suc (suc n) = omega arith in
          rw i (done_on s o (suc n) e a (w ∙ step_is s p) z
          ∙ any_answer o.state n (e + 1) o.answer a);
      sum = λ n. sum_on s o n v (w ∙ step_is s p) z c;
    }
