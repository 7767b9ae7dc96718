-- The fold `gather`: it is the run, its colours and its nodes; and a turn of it.
use Prim.Native.Nat.{ℕ, zero, suc, ◌+◌, ◌-◌, ◌≤◌, ◌<◌}
use mathlib.Core.Path.{◌≡◌, refl, sym, ap, ◌∙◌}
use mathlib.Core.Bool.{Bool, true, false}
use mathlib.Core.List.{List, [], ◌∷◌, ◌++◌, append-nil, append_assoc}
use native.Mathlib.Omega.{arith}
use native.Mathlib.Nat.{sub-zero}
use lib.ListN.{length}
use lib.Dec.{eqb}
use borrow.Author.Tests.{eqb-true, eqb-false}
use Rattle.base.specs.Choice.{pick}
use Rattle.base.proofs.Tests.{split, pick_yes, pick_no, eq_yes, eq_no}
use Rattle.rules.specs.Table.{State, Outcome, refused, refuse}
use Rattle.rules.specs.Check.{check}
use Rattle.rules.specs.Collector.{collect}
use Rattle.rules.specs.Steps.{step, collecting, code_of, detail_of}
use Rattle.rules.specs.Schedules.{Followed, followed, follow, schedule, collects}
use Rattle.rules.specs.Changes.{changes, changes_all}
use Rattle.rules.specs.declared.Answer.{Answer}
use Rattle.rules.specs.declared.Answer.TheVariants.{Named}
use Rattle.rules.specs.declared.Step.{Step}
use Rattle.rules.proofs.Laws.{step_collecting, unless_refused}
use Rattle.rules.proofs.Sums.{most_one}
use Rattle.batch.specs.Last.{answering, last_answer}
use Rattle.freed.specs.Freed.{appended_by, appended, asked}
use Rattle.freed.specs.Gathers.{Gathered, gathered, gather, Turn}
use Rattle.freed.proofs.Nearer.{far_in, nears}

-- one step
abbrev next : State → Outcome
next s = step collecting s

-- the steps that are asked for after one
abbrev later : ℕ → ℕ → State → ℕ
later n room s = asked n (suc room - length (appended_by (next s).answer)) (next s).state

-- the run, its colours and its nodes
pub gathers : (n room d v : ℕ) (l : List ℕ) (s : State)
    → gather n room d v l s ≡ gathered (follow (collects (asked n room s)) d s)
    (v + changes_all (collects (asked n room s)) s) (l ++ appended (asked n room s) s)
unfolding gather asked follow collects changes_all appended pick
gathers zero room d v l s =
    let z : v + 0 ≡ v = omega arith in rw (z, append-nil l)
gathers (suc n) zero d v l s =
    let z : v + 0 ≡ v = omega arith in rw (z, append-nil l)
gathers (suc n) (suc room) d v l s =
    go _ (gathers n (suc room - length (appended_by (next s).answer)) (d + 1)
    (v + changes collecting s) (l ++ appended_by (next s).answer) (next s).state)
    (eqb (code_of (next s).answer) 0)
  where
    go : (g : Gathered) → g ≡ gathered (follow (collects (later n room s)) (d + 1) (next s).state)
        (v + changes collecting s + changes_all (collects (later n room s)) (next s).state)
        (l ++ appended_by (next s).answer ++ appended (later n room s) (next s).state)
        → (b : Bool)
        → pick b g
        (gathered (followed d (code_of (next s).answer) (detail_of (next s).answer) s) v l)
        ≡ gathered
        (pick b (follow (collects (later n room s)) (d + 1) (next s).state)
        (followed d (code_of (next s).answer) (detail_of (next s).answer) s))
        (v
        + pick b (changes collecting s + changes_all (collects (later n room s)) (next s).state) 0)
        (l ++ pick b (appended_by (next s).answer ++ appended (later n room s) (next s).state) [])
    go g i true =
        let z : v + changes collecting s + changes_all (collects (later n room s)) (next s).state
        ≡ v + (changes collecting s + changes_all (collects (later n room s)) (next s).state) =
        omega arith in
        let y = append_assoc l (appended_by (next s).answer) (appended (later n room s)
        (next s).state) in
        i ∙ rw (z, y)
    go g i false = let z : v + 0 ≡ v = omega arith in rw (z, append-nil l)

-- a turn: the run f of its steps, which changes v colours, and what the last one answers
abbrev turned : ℕ → ℕ → ℕ → ℕ → List ℕ → Answer → Followed → Gathered
turned k room w v l a f =
    pick (eqb (code_of a) 0)
    (gather k (suc room - length (appended_by a)) f.done (w + v) (l ++ appended_by a) f.state)
    (gathered f (w + v) l)

turns : (d n k room e w : ℕ) (l : List ℕ) (s : State) (a : Answer) → n ≡ d + k → d ≤ far_in s
    → gather (suc n) (suc room) e w l s
    ≡ turned k room w (changes_all (collects (suc d)) s) l (answering (suc d) a s)
    (follow (collects (suc d)) e s)
unfolding gather follow collects changes_all answering pick
turns zero n k room e w l s a h g = go (eqb (code_of (next s).answer) 0) refl
  where
    go : (b : Bool) → eqb (code_of (next s).answer) 0 ≡ b
        → pick b (gather n (suc room - length (appended_by (next s).answer)) (e + 1)
        (w + changes collecting s) (l ++ appended_by (next s).answer) (next s).state)
        (gathered (followed e (code_of (next s).answer) (detail_of (next s).answer) s) w l)
        ≡ turned k room w (pick b (changes collecting s + 0) 0) l
        (pick b (next s).answer (next s).answer)
        (pick b (followed (e + 1) 0 0 (next s).state)
        (followed e (code_of (next s).answer) (detail_of (next s).answer) s))
    go true q =
        let z : n ≡ k = omega arith in
        let y : changes collecting s + 0 ≡ changes collecting s = omega arith in
        rw (q, z, y)
    go false q = let y : w + 0 ≡ w = omega arith in rw (q, y)
turns (suc d) zero k room e w l s a h g = absurd (omega arith)
turns (suc d) (suc n) k room e w l s a h g =
    go (λ f. turns d n k room (e + 1) (w + changes collecting s) l (next s).state
    (next s).answer (omega arith) f) (eqb (code_of (next s).answer) 0) refl
  where
    go : (d ≤ far_in (next s).state
        → gather (suc n) (suc room) (e + 1) (w + changes collecting s) l (next s).state
        ≡ turned k room (w + changes collecting s) (changes_all (collects (suc d)) (next s).state)
        l (answering (suc d) (next s).answer (next s).state)
        (follow (collects (suc d)) (e + 1) (next s).state))
        → (b : Bool) → eqb (code_of (next s).answer) 0 ≡ b
        → pick b (gather (suc n) (suc room - length (appended_by (next s).answer)) (e + 1)
        (w + changes collecting s) (l ++ appended_by (next s).answer) (next s).state)
        (gathered (followed e (code_of (next s).answer) (detail_of (next s).answer) s) w l)
        ≡ turned k room w
        (pick b (changes collecting s + changes_all (collects (suc d)) (next s).state) 0) l
        (pick b (answering (suc d) (next s).answer (next s).state) (next s).answer)
        (pick b (follow (collects (suc d)) (e + 1) (next s).state)
        (followed e (code_of (next s).answer) (detail_of (next s).answer) s))
    go i true q =
        let done = eqb-true (code_of (next s).answer) 0 q in
        let near = (nears s).near done in
        let none = (nears s).none done (omega arith) in
        let z : w + (changes collecting s + changes_all (collects (suc d)) (next s).state)
        ≡ w + changes collecting s + changes_all (collects (suc d)) (next s).state = omega arith in
        rw (none, sub-zero, append-nil l, z) (i (omega (arith, near)))
    go i false q = let y : w + 0 ≡ w = omega arith in rw (q, y)

-- how many steps of n are done, and how many colours they change
record Counts (n e : ℕ) (f : Followed) (v : ℕ) : Type 0 where
  most : f.done ≤ e + n
  all : f.code ≡ 0 → f.done ≡ e + n
  few : e + v ≤ f.done

counts : (n e : ℕ) (s : State)
    → Counts n e (follow (collects n) e s) (changes_all (collects n) s)
unfolding follow collects changes_all pick
counts zero e s =
    record { most = omega arith; all = λ z. omega arith; few = omega arith }
counts (suc n) e s =
    go (counts n (e + 1) (next s).state) (eqb (code_of (next s).answer) 0) refl
  where
    go : Counts n (e + 1) (follow (collects n) (e + 1) (next s).state)
        (changes_all (collects n) (next s).state) → (b : Bool) → eqb (code_of (next s).answer) 0 ≡ b
        → Counts (suc n) e
        (pick b (follow (collects n) (e + 1) (next s).state)
        (followed e (code_of (next s).answer) (detail_of (next s).answer) s))
        (pick b (changes collecting s + changes_all (collects n) (next s).state) 0)
    go i true q =
        let one = most_one s in
        record {
          most = omega (arith, i.most);
          all = λ z. omega (arith, i.all z);
          few = omega (arith, i.few, one);
        }
    go i false q =
        record {
          most = omega arith;
          all = λ z. absurd (eqb-false (code_of (next s).answer) 0 q z);
          few = omega arith;
        }

-- no more are done than asked for
pub done_most : (n : ℕ) (s : State) → (schedule (collects n) s).done ≤ n
unfolding schedule
done_most n s =
    split (λ (f : Followed). f.done ≤ n) _ _ _ (λ e. omega (arith, (counts n 0 s).most))
    (λ e. omega arith)

-- and where the code is 0 all are done
pub done_all : (n : ℕ) (s : State) → (schedule (collects n) s).code ≡ 0
    → (schedule (collects n) s).done ≡ n
unfolding schedule
done_all n s =
    split (λ (f : Followed). f.code ≡ 0 → f.done ≡ n) _ _ _
    (λ e z. omega (arith, (counts n 0 s).all z)) (λ e z. absurd (eqb-false (check s) 0 e z))

-- the run f, where e steps were done before
abbrev after : ℕ → Followed → Followed
after e f = followed (e + f.done) f.code f.detail f.state

shifted : (steps : List Step) (e n : ℕ) (s : State) → follow steps (e + n) s
    ≡ after e (follow steps n s)
unfolding follow pick
shifted [] e n s = refl
shifted (a ∷ rest) e n s =
    go (shifted rest e (n + 1) (step a s).state) (eqb (code_of (step a s).answer) 0)
  where
    go : follow rest (e + (n + 1)) (step a s).state
        ≡ after e (follow rest (n + 1) (step a s).state)
        → (b : Bool)
        → pick b (follow rest (e + n + 1) (step a s).state)
        (followed (e + n) (code_of (step a s).answer) (detail_of (step a s).answer) s)
        ≡ after e
        (pick b (follow rest (n + 1) (step a s).state)
        (followed n (code_of (step a s).answer) (detail_of (step a s).answer) s))
    go i true = let z : e + n + 1 ≡ e + (n + 1) = omega arith in rw z i
    go i false = refl

-- where a step is asked for, codes 1 and 2 need no judging of their own
module _ (n : ℕ) (s : State) where
  bad : (check s ≡ 0 → ⊥) → refuse s (check s) 0 ≡ next s
  unfolding collect
  bad h = rw step_collecting (unless_refused _ _ _ _ refl h)

  bad_run : (check s ≡ 0 → ⊥) → followed 0 (check s) 0 s ≡ follow (collects (suc n)) 0 s
  unfolding follow collects
  bad_run h = rw (← bad h) (pick_no _ _ _ _ (eq_no (check s) 0 h) refl)

  plain : schedule (collects (suc n)) s ≡ follow (collects (suc n)) 0 s
  unfolding schedule
  plain =
      split (λ (f : Followed). f ≡ follow (collects (suc n)) 0 s) _ _ _ (λ e. refl)
      (λ e. bad_run (eqb-false (check s) 0 e))

  bad_answer : (check s ≡ 0 → ⊥) → refused (check s) 0 ≡ answering (suc n) (Named 0) s
  unfolding answering
  bad_answer h = rw (← bad h) (pick_no _ _ _ _ (eq_no (check s) 0 h) refl)

  plain_answer : last_answer (suc n) s ≡ answering (suc n) (Named 0) s
  unfolding last_answer
  plain_answer =
      split (λ (a : Answer). a ≡ answering (suc n) (Named 0) s) _ _ _ (λ e. refl)
      (λ e. bad_answer (eqb-false (check s) 0 e))

-- b steps that append nothing, and one more
module _ (s t : State) (n b d v : ℕ) (a : Answer) (h : b ≤ n - 1) (g : b ≤ far_in s) (p : 1 ≤ n)
    (w : followed d (code_of a) (detail_of a) t ≡ follow (collects (suc b)) 0 s)
    (x : a ≡ answering (suc b) (Named 0) s) (y : v ≡ changes_all (collects (suc b)) s) where
  numbers : Counts (suc b) 0 (followed d (code_of a) (detail_of a) t) v
  numbers = rw (w, y) (counts (suc b) 0 s)

  ran_on : (e : ℕ) → follow (collects (suc b)) e s ≡ followed (e + d) (code_of a) (detail_of a) t
  ran_on e =
      let z : e + 0 ≡ e = omega arith in
      rw z at (shifted (collects (suc b)) e 0 s) ∙ ap (after e) (sym w)

  goes : (k room e u : ℕ) (l : List ℕ) → n ≡ suc (b + k) → gather n (suc room) e u l s
      ≡ turned k room u v l a (followed (e + d) (code_of a) (detail_of a) t)
  goes k room e u l q =
      let f = followed (e + d) (code_of a) (detail_of a) t in
      rw q (turns b (b + k) k room e u l s (Named 0) refl g
      ∙ ap (λ (o : Followed). turned k room u (changes_all (collects (suc b)) s) l
      (answering (suc b) (Named 0) s) o) (ran_on e)
      ∙ ap (λ (z : ℕ). turned k room u z l (answering (suc b) (Named 0) s) f) (sym y)
      ∙ ap (λ (z : Answer). turned k room u v l z f) (sym x))

  pub turn_is : Turn s n d v a t
  turn_is =
      let c = numbers in
      record {
        most = omega (arith, c.most);
        some = λ z. omega (arith, c.all z);
        few = omega (arith, c.few);
        done = λ z room e u l.
            goes (n - d) room e u l (omega (arith, c.all z))
            ∙ sym (pick_yes _ _ _ _ (eq_yes (code_of a) 0 z) refl);
        refused = λ z room e u l.
            goes (n - suc b) room e u l (omega arith)
            ∙ sym (pick_no _ _ _ _ (eq_no (code_of a) 0 z) refl);
      }

-- the same of what the batch promises
pub turn_of : (s t : State) (n b d v : ℕ) (a : Answer) → b ≤ n - 1 → b ≤ far_in s → 1 ≤ n
    → followed d (code_of a) (detail_of a) t ≡ schedule (collects (b + 1)) s
    → a ≡ last_answer (b + 1) s → v ≡ changes_all (collects (b + 1)) s → Turn s n d v a t
turn_of s t n b d v a h g p w x y =
    let z : b + 1 ≡ suc b = omega arith in
    turn_is s t n b d v a h g p (rw z at w ∙ plain b s) (rw z at x ∙ plain_answer b s)
    (rw z at y)

-- the loop of turns: e steps of n were done, and k of the nodes that there is room for are noted
module _ (s t : State) (n e d v room k w : ℕ) (a : Answer) (p : Turn s (n - e) d v a t)
    (h : k < room) (l : List ℕ) where
  pub goes_on : code_of a ≡ 0 → (k' : ℕ) (l' : List ℕ) → k' ≡ k + length (appended_by a)
      → l' ≡ l ++ appended_by a
      → gather (n - e) (room - k) e w l s ≡ gather (n - (e + d)) (room - k') (e + d) (w + v) l' t
  goes_on z k' l' q r =
      let x : room - k ≡ suc (room - k - 1) = omega arith in
      let y : room - k' ≡ suc (room - k - 1) - length (appended_by a) = omega arith in
      let u : n - (e + d) ≡ n - e - d = omega arith in
      rw (x, y, u, r) (p.done z (room - k - 1) e w l)

  pub ends_refused : (code_of a ≡ 0 → ⊥)
      → gathered (followed (e + d) (code_of a) (detail_of a) t) (w + v) l
      ≡ gather (n - e) (room - k) e w l s
  ends_refused z =
      let x : room - k ≡ suc (room - k - 1) = omega arith in
      rw x (sym (p.refused z (room - k - 1) e w l))

module _ (s : State) (e w : ℕ) (l : List ℕ) where
  pub ends_done : (n room : ℕ) → n ≤ e
      → gathered (followed e 0 0 s) w l ≡ gather (n - e) room e w l s
  unfolding gather
  ends_done n room h = let z : n - e ≡ 0 = omega arith in rw z

  full : (n : ℕ) → gathered (followed e 0 0 s) w l ≡ gather n 0 e w l s
  unfolding gather
  full zero = refl
  full (suc n) = refl

  pub ends_full : (n room k : ℕ) → room ≤ k
      → gathered (followed e 0 0 s) w l ≡ gather n (room - k) e w l s
  ends_full n room k h = let z : room - k ≡ 0 = omega arith in rw z (full n)
