-- Laws of the definitions: no more steps are asked for than were wanted, no more nodes are appended
-- than there is room for, and where fewer steps are asked for the room is used up.
use Prim.Native.Nat.{ℕ, zero, suc, ◌-◌, ◌≤◌, ◌<◌}
use mathlib.Core.Path.{◌≡◌, refl, ap}
use mathlib.Core.Bool.{Bool, true, false}
use mathlib.Core.List.{List, [], ◌∷◌, ◌++◌}
use native.Mathlib.Omega.{arith}
use native.Mathlib.Nat.{sub-zero}
use lib.ListN.{length, take, length-append}
use lib.Dec.{eqb}
use borrow.Author.Tests.{eqb-false}
use Rattle.base.specs.Choice.{pick}
use Rattle.rules.specs.Table.{State}
use Rattle.rules.specs.Steps.{step, collecting, code_of}
use Rattle.rules.specs.Schedules.{collects}
use Rattle.rules.specs.declared.Step.{Step}
use Rattle.rules.specs.declared.Answer.{Answer}
use Rattle.rules.specs.declared.Answer.TheVariants.{Started, Named, Linked, Taken, Shaded, Looked}
use Rattle.rules.specs.declared.Answer.TheVariants.{Blackened, Whitened, Appended, Counted}
use Rattle.rules.specs.declared.Answer.TheVariants.{Refused}
use Rattle.rules.proofs.Refused.{refused_stays}
use Rattle.freed.specs.Freed.{appended_by, appended, asked, room_of, asked_in, run_in}
use Rattle.freed.specs.Freed.{appended_in}
use Rattle.freed.proofs.Gathers.{done_most, done_all}
use Rattle.freed.proofs.Notes.{none_by, most_by}

-- the answer to a step, and the state after it
abbrev said : State → Answer
said s = (step collecting s).answer

abbrev left_by : State → State
left_by s = (step collecting s).state

-- [Freed 2] at most n steps are asked for
pub asked_most : (n room : ℕ) (s : State) → asked n room s ≤ n
unfolding asked
asked_most zero room s = omega arith
asked_most (suc n) zero s = omega arith
asked_most (suc n) (suc room) s =
    let i = asked_most n (suc room - length (appended_by (said s))) (left_by s) in omega arith

-- [Freed 2] they append no more nodes than there is room for
pub room_most : (n room : ℕ) (s : State) → length (appended (asked n room s) s) ≤ room
unfolding asked appended pick
room_most zero room s = omega arith
room_most (suc n) zero s = omega arith
room_most (suc n) (suc room) s =
    go (appended (asked n (suc room - length (appended_by (said s))) (left_by s)) (left_by s))
    (room_most n (suc room - length (appended_by (said s))) (left_by s)) (eqb (code_of (said s)) 0)
  where
    go : (l : List ℕ) → length l ≤ suc room - length (appended_by (said s)) → (b : Bool)
        → length (pick b (appended_by (said s) ++ l) []) ≤ suc room
    go l i true =
        let z = length-append (appended_by (said s)) l in
        let m = most_by (said s) in omega arith
    go l i false = omega arith

-- a refused step appends nothing
by_refused : (a : Answer) → (code_of a ≡ 0 → ⊥) → appended_by a ≡ []
by_refused (Started n) h = absurd (h refl)
by_refused (Named n) h = absurd (h refl)
by_refused (Linked n) h = absurd (h refl)
by_refused (Taken n) h = absurd (h refl)
by_refused (Shaded n) h = absurd (h refl)
by_refused (Looked n) h = absurd (h refl)
by_refused (Blackened n) h = absurd (h refl)
by_refused (Whitened n) h = absurd (h refl)
by_refused (Appended n) h = absurd (h refl)
by_refused (Counted k) h = absurd (h refl)
by_refused (Refused code n detail) h = none_by (Refused code n detail) refl

-- and where one is refused all are asked for
refused_all : (n room : ℕ) (s : State) → (code_of (said s) ≡ 0 → ⊥) → asked n (suc room) s ≡ n
unfolding asked
refused_all zero room s h = refl
refused_all (suc n) room s h =
    rw (by_refused (said s) h, sub-zero, refused_stays s collecting h)
    (ap suc (refused_all n room s h))

-- where fewer are asked for, the room is used up
pub room_used : (n room : ℕ) (s : State) → asked n room s < n
    → length (appended (asked n room s) s) ≡ room
unfolding asked appended pick
room_used zero room s h = absurd (omega arith)
room_used (suc n) zero s h = refl
room_used (suc n) (suc room) s h =
    go (appended (asked n (suc room - length (appended_by (said s))) (left_by s)) (left_by s))
    (room_used n (suc room - length (appended_by (said s))) (left_by s) (omega arith))
    (eqb (code_of (said s)) 0) refl
  where
    go : (l : List ℕ) → length l ≡ suc room - length (appended_by (said s)) → (b : Bool)
        → eqb (code_of (said s)) 0 ≡ b
        → length (pick b (appended_by (said s) ++ l) []) ≡ suc room
    go l i true q =
        let z = length-append (appended_by (said s)) l in
        let m = most_by (said s) in omega arith
    go l i false q =
        let f = eqb-false (code_of (said s)) 0 q in
        let e = rw (by_refused (said s) f, sub-zero, refused_stays s collecting f) at h in
        let z = refused_all n room s f in absurd (omega arith)

-- the first of k steps are the first of n, where that is no less
first_steps : (d k n : ℕ) → d ≤ k → k ≤ n → take d (collects k) ≡ take d (collects n)
unfolding collects
first_steps zero k n h g = refl
first_steps (suc d) zero n h g = absurd (omega arith)
first_steps (suc d) (suc k) zero h g = absurd (omega arith)
first_steps (suc d) (suc k) (suc n) h g =
    ap (λ (l : List Step). collecting ∷ l) (first_steps d k n (omega arith) (omega arith))

-- [Freed 3] the steps that are done are the first of n collector steps
pub steps_done : (n : ℕ) (list : List ℕ) (s : State)
    → take (run_in n list s).done (collects (asked_in n list s))
    ≡ take (run_in n list s).done (collects n)
steps_done n list s =
    first_steps _ _ n (done_most (asked_in n list s) s) (asked_most n (room_of (length list)) s)

-- [Freed 5] where the code is 0 and fewer than n steps are done, the list is full
pub list_full : (n : ℕ) (list : List ℕ) (s : State) → (run_in n list s).code ≡ 0
    → (run_in n list s).done < n → length (appended_in n list s) ≡ room_of (length list)
list_full n list s z h =
    let e = done_all (asked_in n list s) s z in
    room_used n (room_of (length list)) s (omega (arith, e, h))
