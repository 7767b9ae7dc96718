-- Demand 3 for the calls of any face: each call starts a run or is a run of steps, so what is known
-- of a state is carried along calls as it is along steps.
use Prim.Native.Nat.{ℕ}
use mathlib.Core.List.{List, [], ◌∷◌}
use mathlib.Core.Path.{◌≡◌, refl, ap}
use native.Mathlib.Omega.{arith}
use lib.ListN.{length, get_or}
use borrow.Author.Tests.{eqb-true}
use Rattle.base.proofs.Tests.{split}
use Rattle.rules.specs.Table.{State, state, table}
use Rattle.rules.specs.Steps.{run}
use Rattle.rules.specs.declared.Record.{Record}
use Rattle.runs.specs.Runs.{Count}
use Rattle.runs.specs.Start.{Start}
use Rattle.runs.proofs.Counting.{Carried, carried_run}
use Rattle.runs.proofs.Cycled as C
use C.{count_held}
use Rattle.runs.proofs.Starts as S
use Rattle.runs.proofs.Demand.{demand}
use Rattle.promises.specs.CallRuns.{Lent, lend, Deed, starts, makes, Face, state_of, calls}
use Rattle.promises.specs.CallRuns.{Known, nothing, since, track, tracked, Promised}
use Rattle.promises.specs.CallRuns.{DemandCalls}

-- two lists of edges are a left and a right one
two : (es : List (List ℕ)) → length es ≡ 2 → get_or es 0 [] ∷ get_or es 1 [] ∷ [] ≡ es
two [] q = absurd (omega arith)
two (l ∷ []) q = absurd (omega arith)
two (l ∷ r ∷ []) q = refl
two (l ∷ r ∷ e ∷ es) q = absurd (omega arith)

-- the state that a sound one is to its lender is that state
pub lent_back : {m r : ℕ} {n : Count} {s : State} → Carried 2 m r n s
    → state (get_or s.edges 0 []) (get_or s.edges 1 []) s.colour s.rec ≡ s
lent_back {s = s} v =
    ap (λ (es : List (List ℕ)). table es s.colour s.rec)
    (two s.edges v.sound.rows.count)

-- its cycles are a number that the record holds
abbrev pub Cycled : Count → Type 0
Cycled = C.Held

module _ {C X : Type 0} (f : Face C X) (Fit : X → Type 0) (keep : Record → X) where
  -- a call leaves what a start is, or where a run of steps leads; where what is kept is fit
  abbrev pub Goes : C → Lent X → Deed → Type 0
  Goes c h (starts m r code) =
      code ≡ 0 → (t : State) × Start 2 m r t × (f.leaves c h ≡ lend keep t)
  Goes c h (makes cs) = Fit h.kept → f.leaves c h ≡ lend keep (run cs (state_of f h))

  -- the record is had back from what is kept of it, and of a sound state that is fit
  pub record Faithful : Type 0 where
    pub back : (x : Record) → f.record_in (keep x) ≡ x
    pub fit : {m r : ℕ} {n : Count} {s : State} → Carried 2 m r n s → Cycled n → Fit (keep s.rec)
    pub goes : (c : C) (h : Lent X) → Goes c h (f.deed c (state_of f h))

  -- what is carried along calls
  abbrev Held : Known → Lent X → Type 0
  Held nothing h = Unit {0}
  Held (since m r n) h = Carried 2 m r n (state_of f h) × Fit h.kept × Cycled n

  promised : (k : Known) (h : Lent X) → Held k h → Promised k (state_of f h)
  promised nothing h v = tt
  promised (since m r n) h v = demand v.0

  module _ (p : Faithful) where
    lent_held : {m r : ℕ} {n : Count} {t : State} (h : Lent X) → h ≡ lend keep t → Carried 2 m r n t
        → Cycled n → Held (since m r n) h
    lent_held {m} {r} {n} {t} h e v u = rw (e, p.back, lent_back v) (v, p.fit v u, u)

    turn : (c : C) (h : Lent X) (d : Deed) → Goes c h d → (k : Known) → Held k h
        → Held (track d (state_of f h) k) (f.leaves c h)
    unfolding track
    turn c h (starts m r code) g k v =
        split (λ (k : Known). Held k (f.leaves c h)) _ _ _
        (λ q.
        let (t, b, e) = g (eqb-true code 0 q) in
        lent_held (f.leaves c h) e (S.starts b) (omega arith))
        (λ q. tt)
    turn c h (makes cs) g nothing v = tt
    turn c h (makes cs) g (since m r n) v =
        lent_held (f.leaves c h) (g v.1) (carried_run cs (state_of f h) n v.0)
        (count_held cs (state_of f h) n v.2)

    held : (cs : List C) (h : Lent X) (k : Known) → Held k h
        → Held (tracked f cs h k) (calls f cs h)
    unfolding tracked calls
    held [] h k v = v
    held (c ∷ cs) h k v = held cs (f.leaves c h) _ (turn c h _ (p.goes c h) k v)

    pub demand_calls : DemandCalls f
    demand_calls cs h = promised (tracked f cs h nothing) (calls f cs h) (held cs h nothing tt)
