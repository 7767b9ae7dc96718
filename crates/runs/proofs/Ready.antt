-- What a state is whatever the collector: its sizes are good, the theory's invariant holds of the
-- table in some phase of the theory, and the free count is the length of the free list. If the
-- record passes besides, it is ready for an editor's step. No edge or colour is bad there.
use Prim.Native.Nat.{ℕ, zero, suc, ◌+◌, ◌-◌, ◌≤◌, ◌<◌}
use mathlib.Core.Bool.{Bool, true, not, false}
use mathlib.Core.List.{List, ◌++◌, map}
use mathlib.Core.Path.{◌≡◌, refl}
use mathlib.Core.Logic.{◌≢◌, ◌⊎◌, inl, inr}
use mathlib.Core.Option.{Option, none, some}
use native.Mathlib.Omega.{arith}
use lib.ListN.{length, replicate, length-replicate}
use lib.Dec.{eqb}
use Rattle.base.specs.Choice.{pick, every}
use Rattle.base.proofs.Tests.{lt_yes, le_yes, eq_yes, eq_no, or_first, or_skip, not_is, every_skip}
use Rattle.base.proofs.Tests.{every_last, pick_yes, pick_no, tests, le_no, lt_no}
use Rattle.rules.specs.Table.{State, edge, colour_of, most_nodes, most_slots, bad_edge, bad_colour}
use Rattle.rules.specs.Check.{size_ok, phase_ok, owed_ok, last_ok, free_ok, bound, cycle_ok}
use Rattle.rules.specs.Check.{counts_ok}
use Rattle.rules.specs.Check.{record_ok, check_of, check}
use Rattle.rules.specs.Facts.{Tells}
use Rattle.rules.proofs.Checked.{tells_ok}
use Rattle.rules.specs.declared.Phase.{Phase}
use Rattle.theory.proofs.Steps as S
use Rattle.theory.proofs.Invariant.{Sizes, Inv, Hues}
use Rattle.theory.proofs.FreeCount.{FreeCount, count_room, count_none}
use Rattle.theory.proofs.Facts.{owed_lies, last_lies}
use Rattle.runs.specs.Runs.{kind}
use Rattle.runs.specs.Start.{Served}
use Rattle.runs.proofs.Tables.{Rows}
use Rattle.rules.specs.Records.{Owed}
use Rattle.std.specs.Prelude.{Some, None}

-- the node owed, if any
abbrev pub owes : Owed → Option ℕ
owes None = none
owes (Some n) = some n

-- the theory's state, in a phase of the theory
abbrev pub state_in : State → S.Phase → S.State
state_in s ph = S.st (edge s) (colour_of s) ph (owes s.rec.owed) s.rec.last

-- and in a phase of the record
abbrev pub state_at : ℕ → State → Phase → S.State
state_at E s ph = state_in s (kind E ph)

-- the theory's state
abbrev pub abs : ℕ → State → S.State
abs E s = state_at E s s.rec.phase

-- the first node that is no root
abbrev pub top : State → ℕ
top s = suc (suc s.rec.r)

pub record InLimits (E : ℕ) (s : State) : Type 0 where
  pub few : Served E
  pub m_low : 3 ≤ s.rec.m
  pub m_high : s.rec.m ≤ most_nodes
  pub r_low : 1 ≤ s.rec.r
  pub r_high : s.rec.r ≤ most_slots
  pub room : s.rec.r + 2 ≤ s.rec.m
  pub colours : length s.colour ≡ s.rec.m
  pub told : Tells s.rec (bound E s.rec.m s.rec.r)

pub sizes : {E : ℕ} {s : State} → InLimits E s → Sizes E s.rec.m (top s)
sizes f = record {
  edges =
      omega (arith, f.few);
  fixed = omega arith;
  room = omega (arith, f.room);
}

-- E lengths of m are m each
all_equal : (E m : ℕ) (bs : List Bool) → true ≡ every bs → true
    ≡ every (map (λ n. eqb n m) (replicate E m) ++ bs)
all_equal zero m bs h = h
all_equal (suc E) m bs h = every_skip _ _ _ (eq_yes m m refl) (all_equal E m bs h)

pub size_ok_lem : {E : ℕ} {s : State} → InLimits E s → true
    ≡ size_ok s.rec.m s.rec.r (replicate E s.rec.m) (length s.colour)
unfolding size_ok
size_ok_lem {E} {s} f =
    let rest = all_equal E s.rec.m _ (every_last _ _ (eq_yes _ _ f.colours)) in
    search (tests, f.m_low, f.m_high, f.r_low, f.r_high, f.room, rest) depth 12

pub owed_ok_lem : {m : ℕ} (o : Owed) → ((x : ℕ) → owes o ≡ some x → (x ≢ 1) × (x < m)) → true
    ≡ owed_ok m o
unfolding owed_ok
owed_ok_lem None h = refl
owed_ok_lem (Some x) h = every_skip _ _ _ (not_is _ (eq_no _ _ (h x refl).0))
    (every_last _ _ (lt_yes _ _ (h x refl).1))

pub last_ok_lem : {m r : ℕ} (l : ℕ) → (l ≡ 1) ⊎ ((suc (suc r) ≤ l) × (l < m)) → true ≡ last_ok m r l
unfolding last_ok
last_ok_lem l (inl q) = or_first _ _ (eq_yes _ _ q)
last_ok_lem {r = r} l (inr q) =
    or_skip _ _ _ (eq_no l 1 (omega arith))
    (every_skip _ _ _ (le_yes (r + 2) l (omega arith)) (every_last _ _ (lt_yes _ _ q.1)))

free_ok_lem : (m r l n : ℕ) → n + suc (suc r) ≤ m
    → ((l ≡ 1) × (n ≡ 0)) ⊎ ((l ≢ 1) × (n ≢ 0)) → true ≡ free_ok m r l n
unfolding free_ok
free_ok_lem m r l n h k = every_skip _ _ _ (le_yes n (m - (r + 2)) (omega arith))
    (every_last _ _ (none k))
  where
    none : ((l ≡ 1) × (n ≡ 0)) ⊎ ((l ≢ 1) × (n ≢ 0)) → true
        ≡ pick (eqb l 1) (eqb n 0) (not (eqb n 0))
    none (inl q) = pick_yes _ _ _ _ (eq_yes l 1 q.0) (eq_yes n 0 q.1)
    none (inr q) = pick_no _ _ _ _ (eq_no l 1 q.0) (not_is _ (eq_no n 0 q.1))

-- Neither code is given in any phase of the theory, whatever the collector, if the record's own
-- phase and its counts pass.
module _ {E : ℕ} {s : State} {ph : S.Phase} (rs : Rows E s.rec.m s.edges) (f : InLimits E s)
    (v : Inv E s.rec.m (top s) (state_in s ph)) (c : FreeCount (edge s) s.rec.free)
    (p : true ≡ phase_ok s.rec.m s.rec.r s.rec.phase) (b : s.rec.blackened ≤ s.rec.m)
    (k : s.rec.steps < bound E s.rec.m s.rec.r) where
  counts_ok_lem : true ≡ counts_ok s.rec (bound E s.rec.m s.rec.r)
  unfolding counts_ok cycle_ok
  counts_ok_lem = search (tests, b, k, tells_ok s.rec _ f.told) depth 7

  record_ok_lem : true ≡ record_ok E s.rec
  unfolding record_ok
  record_ok_lem =
      let o = owed_ok_lem s.rec.owed (λ x q. owed_lies (sizes f) v q) in
      let l = last_ok_lem s.rec.last (last_lies v) in
      let n = free_ok_lem _ _ _ s.rec.free (count_room v.shape (sizes f).room c)
      (count_none v.shape (sizes f).fixed c) in
      search (tests, p, o, l, n, counts_ok_lem) depth 7

  pub passes : 0 ≡ check s
  unfolding check_of
  passes = rw (rs.lengths, length-replicate E s.rec.m)
      (pick_yes _ _ _ _ (size_ok_lem f) (pick_yes _ _ _ _ record_ok_lem refl))

-- what an editor's step needs to know, whatever the collector and its phase
pub record Ready (E : ℕ) (s : State) (ph : S.Phase) : Type 0 where
  pub rows : Rows E s.rec.m s.edges
  pub fits : InLimits E s
  pub inv : Inv E s.rec.m (top s) (state_in s ph)
  pub free : FreeCount (edge s) s.rec.free
  pub good : 0 ≡ check s

-- an edge that is good
pub good_edge_lem : (m e : ℕ) → e < m → e ≢ 1 → false ≡ bad_edge m e
unfolding bad_edge
good_edge_lem m e h k = or_skip _ _ _ (le_no m e h) (eq_no e 1 k)

-- a colour that is good
pub good_colour : (s : State) → Hues s.rec.m (colour_of s) → (i : ℕ) → false ≡ bad_colour s i
good_colour s h i = lt_no 2 (colour_of s i) (h.small i)
