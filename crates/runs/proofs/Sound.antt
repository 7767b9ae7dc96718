-- The invariant of all runs: the sizes are good, the theory's invariant holds of the table, the
-- bill is paid, and the free count is the length of the free list. In such a state neither code 1
-- nor code 2 is given. Of it an editor's step needs less: a state that is ready.
use Prim.Native.Nat.{ℕ, ◌<◌}
use mathlib.Core.Path.{◌≡◌}
use Rattle.rules.specs.Table.{State, edge, colour_of}
use Rattle.rules.specs.Check.{bound, check}
use Rattle.rules.specs.declared.Phase.{Phase}
use Rattle.theory.proofs.Invariant.{Inv}
use Rattle.theory.proofs.FreeCount.{FreeCount}
use Rattle.runs.specs.Runs.{kind}
use Rattle.runs.proofs.Tables.{Rows}
use Rattle.runs.proofs.Phases.{view}
use Rattle.runs.proofs.Bill.{Bill, phase_ok_lem, below_bound, blackened_le}
use Rattle.runs.proofs.Ready.{state_at, top, InLimits, passes, Ready}

-- the theory's invariant of s, and the bill, in a phase
abbrev pub InvIn : ℕ → State → Phase → Type 0
InvIn E s ph = Inv E s.rec.m (top s) (state_at E s ph)

abbrev pub BillIn : ℕ → State → Phase → Type 0
BillIn E s ph = Bill E s.rec.m s.rec.r (colour_of s) s.rec.steps s.rec.blackened ph
    (kind E ph)

pub record Sound (E : ℕ) (s : State) : Type 0 where
  pub rows : Rows E s.rec.m s.edges
  pub fits : InLimits E s
  pub inv : InvIn E s s.rec.phase
  pub bill : BillIn E s s.rec.phase
  pub free : FreeCount (edge s) s.rec.free

pub cycle_goes : {E : ℕ} {s : State} → Sound E s → s.rec.steps < bound E s.rec.m s.rec.r
cycle_goes g = below_bound g.inv.in_phase g.bill

pub checked : {E : ℕ} {s : State} → Sound E s → 0 ≡ check s
checked {s} g =
    let p = phase_ok_lem (view g.fits.few s.rec.phase) g.inv.in_phase g.bill in
    passes g.rows g.fits g.inv g.free p (blackened_le g.bill) (cycle_goes g)

pub ready : {E : ℕ} {s : State} → Sound E s → Ready E s (kind E s.rec.phase)
ready g = record
    { rows = g.rows; fits = g.fits; inv = g.inv; free = g.free; good = checked g }
