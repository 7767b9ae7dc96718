-- Every start is a sound state at which nothing is counted yet. A new way to start has its clause
-- here.
use Prim.Native.Nat.{ℕ}
use mathlib.Core.Path.{refl}
use Rattle.rules.specs.Table.{State}
use Rattle.runs.specs.Runs.{begun}
use Rattle.runs.specs.Start.{Start, by_fresh, by_load}
use Rattle.runs.proofs.Bill.{of_roots}
use Rattle.runs.proofs.Counting.{Carried}
use Rattle.runs.proofs.Started.{Started, started, opened_fits, opened_inv}
use Rattle.runs.proofs.FromFresh.{fresh_started}
use Rattle.runs.proofs.FromLoad.{load_started}

-- for any collector
pub begins : {e m r : ℕ} {s : State} → Start e m r s → Started e m r s
begins {m = m} {r} (by_fresh es c k q z) = fresh_started m r es c k q z
begins {m = m} {r} (by_load gs es c k q z) = load_started m r gs es c k q z

-- for the scan
carried : {e m r : ℕ} {s : State} → Started e m r s → Carried e m r begun s
carried (started v) = record {
  sound = record {
    rows = v.rows;
    fits = opened_fits v;
    inv = opened_inv v;
    bill = of_roots refl refl;
    free = v.free;
  };
  nodes = refl;
  slots = refl;
  counts = refl;
}

pub starts : {e m r : ℕ} {s : State} → Start e m r s → Carried e m r begun s
starts k = carried (begins k)
