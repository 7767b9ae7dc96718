-- A table at which a run begins, whatever the collector: its shape is good, every node is white,
-- and nothing is counted. So the theory's invariant holds at the first root.
use Prim.Native.Nat.{ℕ, suc, ◌+◌, ◌≤◌}
use mathlib.Core.List.{List}
use native.Mathlib.Omega.{arith}
use Rattle.rules.specs.Table.{State, table, edge_of, most_nodes, most_slots}
use Rattle.rules.specs.Records.{fresh_record}
use Rattle.rules.specs.Fresh.{tabulate, all_white}
use Rattle.theory.proofs.Steps as S
use Rattle.theory.proofs.Invariant.{Shape, Inv}
use Rattle.theory.proofs.Keep.{inv_start}
use Rattle.theory.proofs.FreeCount.{FreeCount}
use Rattle.runs.specs.Start.{Served}
use Rattle.runs.proofs.Tables.{Rows}
use Rattle.runs.proofs.Tabulate.{length_tabulate, all_zero_lem}
use Rattle.runs.proofs.Ready.{state_in, InLimits, sizes}

-- these edges, white nodes, and the record of a start
abbrev pub opened : ℕ → ℕ → List (List ℕ) → ℕ → ℕ → State
opened m r es last n = table es (tabulate all_white m) (fresh_record m r last n)

pub record Opens (E m r : ℕ) (es : List (List ℕ)) (last n : ℕ) : Type 0 where
  pub few : Served E
  pub m_low : 3 ≤ m
  pub m_high : m ≤ most_nodes
  pub r_low : 1 ≤ r
  pub r_high : r ≤ most_slots
  pub room : r + 2 ≤ m
  pub rows : Rows E m es
  pub shape : Shape E m (suc (suc r)) (edge_of es) last
  pub free : FreeCount (edge_of es) n

pub data Started (E m r : ℕ) : State → Type 0 where
  started : {es : List (List ℕ)} {last n : ℕ} → Opens E m r es last n
      → Started E m r (opened m r es last n)

module _ {E m r : ℕ} {es : List (List ℕ)} {last n : ℕ} (v : Opens E m r es last n) where
  pub opened_fits : InLimits E (opened m r es last n)
  opened_fits = omega (arith, v, length_tabulate all_white m)

  pub opened_inv : Inv E m (suc (suc r)) (state_in (opened m r es last n) (S.Rooting 0))
  opened_inv = inv_start (sizes opened_fits) v.shape (all_zero_lem m)
