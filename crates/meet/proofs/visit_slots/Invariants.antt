-- `visit_slots` meets its contract: before node n the slots' nodes below it are visited, and no
-- other is marked.
use mathlib.Core.Path.{◌≡◌}
use Prim.Native.Nat.{ℕ, ◌-◌, ◌≤◌}
use lib.ListN.{get_or}
use Rattle.rules.specs.Meet.{met, blank, visit_slots}
use Rattle.meet.specs.Shown.{Shown}
use Rattle.meet.proofs.visit_slots.Given as goal

abbrev pub invariant-loop-n : goal.invariant-loop-n
invariant-loop-n l = record {
  bare : (j : ℕ) → l.n ≤ j → get_or l.marks j 0 ≡ 0;
  shown : Shown l.m l.marks l.order l.n (visit_slots l.m (l.n - 2) (met blank blank 2));
}
