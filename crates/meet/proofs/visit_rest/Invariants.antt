-- `visit_rest` meets its contract: before each turn what is left from the node with number `next`
-- on comes to the same as what was left at the start, for any numbering that marks and queue stood
-- for.
use mathlib.Core.List.{[], ◌∷◌}
use Prim.Native.Nat.{◌-◌, ◌≤◌}
use lib.ListN.{length}
use Rattle.rules.specs.Meet.{Met}
use Rattle.meet.specs.Shown.{Shown, Hurt, Gone}
use Rattle.meet.proofs.visit_rest.Given as goal

abbrev pub invariant-loop-next : goal.invariant-loop-next
invariant-loop-next l =
    let start = l.fn.start in
    let es = l.graph.left.now ∷ l.graph.right.now ∷ [] in
    record {
      low : 2 ≤ l.next;
      room : l.met.tail ≤ length l.order;
      gone : (s : Met) → Shown l.graph.m l.fn.marks l.fn.order start.met.tail s
          → Hurt l.graph.m es s start.next start.met.hurt
          → Gone l.graph.m es start.next s l.marks l.order l.met.tail l.next l.met.hurt;
    }

abbrev pub decreases-loop-next : goal.decreases-loop-next
decreases-loop-next l = l.graph.m - l.next
