-- `marking` meets its contract: before each turn the steps that were made lead from the start to s.
-- `look_and_visit` leads on from there by some step, so the measure, what is left of cap, falls.
use Prim.Native.Nat.{◌-◌}
use Rattle.scanning.specs.Marking.{ScanLeads}
use Rattle.scanning.proofs.Marker.marking.Given as goal

abbrev pub invariant-loop-t : goal.invariant-loop-t
invariant-loop-t l =
    ScanLeads l.self.left.now l.self.right.now l.initial.colour l.self.x l.self.cap l.initial.s
    l.colour l.s

abbrev pub decreases-loop-t : goal.decreases-loop-t
decreases-loop-t l = l.self.cap - l.s.d
