-- `follow_left` meets its contract: before each turn the steps lead from s to q, and the node at q
-- is the only gray one. So the looks up to it find nothing, and its visit leaves the next one gray.
use Prim.Native.Nat.{◌-◌}
use Rattle.scanning.specs.Chains.{Follows}
use Rattle.scanning.proofs.Marker.follow_left.Given as goal

abbrev pub invariant-loop-q : goal.invariant-loop-q
invariant-loop-q l =
    Follows l.self.left.now l.self.right.now l.initial.colour l.self.x l.self.cap l.fn.s
    l.colour l.q

abbrev pub decreases-loop-q : goal.decreases-loop-q
decreases-loop-q l = l.m - l.q.blackened
