-- `feed` meets its contract: what the bytes from the next position on make of where the session
-- stands is the same after each turn.
use Prim.Native.Nat.{◌-◌}
use mathlib.Core.Path.{◌≡◌}
use lib.ListN.{length, drop}
use Rattle.session.specs.Feeding.{fold, stand_in, SameSlices, eats}
use Rattle.transcript.proofs.feed.Given as goal

abbrev pub invariant-loop-next : goal.invariant-loop-next
invariant-loop-next l = record {
  slices : SameSlices l.initial.b l.b;
  leads : fold eats l.input (stand_in l.initial.t l.initial.b)
      ≡ fold eats (drop l.next l.input) (stand_in l.t l.b);
}

abbrev pub decreases-loop-next : goal.decreases-loop-next
decreases-loop-next l = length l.input - l.next
