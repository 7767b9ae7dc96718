-- `feed` meets its contract: what the bytes from the next position on make of where the lines stand
-- is the same after each turn.
use Prim.Native.Nat.{◌-◌}
use mathlib.Core.Path.{◌≡◌}
use lib.ListN.{length, drop}
use Rattle.session.specs.Feeding.{fold}
use Rattle.serving.specs.Serving.{going, next_byte}
use Rattle.serving.proofs.feed.Given as goal

abbrev pub invariant-loop-next : goal.invariant-loop-next
invariant-loop-next l =
    (length l.left ≡ length l.initial.left) × (length l.right ≡ length l.initial.right) ×
    (length l.colour ≡ length l.initial.colour) × (length l.line ≡ length l.initial.line) ×
    (length l.out ≡ length l.initial.out) × (fold next_byte (drop l.i l.input)
    (going l.initial.run l.initial.left l.initial.right l.initial.colour l.initial.line l.initial.out)
    ≡ fold next_byte (drop l.next l.input) (going l.run l.left l.right l.colour l.line l.out))

abbrev pub decreases-loop-next : goal.decreases-loop-next
decreases-loop-next l =
    length l.input - l.next
