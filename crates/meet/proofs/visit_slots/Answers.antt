-- `visit_slots` meets its contract: before node n the slots' nodes below it are visited, and no
-- other is marked.
use mathlib.Core.Path.{◌≡◌, ◌∙◌}
use Prim.Native.Nat.{◌+◌, ◌-◌}
use native.Mathlib.Omega.{arith}
use Rattle.meet.proofs.Shows.{shown_none, shown_slot, slot_other}
use Rattle.meet.proofs.visit_slots.Goals as goal

pub loop-n-init : goal.loop-n-init
loop-n-init c = record {
  bare = λ j h. c.requires.by_index j;
  shown = shown_none _ _ _ (omega arith) c.requires.by_index;
}

pub loop-n-preserved : goal.loop-n-preserved
loop-n-preserved c =
    let inv = c.loop-n.invariant in
    rw (c.from-in-loop-n.ensures, c.from.ensures) record {
      bare = λ j h. slot_other c.loop-n.marks c.loop-n.n j (omega arith)
          ∙ inv.bare j (omega arith);
      shown = shown_slot inv.shown (omega arith) (omega arith) (omega arith) (omega arith)
          (inv.bare c.loop-n.n (omega arith));
    }

pub returns : goal.returns
returns c =
    let end : c.loop-n.n ≡ c.args.r + 2 = omega arith in
    let all : c.args.r + 2 - 2 ≡ c.args.r = omega arith in
    rw all at (rw end at c.loop-n.invariant.shown)
