-- `visit_many` meets its contract: the queue has the entries that were given, and room for two more
-- than there are nodes, so that the walk comes to its end.
use Prim.Native.Nat.{ℕ, ◌≤◌, ◌<◌}
use native.Mathlib.Omega.{arith}
use mathlib.Core.List.{List}
use mathlib.Core.Path.{◌≡◌, ◌∙◌}
use lib.ListN.{length, take, get_or}
use lib.Seq.{length-take-le}
use Rattle.std.proofs.lemmas.List.{get_or-take}
use Rattle.reach.proofs.Kept.{top}
use Rattle.meet.proofs.Hurts.{shown_longer, gone_told}
use Rattle.meet.proofs.visit_many.Goals as goal

-- what is copied of a queue
copied : (n : ℕ) (few order : List ℕ) → n ≤ length few
    → ((k : ℕ) → k < length (take n few) → get_or order k 0 ≡ get_or (take n few) k 0) → (k : ℕ)
    → k < n → get_or order k 0 ≡ get_or few k 0
copied n few order r e k h = e k (omega (arith, length-take-le n few r)) ∙ get_or-take n few k 0 h

pub widen-requires : goal.widen-requires
widen-requires c =
    let w = c.requires.going in
    omega (
      arith,
      top w.shown.kept (omega arith),
      w.shown.end,
      length-take-le c.args.start.met.tail c.args.few.now c.requires.start_in_bounds,
    )

pub visit_rest-requires : goal.visit_rest-requires
visit_rest-requires c =
    let w = c.requires.going in
    let at = copied _ _ _ c.requires.start_in_bounds c.widen.ensures in
    record {
      m_in_bounds = omega arith;
      le_next = omega arith;
      start_in_bounds = omega (arith, top w.shown.kept (omega arith), w.shown.end);
      going = record { some = w.some; shown = shown_longer _ at w.shown; hurt = w.hurt };
    }

pub returns : goal.returns
returns c =
    let e = c.visit_rest.ensures in
    let at = copied _ _ _ c.requires.start_in_bounds c.widen.ensures in
    λ s v u. gone_told (e.gone s (shown_longer _ at v) u)
    (e.tail_le_next (omega (arith, c.args.graph.m_le_most_nodes)))
