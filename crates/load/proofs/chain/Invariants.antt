-- `chain` meets its contract: the walk from n on is the walk from FREE on, and the length is k and
-- what follows n. Edges are below m, so it stays in the table.
use mathlib.Core.Path.{◌≡◌}
use mathlib.Core.List.{[], ◌∷◌}
use Prim.Native.Nat.{◌+◌, ◌-◌, ◌<◌}
use Rattle.rules.specs.Load.{chain, chain_length}
use Rattle.load.proofs.chain.Given as goal

abbrev pub invariant-loop-k : goal.invariant-loop-k
invariant-loop-k l =
    let m = l.graph.m in
    let es = l.graph.left.now ∷ l.graph.right.now ∷ [] in
    record {
      inside : l.at < m;
      rest : chain l.graph.r es m l.fn.free 1 ≡ chain l.graph.r es (m - l.k) l.free l.at;
      count : chain_length es m 1 ≡ l.k + chain_length es (m - l.k) l.at;
    }
