-- `chain` meets its contract: the walk from n on is the walk from FREE on, and the length is k and
-- what follows n. Edges are below m, so it stays in the table.
use mathlib.Core.Path.{sym, ◌∙◌}
use native.Mathlib.Omega.{arith}
use Rattle.base.proofs.Tests.{tests}
use borrow.Author.Rules.{rules}
use Rattle.load.proofs.Laws.{chain_turn, chain_out}
use Rattle.load.proofs.Laws.{length_end, length_next}
use Rattle.load.proofs.chain.Goals as goal
use Rattle.load.proofs.chain.Goals.{then-next-graph-via-then-next-graph}
use Rattle.load.proofs.chain.Goals.{then-next-graph-via-else-next-graph+then-free-to-ne0}

pub returns-then-graph-at-ne0-clause-answer_value
    : goal.returns-then-graph-at-ne0-clause-answer_value
returns-then-graph-at-ne0-clause-answer_value c =
    rw (c.loop-k.invariant.rest, chain_turn _ _ _ _ _ _ _ c.loop-k-test.true)
    (search (tests, rules) depth 12)

pub returns-then-next-eq0 : goal.returns-then-next-eq0
returns-then-next-eq0 c =
    let end = c.if-next-eq0.true in
    record {
      answer_value = rw (c.loop-k.invariant.rest, chain_turn _ _ _ _ _ _ _ c.loop-k-test.true)
          (search (tests, rules) depth 12);
      free_value = length_end _ _ _ _ _ _ c.loop-k.invariant.count c.loop-k-test.true end;
    }

pub returns-then-next-graph : goal.returns-then-next-graph
returns-then-next-graph c =
    record {
      answer_value = rw (c.loop-k.invariant.rest, chain_turn _ _ _ _ _ _ _ c.loop-k-test.true)
          (elim c.then-next-graph.branch [
            | then-next-graph-via-then-next-graph w ↦
                search (tests, rules) depth 12
            | then-next-graph-via-else-next-graph+then-free-to-ne0 w ↦
                let marked = rw c.from-to.ensures at w.if-free-to-ne0.true in
                search (tests, rules) depth 12
          ]);
      free_value = tt;
    }

pub loop-k-preserved : goal.loop-k-preserved
loop-k-preserved c =
    let on = c.if-next-eq0.false in
    let bare = rw c.from-to.ensures at c.if-free-to-ne0.false in
    rw c.from-to.ensures record {
      inside = omega (arith, c.requires.below c.loop-k.at);
      rest = c.loop-k.invariant.rest
          ∙ sym (rw (chain_turn _ _ _ _ _ _ _ c.loop-k-test.true)
          (search (tests, rules) depth 12));
      count = length_next _ _ _ _ _ _ c.loop-k.invariant.count c.loop-k-test.true on;
    }

pub returns-clause-answer_value : goal.returns-clause-answer_value
returns-clause-answer_value c =
    chain_out _ _ _ _ _ _ _ (omega arith) ∙ sym c.loop-k.invariant.rest
