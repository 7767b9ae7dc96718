-- `begin` meets its contract: its three tests are those of `opened`, in the same order, and where
-- all are passed `start` is what it says.
use borrow.Author.Rules.{rules}
use Rattle.base.proofs.Tests.{tests, pick_yes, pick_no, every_skip, every_last, le_yes}
use Rattle.lines.specs.Lines.{opened}
use Rattle.lines.proofs.begin.Goals as goal
use Rattle.lines.proofs.begin.Goals.{then-left-nodes-via-then-left-nodes as no_left}
use Rattle.lines.proofs.begin.Goals.{then-left-nodes-via-else-left-nodes+then-right-nodes as no_right}
use Rattle.lines.proofs.begin.Goals.{then-left-nodes-via-else-left-nodes+else-right-nodes+then-colour-nodes as no_colour}

pub returns-then-left-nodes : goal.returns-then-left-nodes
unfolding opened
returns-then-left-nodes c =
    pick_no _ _ _ _
    (elim c.then-left-nodes.branch [
      | no_left w ↦ search (tests, rules) depth 12
      | no_right w ↦ search (tests, rules) depth 12
      | no_colour w ↦ search (tests, rules) depth 12
    ]) (c.refused.ensures _ _ _)

pub returns : goal.returns
unfolding opened
returns c =
    pick_yes _ _ _ _ (every_skip _ _ _ (le_yes _ _ c.if-left-nodes.false)
    (every_skip _ _ _ (le_yes _ _ c.if-right-nodes.false)
    (every_last _ _ (le_yes _ _ c.if-colour-nodes.false)))) c.start.ensures
