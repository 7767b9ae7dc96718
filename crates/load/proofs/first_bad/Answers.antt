-- `first_bad` meets its contract: the lowest bad node from n on is the lowest of all.
use mathlib.Core.Path.{sym, ◌∙◌}
use native.Mathlib.Omega.{arith}
use Rattle.rules.specs.Load.{first_bad}
use Rattle.reach.proofs.Lowests.{lowest_start, lowest_here, lowest_next, lowest_none}
use Rattle.load.proofs.Answers.{found_yes, found_no}
use Rattle.load.proofs.first_bad.Goals as goal

pub loop-n-init : goal.loop-n-init
unfolding first_bad
loop-n-init c = lowest_start _ _

pub returns-then-bad_node : goal.returns-then-bad_node
returns-then-bad_node c =
    found_yes _ _ _ (omega arith)
    (lowest_here _ _ _ (omega arith) (sym c.bad_node.ensures ∙ c.if-bad_node.true)
    ∙ sym c.loop-n.invariant)

pub loop-n-preserved : goal.loop-n-preserved
loop-n-preserved c =
    c.loop-n.invariant
    ∙ lowest_next _ _ _ (omega arith) (sym c.bad_node.ensures ∙ c.if-bad_node.false)

pub returns : goal.returns
returns c =
    found_no _ _ _ (omega arith) (lowest_none _ _ _ (omega arith) ∙ sym c.loop-n.invariant)
