-- `lowest_shared` meets its contract: the lowest shared node from n on is the lowest of all.
use mathlib.Core.Path.{sym, ◌∙◌}
use native.Mathlib.Omega.{arith}
use Rattle.rules.specs.Load.{first_shared}
use Rattle.reach.proofs.Lowests.{lowest_start, lowest_here, lowest_next, lowest_none}
use Rattle.load.proofs.Answers.{found_yes, found_no}
use Rattle.load.proofs.lowest_shared.Goals as goal

pub loop-n-init : goal.loop-n-init
unfolding first_shared
loop-n-init c = lowest_start _ _

pub returns-then-shared : goal.returns-then-shared
returns-then-shared c =
    found_yes _ _ _ (omega arith)
    (lowest_here _ _ _ (omega arith) (sym c.shared.ensures ∙ c.if-shared.true)
    ∙ sym c.loop-n.invariant)

pub loop-n-preserved : goal.loop-n-preserved
loop-n-preserved c =
    c.loop-n.invariant
    ∙ lowest_next _ _ _ (omega arith) (sym c.shared.ensures ∙ c.if-shared.false)

pub returns : goal.returns
returns c =
    found_no _ _ _ (omega arith) (lowest_none _ _ _ (omega arith) ∙ sym c.loop-n.invariant)
