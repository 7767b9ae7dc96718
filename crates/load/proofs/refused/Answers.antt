-- `refused` meets its contract: its code is not 0, so that no table is made.
use mathlib.Core.Path.{refl}
use native.Mathlib.Omega.{arith}
use Rattle.rules.specs.Table.{refused_with}
use Rattle.load.proofs.Answers.{load_refused}
use Rattle.load.proofs.refused.Goals as goal

pub returns-clause-by_index : goal.returns-clause-by_index
returns-clause-by_index c = λ m r given edges colours. rw c.refusal_with.ensures
    (load_refused m r given edges colours
    (refused_with c.args.code c.args.node c.args.detail) _ _ refl (omega arith)
    c.fresh.ensures)
